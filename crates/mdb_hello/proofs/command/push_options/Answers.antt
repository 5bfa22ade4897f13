use Rattle.mdb_hello.proofs.Tables.{two_added}
use Rattle.mdb_hello.proofs.command.push_options.Goals as goal

pub returns : goal.returns
returns c = two_added _ _ _ _ _ c.in_ok-push_required.ensures c.in_ok-push_required-2.ensures
