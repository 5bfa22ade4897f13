use Rattle.mdb_hello.proofs.Tables.{five_added}
use Rattle.mdb_hello.proofs.writing.write_election.Goals as goal

pub returns : goal.returns
returns c =
    five_added _ _ _ _ _ _ _ _ _ _ _ c.in_ok-push_optional.ensures c.in_ok-push_optional-2.ensures c.in_ok-push_optional-3.ensures c.in_ok-push_optional-4.ensures
    c.in_ok-push_required.ensures
