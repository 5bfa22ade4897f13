use Rattle.std.proofs.Common.{length}
use Rattle.mdb_fleet_session.proofs.Numbers.{begun}
use Rattle.mdb_fleet_session.proofs.fleet.begin.Goals as goal

pub returns-clause-ok : goal.returns-clause-ok
returns-clause-ok c = λ ok. begun (length c.args.members.now) c.of.result c.fill.new.self (c.fill.ensures.after (λ y same. same)) c.of.ensures
