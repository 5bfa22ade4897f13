use Rattle.mdb_failover.proofs.Takes.{failing}
use Rattle.mdb_failover.proofs.laws.losses_are_followed.Goals as goal

pub returns : goal.returns
returns c = failing
