use Rattle.mdb_failover.proofs.Opening.{opening}
use Rattle.mdb_failover.proofs.laws.openings_follow.Goals as goal

pub returns : goal.returns
returns c = opening
