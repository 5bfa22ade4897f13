use Rattle.mdb_failover.proofs.Falling.{none-above}
use Rattle.mdb_failover.proofs.laws.no_pair_is_above_the_greatest.Goals as goal

pub returns : goal.returns
returns c = none-above
