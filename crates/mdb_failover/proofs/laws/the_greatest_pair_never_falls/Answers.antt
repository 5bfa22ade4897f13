use Rattle.mdb_failover.proofs.Falling.{never-falls}
use Rattle.mdb_failover.proofs.laws.the_greatest_pair_never_falls.Goals as goal

pub returns : goal.returns
returns c = never-falls
