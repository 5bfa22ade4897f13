use Rattle.mdb_failover.specs.Elections.{top}
use Rattle.mdb_failover.proofs.Primaries.{one-primary}
use Rattle.mdb_failover.proofs.laws.at_most_one_is_primary.Goals as goal

pub returns : goal.returns
returns c = λ n winners pairs d f. one-primary winners (top pairs) d.servers f.ordered f.leads
