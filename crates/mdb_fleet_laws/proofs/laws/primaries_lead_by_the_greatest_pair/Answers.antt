use Rattle.mdb_fleet_laws.proofs.Following.{fails-over}
use Rattle.mdb_fleet_laws.proofs.laws.primaries_lead_by_the_greatest_pair.Goals as goal

pub returns : goal.returns
returns c = λ n events some few small stood. (fails-over n some few events small stood).leads
