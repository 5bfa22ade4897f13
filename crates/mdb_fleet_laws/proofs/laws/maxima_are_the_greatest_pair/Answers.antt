use Rattle.mdb_fleet_laws.proofs.Following.{fails-over}
use Rattle.mdb_fleet_laws.proofs.laws.maxima_are_the_greatest_pair.Goals as goal

pub returns-clause-election : goal.returns-clause-election
returns-clause-election c = λ n events some few small stood. (fails-over n some few events small stood).election

pub returns-clause-version : goal.returns-clause-version
returns-clause-version c = λ n events some few small stood. (fails-over n some few events small stood).version
