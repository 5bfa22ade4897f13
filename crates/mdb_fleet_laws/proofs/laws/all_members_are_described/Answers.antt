use Rattle.mdb_fleet_laws.proofs.Following.{fails-over}
use Rattle.mdb_fleet_laws.proofs.laws.all_members_are_described.Goals as goal

pub returns-clause-known : goal.returns-clause-known
returns-clause-known c = λ n events some few small stood. (fails-over n some few events small stood).known

pub returns-clause-only : goal.returns-clause-only
returns-clause-only c = λ n events some few small stood. (fails-over n some few events small stood).only

pub returns-clause-ordered : goal.returns-clause-ordered
returns-clause-ordered c = λ n events some few small stood. (fails-over n some few events small stood).ordered
