use Rattle.mdb_pool_rules.proofs.Fair.{serving-settles}
use Rattle.mdb_pool_rules.proofs.servings_leave_nobody_waiting.Goals as goal

pub returns : goal.returns
returns c = serving-settles
