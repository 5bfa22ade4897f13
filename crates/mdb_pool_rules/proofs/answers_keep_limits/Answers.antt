use Rattle.mdb_pool_rules.proofs.LimitsAreKept.{answer-within}
use Rattle.mdb_pool_rules.proofs.answers_keep_limits.Goals as goal

pub returns : goal.returns
returns c = answer-within
