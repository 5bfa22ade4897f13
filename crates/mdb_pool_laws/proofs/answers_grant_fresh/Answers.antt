use Rattle.mdb_pool.proofs.Histories.GrantsAreFresh.{answer-fresh}
use Rattle.mdb_pool_laws.proofs.answers_grant_fresh.Goals as goal

pub returns : goal.returns
returns c = answer-fresh
