use Rattle.mdb_pool_laws.proofs.OfCloses.Alone.{answer-caused}
use Rattle.mdb_pool_laws.proofs.closes.pools_close_by_causes.Goals as goal

pub returns : goal.returns
returns c = λ s h step z sound. answer-caused s h z sound step
