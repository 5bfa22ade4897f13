use Rattle.mdb_pool_laws.proofs.OfCloses.Alone.{answer-due}
use Rattle.mdb_pool_laws.proofs.closes.pools_close_what_they_must.Goals as goal

pub returns : goal.returns
returns c = λ s h step z sound. answer-due s h z sound step
