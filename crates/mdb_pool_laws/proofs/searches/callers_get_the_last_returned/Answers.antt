use Rattle.mdb_pool_laws.proofs.OfSearches.Alone.{answer-last}
use Rattle.mdb_pool_laws.proofs.searches.callers_get_the_last_returned.Goals as goal

pub returns : goal.returns
returns c = answer-last
