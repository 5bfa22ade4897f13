use Rattle.mdb_laws.proofs.WholeHeadline.{log-searches}
use Rattle.mdb_laws.proofs.searches.callers_in_logs_get_the_last_returned.Goals as goal

pub returns : goal.returns
returns c = log-searches
