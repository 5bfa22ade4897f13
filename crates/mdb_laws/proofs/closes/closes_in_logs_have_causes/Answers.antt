use Rattle.mdb_laws.proofs.OfCloses.Driver.{log-caused}
use Rattle.mdb_laws.proofs.closes.closes_in_logs_have_causes.Goals as goal

pub returns : goal.returns
returns c = log-caused
