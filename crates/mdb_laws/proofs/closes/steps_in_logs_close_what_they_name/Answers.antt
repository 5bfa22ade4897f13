use Rattle.mdb_laws.proofs.OfCloses.Driver.{log-due}
use Rattle.mdb_laws.proofs.closes.steps_in_logs_close_what_they_name.Goals as goal

pub returns : goal.returns
returns c = log-due
