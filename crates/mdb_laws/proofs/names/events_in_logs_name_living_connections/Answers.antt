use Rattle.mdb_laws.proofs.OfNames.Driver.{log-names}
use Rattle.mdb_laws.proofs.names.events_in_logs_name_living_connections.Goals as goal

pub returns : goal.returns
returns c = log-names
