use Rattle.mdb_laws.proofs.OfNames.Driver.{driver-names}
use Rattle.mdb_laws.proofs.names.events_name_living_connections.Goals as goal

pub returns : goal.returns
returns c = driver-names
