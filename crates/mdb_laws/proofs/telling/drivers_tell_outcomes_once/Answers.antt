use Rattle.mdb_laws.proofs.OfTelling.Logs.{driver-tells-once}
use Rattle.mdb_laws.proofs.telling.drivers_tell_outcomes_once.Goals as goal

pub returns : goal.returns
returns c = driver-tells-once
