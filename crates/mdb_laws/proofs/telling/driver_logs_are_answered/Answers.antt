use Rattle.mdb_laws.proofs.OfTelling.Logs.{driver-answered}
use Rattle.mdb_laws.proofs.telling.driver_logs_are_answered.Goals as goal

pub returns : goal.returns
returns c = driver-answered
