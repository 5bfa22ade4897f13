use Rattle.mdb_laws.proofs.OfTelling.Logs.{steps-answered}
use Rattle.mdb_laws.proofs.telling.logs_of_steps_are_answered.Goals as goal

pub returns : goal.returns
returns c = steps-answered
