use Rattle.mdb_laws.proofs.OfTelling.Logs.{told-once}
use Rattle.mdb_laws.proofs.telling.outcomes_are_told_once.Goals as goal

pub returns : goal.returns
returns c = told-once
