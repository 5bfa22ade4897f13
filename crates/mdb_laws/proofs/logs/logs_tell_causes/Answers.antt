use Rattle.mdb_laws.proofs.WholeLogs.{log-tells}
use Rattle.mdb_laws.proofs.logs.logs_tell_causes.Goals as goal

pub returns : goal.returns
returns c = log-tells
