use Rattle.std.proofs.Common.{Some}
use Rattle.mdb_topology.proofs.DriverOpened.ScriptsLog.{kept-log}
use Rattle.mdb_laws.proofs.logs.logs_keep_limits.Goals as goal

pub returns : goal.returns
returns c = λ w log z. (kept-log (Some w) log z).within
