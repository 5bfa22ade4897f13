-- Whether a monitor may wait for answers that come when something changes.
use Rattle.std.specs.Prelude.{Bool, true, false, not}
use Rattle.mdb_monitor.specs.declared.mode.ServerMonitoringMode.{ServerMonitoringMode}
use Rattle.mdb_monitor.specs.declared.mode.ServerMonitoringMode.TheVariants.{Stream, Poll, Auto}

-- where it is left to the driver, not in a function as a service
abbrev pub allows_streaming : ServerMonitoringMode → Bool → Bool
allows_streaming Stream is_faas = true
allows_streaming Poll is_faas = false
allows_streaming Auto is_faas = not is_faas
