-- The constants are the times that are named.
use Rattle.std.proofs.Common.{◌≡◌, refl}
use Rattle.mdb_monitor.specs.declared.constants.TheConstants.{DEFAULT_HEARTBEAT_FREQUENCY, MIN_HEARTBEAT_FREQUENCY}
use Rattle.mdb_monitor.specs.Times.{default_heartbeat, least_heartbeat}

pub default-is : DEFAULT_HEARTBEAT_FREQUENCY ≡ default_heartbeat
default-is = refl

pub least-is : MIN_HEARTBEAT_FREQUENCY ≡ least_heartbeat
least-is = refl
