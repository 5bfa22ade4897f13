-- Facts of a server: of what is known of it, of its pool as a whole, or of its monitor. The others are of one connection or one request.
use Rattle.std.specs.Prelude.{Bool, true, false}
use Rattle.mdb_events.specs.declared.cmap.CmapEvent.TheVariants.{PoolCreated, PoolReady, PoolCleared, PoolClosed}
use Rattle.mdb_events.specs.declared.fact.Fact.{Fact}
use Rattle.mdb_events.specs.declared.fact.Fact.TheVariants.{Opened, Pool, Raised, Sdam, CheckNow, Cancel}

abbrev pub is_of_server : Fact → Bool
is_of_server (Opened p a) = true
is_of_server (Raised p service error) = true
is_of_server (Sdam event) = true
is_of_server (CheckNow a) = true
is_of_server (Cancel a) = true
is_of_server (Pool p (PoolCreated e)) = true
is_of_server (Pool p (PoolReady e)) = true
is_of_server (Pool p (PoolCleared e)) = true
is_of_server (Pool p (PoolClosed e)) = true
is_of_server _ = false
