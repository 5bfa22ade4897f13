-- The texts of events of servers and of the topology, and which of them entries show.
use Rattle.std.specs.Prelude.{◌≡◌, ℕ, ℤ, ◌<◌, ◌^◌, ◌&&◌, List, ◌++◌, codes, decimal, Bool, true, Option, Some, None, IfSome, int_le, pos, FitsSigned}
use Rattle.std.specs.Int.{w64}
use Rattle.mdb_base.specs.AddressRule.{is_address}
use Rattle.mdb_base.specs.ErrorText.{error_text}
use Rattle.mdb_base.specs.Spelling.{address}
use Rattle.mdb_describe.specs.InfoText.{type_name}
use Rattle.mdb_events.specs.Words.{signed_or_dash, truth}
use Rattle.mdb_srv.specs.Polling.{topology_name}
use Rattle.mdb_srv.specs.declared.topology_type.TopologyType.{TopologyType}
use Rattle.mdb_parts.specs.ErrorParts.{is_error, IsErrorOfTypes}
use Rattle.mdb_event_reading.specs.declared.shown_sdam.ShownBeat.{ShownBeat}
use Rattle.mdb_event_reading.specs.declared.shown_sdam.ShownSdam.{ShownSdam}
use Rattle.mdb_event_reading.specs.declared.shown_sdam.ShownSdam.TheVariants as event

-- a topology's type, and how many servers it has
abbrev pub kind_text : TopologyType → ℕ → List ℕ
kind_text kind n = topology_name kind ++ (codes "/" ++ decimal n)

abbrev pub beat_text : ShownBeat → List ℕ
beat_text b = address b.address ++ (codes " awaited=" ++ (truth b.awaited ++ (codes " driver=" ++ (decimal b.driver ++ (codes " server=" ++ signed_or_dash b.server)))))

abbrev pub shown_sdam : ShownSdam → List ℕ
shown_sdam (event.ServerChanged a old new) = codes "ServerDescriptionChanged " ++ (address a ++ (codes " " ++ (type_name old ++ (codes " " ++ type_name new))))
shown_sdam (event.ServerOpening a) = codes "ServerOpening " ++ address a
shown_sdam (event.ServerClosed a) = codes "ServerClosed " ++ address a
shown_sdam (event.TopologyChanged old count new size) = codes "TopologyDescriptionChanged " ++ (kind_text old count ++ (codes " " ++ kind_text new size))
shown_sdam event.TopologyOpening = codes "TopologyOpening"
shown_sdam event.TopologyClosed = codes "TopologyClosed"
shown_sdam (event.Started b) = codes "ServerHeartbeatStarted " ++ beat_text b
shown_sdam (event.Succeeded b n) = codes "ServerHeartbeatSucceeded " ++ (beat_text b ++ (codes " duration=" ++ decimal n))
shown_sdam (event.Failed b n e) = codes "ServerHeartbeatFailed " ++ (beat_text b ++ (codes " duration=" ++ (decimal n ++ (codes " " ++ error_text e))))

-- addresses and errors keep their rules, and a server's number isn't negative

abbrev pub is_server_id : Option ℤ → Bool
is_server_id None = true
is_server_id (Some z) = int_le (pos 0) z

abbrev pub is_beat : ShownBeat → Bool
is_beat b = is_address b.address && is_server_id b.server

abbrev pub is_shown : ShownSdam → Bool
is_shown (event.ServerChanged a old new) = is_address a
is_shown (event.ServerOpening a) = is_address a
is_shown (event.ServerClosed a) = is_address a
is_shown (event.TopologyChanged old count new size) = true
is_shown event.TopologyOpening = true
is_shown event.TopologyClosed = true
is_shown (event.Started b) = is_beat b
is_shown (event.Succeeded b n) = is_beat b
is_shown (event.Failed b n e) = is_beat b && is_error e

-- each number is one of its type

pub record IsBeatOfTypes (b : ShownBeat) : Type 0 where
  pub driver : b.driver < 2 ^ 32
  pub server : IfSome b.server (FitsSigned w64)

abbrev pub IsShownOfTypes : ShownSdam → Type 0
IsShownOfTypes (event.TopologyChanged old count new size) = (count < 2 ^ 64) × (size < 2 ^ 64)
IsShownOfTypes (event.Started b) = IsBeatOfTypes b
IsShownOfTypes (event.Succeeded b n) = (n < 2 ^ 64) × IsBeatOfTypes b
IsShownOfTypes (event.Failed b n e) = (n < 2 ^ 64) × IsBeatOfTypes b × IsErrorOfTypes e
IsShownOfTypes _ = Unit {0}

-- An event that an entry shows.
pub record IsShown (e : ShownSdam) : Type 0 where
  pub types : IsShownOfTypes e
  pub rules : is_shown e ≡ true

-- The text is that of an event.
pub record IsSdamText (text : List ℕ) : Type 0 where
  pub event : ShownSdam
  pub own : IsShown event
  pub text_is : text ≡ shown_sdam event

-- what reading a check needs of it

abbrev pub IsServerId : ℤ → Type 0
IsServerId z = FitsSigned w64 z × (int_le (pos 0) z ≡ true)

pub record IsBeat (b : ShownBeat) : Type 0 where
  pub place : is_address b.address ≡ true
  pub driver : b.driver < 2 ^ 32
  pub server : IfSome b.server IsServerId
