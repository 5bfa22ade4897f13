-- What the numbers and texts of calls mean.
use Rattle.std.specs.Prelude.{ℕ, ℤ, ◌==◌, List, [], ◌∷◌, Option, Some, None, option_map, int_le, pos, if◌then◌else◌}
use Rattle.mdb_base.specs.Spelling.{id_of}
use Rattle.mdb_base.specs.declared.object_id.ObjectId.{ObjectId}
use Rattle.mdb_base.specs.declared.times.ClusterTime.{ClusterTime}
use Rattle.mdb_log.specs.declared.step.Established.{Established}
use Rattle.mdb_log.specs.declared.step.Use.{Use}
use Rattle.mdb_log.specs.declared.step.Use.TheVariants as use_
use Rattle.mdb_session.specs.Texts.{text_in}
use Rattle.mdb_c.specs.declared.connections.EstablishedNumbers.{EstablishedNumbers}

-- how a connection was used, counted from 0
abbrev pub use_of : ℕ → Option Use
use_of n = if n == 0 then Some use_.Ok else if n == 1 then Some use_.Errored else if n == 2 then Some use_.Dropped else if n == 3 then Some use_.Streaming else None

-- a number of the server's, and none where it is negative
abbrev pub server_of : ℤ → Option ℤ
server_of n = if int_le (pos 0) n then Some n else None

abbrev pub service_word : Option (List ℕ) → Option (Option ObjectId)
service_word None = None
service_word (Some word) = option_map (λ id. Some id) (id_of word)

-- The service of 24 hex digits, and none for no bytes.
abbrev pub service_of : List ℕ → Option (Option ObjectId)
service_of [] = Some None
service_of (b ∷ bs) = service_word (text_in (b ∷ bs))

-- What is told of an established connection, whose wire version is not negative.
abbrev pub made_of : EstablishedNumbers → List ℕ → Option Established
made_of made service =
    if int_le (pos 0) made.wire
    then option_map (λ s. record { wire = made.wire; service_id = s; server_id = server_of made.server_id }) (service_of service)
    else None

-- the time of the cluster that has this number
abbrev pub cluster : ℕ → ClusterTime
cluster n = record { 0 = n }
