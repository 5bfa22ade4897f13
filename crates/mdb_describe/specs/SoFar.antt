-- The least session timeout of the servers so far. The contracts inside the crate speak by these words, and no public one does.
use Rattle.std.specs.Prelude.{ℕ, List, [], ◌∷◌, filter, if◌then◌else◌, Option, Some, None}
use Rattle.mdb_describe.specs.declared.description.ServerDescription.{ServerDescription}
use Rattle.mdb_describe.specs.Topology.{lesser, least_timeout}
use Rattle.mdb_describe.specs.Fields.{is_data_bearing, session_timeout}

abbrev pub next_least : Option (Option ℕ) → Option ℕ → Option ℕ
next_least None timeout = timeout
next_least (Some least) timeout = lesser least timeout

-- absent where there was no server yet
abbrev pub least_of : List ServerDescription → Option (Option ℕ)
least_of [] = None
least_of (s ∷ servers) = Some (least_timeout (s ∷ servers))

abbrev pub least_so_far : List ServerDescription → Option (Option ℕ)
least_so_far servers = least_of (filter (λ s. is_data_bearing s.server_type) servers)

-- with one more server, which counts where it holds data
abbrev pub with_one : Option (Option ℕ) → ServerDescription → Option (Option ℕ)
with_one least s = if is_data_bearing s.server_type then Some (next_least least (session_timeout s)) else least

abbrev pub or_none : Option (Option ℕ) → Option ℕ
or_none (Some least) = least
or_none None = None
