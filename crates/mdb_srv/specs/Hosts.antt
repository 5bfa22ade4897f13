-- Labels and domains of host names, and which of the found hosts are accepted.
use Rattle.std.specs.Prelude.{ℕ, ◌==◌, nat_eq, nat_le, List, [], ◌∷◌, length, drop, filter, find, Bool, not, if◌then◌else◌, Option, Some, None, Result, Ok, Err}
use Rattle.std.specs.List.{slice_split, ends_with, join_with_byte}
use Rattle.std.specs.Cmp.Lexicographic.{pointwise}
use Rattle.mdb_base.specs.declared.address.ServerAddress.{ServerAddress}
use Rattle.mdb_srv.specs.declared.hosts.DomainMismatch.{DomainMismatch}
use Rattle.mdb_srv.specs.declared.hosts.DomainMismatch.TheVariants.{Error, Skip}
use Rattle.mdb_srv.specs.Refusals.{no_records, mismatch}

-- the labels of a host name, which stand between its dots
abbrev pub labels : List ℕ → List (List ℕ)
labels host = slice_split (λ b. b == 46) host

-- the domain of a host name: the labels after the first of three or more, else all of them
abbrev pub domain : List ℕ → List (List ℕ)
domain host = if nat_le 3 (length (labels host)) then drop 1 (labels host) else labels host

-- whether the labels of a host after its first end with these
abbrev pub is_within : List (List ℕ) → ServerAddress → Bool
is_within last_labels found = ends_with (pointwise nat_eq) (drop 1 (labels found.host)) last_labels

-- whether a host that was found is in the domain of the host that was asked for
abbrev pub matches : List ℕ → ServerAddress → Bool
matches original found = is_within (domain original) found

-- these hosts, where there is one
abbrev pub some_hosts : List ℕ → List ServerAddress → Result (List ServerAddress) (List ℕ)
some_hosts original [] = Err (no_records original)
some_hosts original (host ∷ more) = Ok (host ∷ more)

-- these hosts, where none of them is a stranger
abbrev pub no_stranger : List ℕ → List ServerAddress → Option ServerAddress → Result (List ServerAddress) (List ℕ)
no_stranger original hosts None = some_hosts original hosts
no_stranger original hosts (Some stranger) =
    Err (mismatch original stranger.host (join_with_byte 46 (domain original)))

-- the found hosts that are accepted, or the text of the refusal
abbrev pub valid_hosts : List ℕ → DomainMismatch → List ServerAddress → Result (List ServerAddress) (List ℕ)
valid_hosts original Error hosts = no_stranger original hosts (find (λ host. not (matches original host)) hosts)
valid_hosts original Skip hosts = some_hosts original (filter (matches original) hosts)
