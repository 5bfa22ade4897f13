-- What the kind of an error says, and which topology version is more recent.
use Rattle.std.specs.Prelude.{ℕ, ℤ, pos, Bool, true, false, not, ◌||◌, List, [], ◌∷◌, nat_eq, int_lt}
use Rattle.std.specs.List.{list_any}
use Rattle.std.specs.Cmp.Lexicographic.{pointwise}
use Rattle.std.specs.Ordering.{int_eq}
use Rattle.mdb_base.specs.declared.error.ErrorKind.{ErrorKind}
use Rattle.mdb_base.specs.declared.error.ErrorKind.TheVariants.{Network, NetworkTimeout, Auth, IncompatibleServer, Command}
use Rattle.mdb_base.specs.declared.error.Error.{Error}
use Rattle.mdb_base.specs.declared.topology_version.TopologyVersion.{TopologyVersion}
use Rattle.mdb_base.specs.Equality.{same_id}

abbrev pub is_timeout : ErrorKind → Bool
is_timeout NetworkTimeout = true
is_timeout _ = false

abbrev pub is_plain_network : ErrorKind → Bool
is_plain_network Network = true
is_plain_network _ = false

abbrev pub is_network : ErrorKind → Bool
is_network kind = is_plain_network kind || is_timeout kind

abbrev pub is_auth : ErrorKind → Bool
is_auth Auth = true
is_auth _ = false

abbrev pub is_incompatible : ErrorKind → Bool
is_incompatible IncompatibleServer = true
is_incompatible _ = false

-- a command error with one of these codes
abbrev pub has_code : List ℤ → ErrorKind → Bool
has_code codes (Command code) = list_any (λ c. int_eq code c) codes
has_code codes _ = false

abbrev pub is_recovering : ErrorKind → Bool
is_recovering kind = has_code (pos 11600 ∷ pos 11602 ∷ pos 13436 ∷ pos 189 ∷ pos 91 ∷ []) kind

abbrev pub is_not_writable : ErrorKind → Bool
is_not_writable kind = has_code (pos 10107 ∷ pos 13435 ∷ pos 10058 ∷ []) kind

abbrev pub is_shutting_down : ErrorKind → Bool
is_shutting_down kind = has_code (pos 11600 ∷ pos 91 ∷ []) kind

abbrev pub is_state_change : ErrorKind → Bool
is_state_change kind = is_recovering kind || is_not_writable kind

-- one of the error's labels is this one
abbrev pub has_label : Error → List ℕ → Bool
has_label error label = list_any (λ own. pointwise nat_eq own label) error.labels

-- another process, or a greater counter
abbrev pub is_more_recent : TopologyVersion → TopologyVersion → Bool
is_more_recent v w = not (same_id v.process_id w.process_id) || int_lt w.counter v.counter
