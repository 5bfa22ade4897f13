-- How errors are spelled.
use Rattle.std.specs.Prelude.{ℕ, List, [], ◌∷◌, ◌++◌, Option, Some, None, codes, flat_map}
use Rattle.std.specs.Fmt.{signed_decimal}
use Rattle.mdb_base.specs.declared.error.ErrorKind.{ErrorKind}
use Rattle.mdb_base.specs.declared.error.ErrorKind.TheVariants.{Network, NetworkTimeout, Auth, IncompatibleServer, Command, Other}
use Rattle.mdb_base.specs.declared.error.Error.{Error}
use Rattle.mdb_base.specs.declared.topology_version.TopologyVersion.{TopologyVersion}
use Rattle.mdb_base.specs.Spelling.{object_id}

-- the process id and the counter with a dot between
abbrev pub version_text : TopologyVersion → List ℕ
version_text v = object_id v.process_id ++ (codes "." ++ signed_decimal v.counter)

abbrev pub kind_text : ErrorKind → List ℕ
kind_text Network = codes "network"
kind_text NetworkTimeout = codes "timeout"
kind_text Auth = codes "auth"
kind_text IncompatibleServer = codes "incompatible"
kind_text (Command code) = codes "command." ++ signed_decimal code
kind_text Other = codes "other"

-- labels with commas between, and nothing where there is none
abbrev pub labels_text : List (List ℕ) → List ℕ
labels_text [] = []
labels_text (label ∷ labels) = codes " labels=" ++ (label ++ flat_map (λ l. codes "," ++ l) labels)

abbrev pub version_part : Option TopologyVersion → List ℕ
version_part None = []
version_part (Some v) = codes " tv=" ++ version_text v

-- the kind, the labels, the version and the message
abbrev pub error_text : Error → List ℕ
error_text e = kind_text e.kind ++ (labels_text e.labels ++ (version_part e.topology_version ++ (codes " msg=" ++ e.message)))
