-- How an error stands in a line, and which errors a line spells.
use Rattle.std.specs.Prelude.{ℕ, ◌&&◌, nat_le, int_le, pos, List, [], ◌∷◌, length, Bool, true, Option, Some, None, option_map, IfSome, codes, FitsSigned}
use Rattle.std.specs.Int.{w32, w64}
use Rattle.std.specs.List.{list_all}
use Rattle.mdb_base.specs.ErrorText.{version_text}
use Rattle.mdb_base.specs.declared.error.Error.{Error}
use Rattle.mdb_base.specs.declared.error.ErrorKind.{ErrorKind}
use Rattle.mdb_base.specs.declared.error.ErrorKind.TheVariants as kind
use Rattle.mdb_base.specs.declared.topology_version.TopologyVersion.{TopologyVersion}
use Rattle.mdb_parts.specs.Parts.{Part, texts}
use Rattle.mdb_parts.specs.Reading.{lacks}
use Rattle.mdb_parts.specs.Types.{IsIdOfTypes}
use Rattle.mdb_parts.specs.WordRule.{is_word, keeps}

-- labels, where there are any
abbrev pub labels_word : List (List ℕ) → Option (List ℕ)
labels_word [] = None
labels_word (label ∷ labels) = Some (texts (label ∷ labels))

-- the message, which may have spaces, and stands last
abbrev pub message_part : List ℕ → List Part
message_part message = (codes " msg=", Some message) ∷ []

-- what stands behind the kind of an error
abbrev pub error_parts : Error → List Part
error_parts e = (codes " labels=", labels_word e.labels) ∷ (codes " tv=", option_map version_text e.topology_version) ∷ message_part e.message

-- A counter of a version isn't negative, nor is the code of a command.
abbrev pub is_version : TopologyVersion → Bool
is_version v = int_le (pos 0) v.counter

abbrev pub is_kind : ErrorKind → Bool
is_kind (kind.Command code) = int_le (pos 0) code
is_kind _ = true

-- at most 8 words
unfoldable pub are_labels : List (List ℕ) → Bool
are_labels labels = nat_le (length labels) 8 && list_all is_word labels

-- at most 256 characters, and no bar
unfoldable pub is_message : List ℕ → Bool
is_message text = nat_le (length text) 256 && lacks 124 text

unfoldable pub is_error : Error → Bool
is_error e = is_kind e.kind && (are_labels e.labels && (keeps is_version e.topology_version && is_message e.message))

-- each number is one of its type

pub record IsVersionOfTypes (v : TopologyVersion) : Type 0 where
  pub process : IsIdOfTypes v.process_id
  pub counter : FitsSigned w64 v.counter

abbrev pub IsKindOfTypes : ErrorKind → Type 0
IsKindOfTypes (kind.Command code) = FitsSigned w32 code
IsKindOfTypes _ = Unit {0}

pub record IsErrorOfTypes (e : Error) : Type 0 where
  pub own : IsKindOfTypes e.kind
  pub version : IfSome e.topology_version IsVersionOfTypes
