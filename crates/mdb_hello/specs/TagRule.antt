-- Which tags a reply has.
use Rattle.std.specs.Prelude.{◌≡◌, ℕ, List, map, Option, Some, None, IsTrue}
use Rattle.mdb_base.specs.Document.{Content, nested, Field, listed_fields}
use Rattle.mdb_base.specs.Tags.{Tag, is_by_name}
use Rattle.mdb_hello.specs.Kinds.{named, tag_field}

-- The tags of these fields stand by name, each name once, with the first value that the fields have for it.
pub record AreTagsOf (fields : List Field) (tags : List Tag) : Type 0 where
  pub order : IsTrue (is_by_name tags)
  pub values : (name : List ℕ) → named name (map tag_field tags) ≡ named name fields

-- A reply has the tags of the document that its field holds, and none where it lacks the field.
abbrev pub HasTagsOf : Option Content → Option (List Tag) → Type 0
HasTagsOf (Some (nested fs)) (Some tags) = AreTagsOf (listed_fields fs) tags
HasTagsOf None None = Unit {0}
HasTagsOf _ _ = ⊥
