-- The values of fields, taken from the last one on.
use Rattle.std.proofs.Common.{◌≡◌, List, [], ◌∷◌, ◌++◌, map, reverse, append_assoc, Global, String, ◌∙◌}
use Rattle.std.proofs.lemmas.List.{map-append, reverse-append}
use Rattle.mdb_base.specs.Document.{Content, value_content, named_content}
use Rattle.mdb_base.specs.declared.document.Value.{Value}
use Rattle.mdb_bson.specs.Reading.{values_of}

pub popped : (total : List Content) (old new : List (String Global × Value)) (f : String Global × Value) (values : List Value) → old ≡ new ++ f ∷ []
    → total ≡ values_of (map named_content old) ++ map value_content (reverse values)
    → total ≡ values_of (map named_content new) ++ map value_content (reverse (values ++ f.1 ∷ []))
popped total old new f values e so_far =
    so_far ∙ simp (e, map-append, reverse-append, append_assoc)
