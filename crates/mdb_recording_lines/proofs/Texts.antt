-- What a line tells, by whether it is text and what its value is.
use Rattle.std.proofs.Common.{◌≡◌, ℕ, Bool, true, false, if◌then◌else◌, List, codes, Some, None, refl, sym, ap, ◌∙◌}
use Rattle.std.specs.Str.{IsUtf8, is_utf8}
use Rattle.std.proofs.lemmas.Str.{IsUtf8-from_is_utf8, is_utf8-from_IsUtf8}
use Rattle.json.specs.Json.{Json, document}
use Rattle.mdb_recording_lines.specs.LineForms.{malformed, said, object_from, kind_from, text_at}

-- bytes that are no text
pub not-text : (line : List ℕ) → (IsUtf8 line → ⊥) → malformed ≡ said line
not-text line none = sym (go (is_utf8 line) refl)
  where
    go : (b : Bool) → is_utf8 line ≡ b → object_from (if b then document line else None) ≡ malformed
    go true e = absurd (none (IsUtf8-from_is_utf8 line e))
    go false e = refl

-- a text that is no JSON
pub no-value : (line text : List ℕ) → text ≡ line → document text ≡ None → malformed ≡ said line
no-value line text same none = sym (ap object_from (go (is_utf8 line)))
  where
    go : (b : Bool) → (if b then document line else None) ≡ None
    go true = ap document (sym same) ∙ none
    go false = refl

-- the text of a value
pub value-said : (line text : List ℕ) (j : Json) → text ≡ line → IsUtf8 line → document text ≡ Some j → kind_from (text_at (codes "kind") j) j ≡ said line
value-said line text j same is value = sym (ap (λ b. object_from (if b then document line else None)) (is_utf8-from_IsUtf8 line is) ∙ ap object_from (ap document (sym same) ∙ value))
