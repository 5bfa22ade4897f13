-- Bytes that are a text, and others.
use Rattle.std.proofs.Common.{◌≡◌, ℕ, Bool, true, false, List, Option, Some, None, refl, sym, ap}
use Rattle.std.specs.Prelude.{if◌then◌else◌}
use Rattle.std.specs.Str.{IsUtf8, is_utf8}
use Rattle.std.proofs.lemmas.Str.{IsUtf8-from_is_utf8, is_utf8-from_IsUtf8}
use Rattle.mdb_bson.specs.Reading.{utf8}

pub is_text : (bytes : List ℕ) → IsUtf8 bytes → Some bytes ≡ utf8 bytes
is_text bytes is = sym (ap (λ (b : Bool). if b then Some bytes else None) (is_utf8-from_IsUtf8 bytes is))

pub is_none : (bytes : List ℕ) → (IsUtf8 bytes → ⊥) → None ≡ utf8 bytes
is_none bytes none = sym (go (is_utf8 bytes) refl)
  where
    go : (b : Bool) → is_utf8 bytes ≡ b → (if b then Some bytes else None) ≡ None
    go true e = absurd (none (IsUtf8-from_is_utf8 bytes e))
    go false e = refl
