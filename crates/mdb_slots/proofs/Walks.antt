-- Walks along the chain of a bucket.
use Rattle.std.proofs.Common.{◌≡◌, ℕ, ◌<◌, ◌==◌, true, false, Option, Some, None, List, length, refl, sym, ◌∙◌, ap, arith}
use Rattle.mdb_slots.specs.declared.index_entry.IndexEntry.{IndexEntry}
use Rattle.mdb_slots.specs.Lists.{previous}
use Rattle.mdb_slots.specs.SlotIndex.{place_at, Linked, trail, seek, is_number}
use Rattle.mdb_slots.proofs.Trails.{linked-step}

module _ (n : ℕ) (es : List IndexEntry) (o : Option ℕ) (s : ℕ) (e : o ≡ Some s) (l : Linked es o (trail n o es) None) where
  pub step-within : s < length es
  step-within = (linked-step n es o s e l).0

  pub step-linked : Linked es (place_at es s).same (trail n (place_at es s).same es) None
  step-linked = (linked-step n es o s e l).2

  pub step-shorter : length (trail n (place_at es s).same es) < length (trail n o es)
  step-shorter = omega (arith, ap (λ (xs : List ℕ). length xs) (linked-step n es o s e l).1)

  pub step-seek : (k : ℕ) → is_number k (place_at es s).number ≡ false → seek k es (trail n (place_at es s).same es) ≡ seek k es (trail n o es)
  step-seek k w = sym (ap (λ xs. seek k es xs) (linked-step n es o s e l).1 ∙ rw w refl)

  pub step-found : (k : ℕ) → is_number k (place_at es s).number ≡ true → Some s ≡ seek k es (trail n o es)
  step-found k w = sym (ap (λ xs. seek k es xs) (linked-step n es o s e l).1 ∙ rw w refl)

  pub step-previous : (p : Option ℕ) (k : ℕ) → (s == k) ≡ false → previous (Some s) k (trail n (place_at es s).same es) ≡ previous p k (trail n o es)
  step-previous p k w = sym (ap (λ xs. previous p k xs) (linked-step n es o s e l).1 ∙ rw w refl)

  pub step-before : (p : Option ℕ) (k : ℕ) → (s == k) ≡ true → p ≡ previous p k (trail n o es)
  step-before p k w = sym (ap (λ xs. previous p k xs) (linked-step n es o s e l).1 ∙ rw w refl)
