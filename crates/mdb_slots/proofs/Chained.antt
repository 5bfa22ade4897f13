-- All slots that have a number are chained, one after the other.
use Rattle.std.proofs.Common.{◌≡◌, ℕ, zero, suc, ◌<◌, Option, Some, None, List, [], length, refl, sym, ◌∙◌, ap, subst, set}
use Rattle.mdb_slots.specs.declared.index_entry.IndexEntry.{IndexEntry}
use Rattle.mdb_slots.specs.SlotIndex.{entry, head_at, place_at, number_at, numbers_of, masked, trail, bucket_in, Single, IsBucket, IsIndex}
use Rattle.mdb_slots.proofs.Numbers.{numbers-at, numbers-set, numbers-length, set-number, masked-none, masked-next, masked-at, masked-some, masked-length}
use Rattle.mdb_slots.proofs.IndexInserts.{index-insert}

-- no slot is chained
pub nothing-chained : (hs : List (Option ℕ)) (es : List IndexEntry) → ((b : ℕ) → head_at hs b ≡ None) → IsIndex hs es (masked zero (numbers_of es))
nothing-chained hs es h =
    record {
      buckets = λ b q. rw (h b) (bucket b);
      agrees = λ s k e. let f : None ≡ Some k = sym (masked-none (numbers_of es) s) ∙ e in cc;
      single = λ s t k e g. let f : None ≡ Some k = sym (masked-none (numbers_of es) s) ∙ e in cc;
      headed = λ s k e. let f : None ≡ Some k = sym (masked-none (numbers_of es) s) ∙ e in cc;
      long = masked-length zero (numbers_of es) ∙ numbers-length es;
    }
  where
    no-trail : (n : ℕ) → trail n None es ≡ []
    no-trail zero = refl
    no-trail (suc n) = refl

    bucket : (b : ℕ) → IsBucket (length hs) b None es (masked zero (numbers_of es)) (trail (length es) None es)
    bucket b = rw (no-trail (length es)) (record { linked = refl; once = refl; holds = λ s. rw (masked-none (numbers_of es) s) refl })

module _ (hs : List (Option ℕ)) (es : List IndexEntry) (s : ℕ) (one : Single (numbers_of es)) (i : IsIndex hs es (masked s (numbers_of es))) (h : s < length es) where
  within : s < length (numbers_of es)
  within = rw (numbers-length es) h

  -- a slot without a number is left out
  pub chain-none : (place_at es s).number ≡ None → IsIndex hs es (masked (suc s) (numbers_of es))
  chain-none e =
      let a : number_at (numbers_of es) s ≡ None = numbers-at es s ∙ e in
      let n : masked (suc s) (numbers_of es) ≡ masked s (numbers_of es) = masked-next s (numbers_of es) within ∙ ap (λ o. set (masked s (numbers_of es)) s o) (a ∙ sym (masked-at s (numbers_of es))) ∙ set-number (masked s (numbers_of es)) s in
      rw n i

  -- a slot with a number is put first in its bucket
  pub chain-some : (k : ℕ) → 0 < length hs → (place_at es s).number ≡ Some k → IsIndex (set hs (bucket_in k (length hs)) (Some s)) (set es s (entry (Some k) (head_at hs (bucket_in k (length hs))))) (masked (suc s) (numbers_of es))
  chain-some k p e =
      let a : number_at (numbers_of es) s ≡ Some k = numbers-at es s ∙ e in
      let n : masked (suc s) (numbers_of es) ≡ set (masked s (numbers_of es)) s (Some k) = masked-next s (numbers_of es) within ∙ ap (λ o. set (masked s (numbers_of es)) s o) a in
      rw n (index-insert i k s p h (masked-at s (numbers_of es)) (λ t f.
      let g : t ≡ s = one t s k (masked-some s t k (numbers_of es) f) a in
      let z : None ≡ Some k = sym (masked-at s (numbers_of es)) ∙ subst (λ (j : ℕ). number_at (masked s (numbers_of es)) j ≡ Some k) g f in
      cc))

  pub chain-numbers : (k : ℕ) (o : Option ℕ) → (place_at es s).number ≡ Some k → numbers_of (set es s (entry (Some k) o)) ≡ numbers_of es
  chain-numbers k o e =
      let a : number_at (numbers_of es) s ≡ Some k = numbers-at es s ∙ e in
      numbers-set es s (entry (Some k) o) ∙ ap (λ z. set (numbers_of es) s z) (sym a) ∙ set-number (numbers_of es) s
