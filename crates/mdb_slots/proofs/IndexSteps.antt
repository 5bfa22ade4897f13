-- An index by the numbers of its own entries, after a number came or went.
use Rattle.std.proofs.Common.{◌≡◌, ◌≢◌, ℕ, ◌<◌, ◌==◌, if◌then◌else◌, Option, Some, None, IfSome, List, [], ◌∷◌, ◌++◌, length, ◌∙◌, ap, set}
use Rattle.mdb_slots.specs.declared.index_entry.IndexEntry.{IndexEntry}
use Rattle.mdb_slots.specs.Lists.{previous}
use Rattle.mdb_slots.specs.Links.{where_none}
use Rattle.mdb_slots.specs.SlotIndex.{entry, no_entry, head_at, place_at, number_at, numbers_of, slot_of, trail, bucket_in, lead_same, IsIndex}
use Rattle.mdb_slots.proofs.Numbers.{slot_of-some, slot_of-none, slot_of-append, numbers-set, numbers-append, numbers-lead_same, free-number}
use Rattle.mdb_slots.proofs.IndexInserts.{index-insert, slot_of-insert, index-grow}
use Rattle.mdb_slots.proofs.IndexRemoves.{index-remove, slot_of-remove, before-inside, inside, b₀-below}

module _ {hs : List (Option ℕ)} {es : List IndexEntry} (i : IsIndex hs es (numbers_of es)) where
  pub grown : IsIndex hs (es ++ no_entry ∷ []) (numbers_of (es ++ no_entry ∷ []))
  grown = rw (numbers-append es no_entry) (index-grow i)

  pub slot_of-grown : (q : ℕ) → slot_of q (numbers_of (es ++ no_entry ∷ [])) ≡ slot_of q (numbers_of es)
  slot_of-grown q = rw (numbers-append es no_entry) (slot_of-append q (numbers_of es))

  module _ (k s : ℕ) (p : 0 < length hs) (h : s < length es) (absent : slot_of k (numbers_of es) ≡ None) (free : (q : ℕ) → slot_of q (numbers_of es) ≢ Some s) where
    new : number_at (numbers_of es) s ≡ None
    new = free-number s (numbers_of es) i.single free

    pub inserted : IsIndex (set hs (bucket_in k (length hs)) (Some s)) (set es s (entry (Some k) (head_at hs (bucket_in k (length hs))))) (numbers_of (set es s (entry (Some k) (head_at hs (bucket_in k (length hs))))))
    inserted = rw (numbers-set es s (entry (Some k) (head_at hs (bucket_in k (length hs))))) (index-insert i k s p h new (λ t. slot_of-none k t (numbers_of es) absent))

    pub slot_of-inserted : (q : ℕ) → slot_of q (numbers_of (set es s (entry (Some k) (head_at hs (bucket_in k (length hs)))))) ≡ if k == q then Some s else slot_of q (numbers_of es)
    slot_of-inserted q = rw (numbers-set es s (entry (Some k) (head_at hs (bucket_in k (length hs))))) (slot_of-insert i k s p h new (λ t. slot_of-none k t (numbers_of es) absent) q)

  module _ (k s : ℕ) (e : slot_of k (numbers_of es) ≡ Some s) where
    at : number_at (numbers_of es) s ≡ Some k
    at = slot_of-some k s (numbers_of es) e

    pub headed : 0 < length hs
    headed = i.headed s k at

    pub slot-inside : s < length es
    slot-inside = inside i k s at

    pub bucket-below : bucket_in k (length hs) < length hs
    bucket-below = b₀-below i k s at

    module _ (p : Option ℕ) (f : p ≡ previous None s (trail (length es) (head_at hs (bucket_in k (length hs))) es)) where
      pub before-within : IfSome p (λ j. j < length es)
      before-within = before-inside i k s at p f

      numbers : numbers_of (set (lead_same p (place_at es s).same es) s no_entry) ≡ set (numbers_of es) s None
      numbers = numbers-set (lead_same p (place_at es s).same es) s no_entry ∙ ap (λ ns. set ns s None) (numbers-lead_same p (place_at es s).same es)

      pub removed : IsIndex (set hs (bucket_in k (length hs)) (where_none p (place_at es s).same (head_at hs (bucket_in k (length hs))))) (set (lead_same p (place_at es s).same es) s no_entry) (numbers_of (set (lead_same p (place_at es s).same es) s no_entry))
      removed = rw numbers (index-remove i k s at p f)

      pub slot_of-removed : (q : ℕ) → slot_of q (numbers_of (set (lead_same p (place_at es s).same es) s no_entry)) ≡ if k == q then None else slot_of q (numbers_of es)
      slot_of-removed q = rw numbers (slot_of-remove i k s at q)
