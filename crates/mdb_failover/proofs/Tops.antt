-- The greatest pair, and the rule by which a primary is outdated.
use Rattle.std.proofs.Common.{◌≡◌, ℕ, ◌<◌, ◌^◌, true, false, inl, inr, List, [], ◌∷◌, ◌++◌, Option, Some, None, refl, sym, ◌∙◌, arith}
use Rattle.std.specs.Prelude.{◌==◌, pos}
use Rattle.std.specs.List.{fold}
use Rattle.std.proofs.lemmas.Bool.{cases_Bool, cases_eq}
use Rattle.mdb_base.specs.Equality.{same_id}
use Rattle.mdb_describe.proofs.Parsed.{same_bytes, own_bytes}
use Rattle.mdb_describe.specs.Update.{pair_is_below}
use Rattle.mdb_fleets.specs.MemberReplies.{election_id}
use Rattle.mdb_failover.specs.Elections.{Pair, is_below, greater, top}
use Rattle.mdb_failover.proofs.Orders.{id-below, ids-apart}

folded : (pairs : List Pair) (t : Option Pair) (p : Pair) → fold (λ t p. Some (greater t p)) t (pairs ++ p ∷ []) ≡ Some (greater (fold (λ t p. Some (greater t p)) t pairs) p)
folded [] t p = refl
folded (q ∷ pairs) t p = folded pairs (Some (greater t q)) p

-- one pair more
pub top-more : (pairs : List Pair) (p : Pair) → top (pairs ++ p ∷ []) ≡ Some (greater (top pairs) p)
top-more pairs p = folded pairs None p

-- the same election has the same id, and no other
pub same-election : (e f : ℕ) → e < 2 ^ 64 → f < 2 ^ 64 → same_id (election_id e) (election_id f) ≡ (e == f)
same-election e f h l = elim (cases_eq e f) [
  | inl s ↦ let own : (f == f) ≡ true = grind arith in rw s (own_bytes (election_id f).0 (election_id f).0 refl ∙ sym own)
  | inr n ↦
      let other : (e == f) ≡ false = grind arith in
      elim (cases_Bool (same_id (election_id e) (election_id f))) [
        | inl so ↦ absurd (n (ids-apart e f h l (same_bytes (election_id e).0 (election_id f).0 so)))
        | inr other_id ↦ other_id ∙ sym other
      ]
]

-- the rule of the description is the order of pairs
pub outdated : (p t : Pair) → p.election < 2 ^ 64 → t.election < 2 ^ 64
    → pair_is_below (Some (election_id p.election)) (Some (pos p.version)) (Some (election_id t.election)) (Some (pos t.version)) ≡ is_below p t
outdated p t h l = rw (id-below p.election t.election h l, same-election p.election t.election h l) refl
