-- A vector with one of its elements put back is as it was.
use Rattle.std.proofs.Common.{ℕ, ◌≡◌, ◌≤◌, List, length, Some, sym, ◌∙◌, ap, subst}
use Rattle.std.specs.Prelude.{slice_get, slice_set}
use Rattle.std.specs.Global.{Vec}
use Rattle.std.specs.Vec.{with_item}
use Rattle.std.proofs.Math.Nat.{ℕ_set}
use Rattle.std.proofs.Math.Bridge.{le_prop}
use Rattle.std.proofs.lemmas.List.{set-get_or}
use Rattle.std.proofs.lemmas.Option.{get_or_from_slice_get}

module _ {X : Type 0} (v : Vec X) where
  abbrev Sized : List X → Type 0
  Sized xs = (◌≡◌ {A = ℕ} v.len (length xs)) × (v.len ≤ v.cap)

  abbrev holding : (xs : List X) → Sized xs → Vec X
  holding xs ok = record { ptr = v.ptr; len = v.len; cap = v.cap; alloc = v.alloc; items = xs; ok = ok; small = v.small }

  same-size : (ok : Sized v.items) → holding v.items ok ≡ v
  same-size ok = let p : IsProp (Sized v.items) = hlevel (ℕ_set, le_prop) in ap (holding v.items) (p ok v.ok)

  same-items : (xs : List X) → xs ≡ v.items → (ok : Sized xs) → holding xs ok ≡ v
  same-items xs e = subst (λ ys. (ok : Sized ys) → holding ys ok ≡ v) (sym e) same-size

  pub put-back : (i : ℕ) (s : X) → slice_get v.items i ≡ Some s → with_item v i s ≡ v
  put-back i s e =
      let back : slice_set v.items i s ≡ v.items = ap (slice_set v.items i) (sym (get_or_from_slice_get v.items i s s e)) ∙ set-get_or v.items i s in
      same-items (slice_set v.items i s) back (with_item v i s).ok
