-- What was told of asks changes nothing that stands.
use Rattle.std.proofs.Common.{◌≡◌, ℕ, ◌+◌, ◌≤◌, ◌<◌, Bool, true, false, not, ◌&&◌, if◌then◌else◌, ◌==◌, List, [], ◌∷◌, length, get_or, drop, Option, Some, option_map, refl, sym, ap, ◌∙◌, subst, arith, suc, zero}
use Rattle.std.proofs.Math.ListN.{set}
use Rattle.mdb_log.specs.declared.log.Entry.{Entry}
use Rattle.mdb_proxies.specs.declared.asked.Asked.{Asked}
use Rattle.mdb_proxies.specs.declared.asked.Standing.{Standing}
use Rattle.mdb_proxies.specs.Charge.{since, is_held, counts, is_requested, is_charged}
use Rattle.mdb_proxies.specs.Tables.{standing_if, standings, is_fresh, place_of, AreSingle, AreMade, Keeps}
use Rattle.mdb_proxies.specs.Recording.{SameAsks}

standing-same : (h c : Bool) (x y : Asked) (os : List Standing) → x.tenant ≡ y.tenant → x.request ≡ y.request → x.address ≡ y.address → standing_if h c x os ≡ standing_if h c y os
standing-same true c x y os t r a = cc
standing-same false true x y os t r a = cc
standing-same false false x y os t r a = refl

pub standings-same : (log : List Entry) (xs ys : List Asked) → SameAsks xs ys → standings log xs ≡ standings log ys
standings-same log [] [] s = refl
standings-same log [] (y ∷ ys) s = absurd s
standings-same log (x ∷ xs) [] s = absurd s
standings-same log (x ∷ xs) (y ∷ ys) s =
    ap (standing_if (is_held log x) (counts log x) x) (standings-same log xs ys s.4)
    ∙ ap (λ (n : ℕ). standing_if (not (is_requested x.request (drop n log))) (is_charged x.request (drop n log)) x (standings log ys)) s.3
    ∙ ap (λ (r : ℕ). standing_if (not (is_requested r (since log y))) (is_charged r (since log y)) x (standings log ys)) s.1
    ∙ standing-same (is_held log y) (counts log y) x y (standings log ys) s.0 s.1 s.2

made-same : (n : ℕ) (xs ys : List Asked) → SameAsks xs ys → AreMade n xs → AreMade n ys
made-same n [] [] s m = tt
made-same n [] (y ∷ ys) s m = absurd s
made-same n (x ∷ xs) [] s m = absurd s
made-same n (x ∷ xs) (y ∷ ys) s m = (subst (λ (k : ℕ). k ≤ n) s.3 m.0, made-same n xs ys s.4 m.1)

fresh-same : (r : ℕ) (xs ys : List Asked) → SameAsks xs ys → is_fresh r xs ≡ is_fresh r ys
fresh-same r [] [] s = refl
fresh-same r [] (y ∷ ys) s = absurd s
fresh-same r (x ∷ xs) [] s = absurd s
fresh-same r (x ∷ xs) (y ∷ ys) s = ap (λ (k : ℕ). not (r == k) && is_fresh r xs) s.1 ∙ ap (λ b. not (r == y.request) && b) (fresh-same r xs ys s.4)

single-same : (xs ys : List Asked) → SameAsks xs ys → AreSingle xs → AreSingle ys
single-same [] [] s k = tt
single-same [] (y ∷ ys) s k = absurd s
single-same (x ∷ xs) [] s k = absurd s
single-same (x ∷ xs) (y ∷ ys) s k = (ap (λ (r : ℕ). is_fresh r ys) (sym s.1) ∙ sym (fresh-same x.request xs ys s.4) ∙ k.0, single-same xs ys s.4 k.1)

place-same : (r : ℕ) (xs ys : List Asked) → SameAsks xs ys → place_of r xs ≡ place_of r ys
place-same r [] [] s = refl
place-same r [] (y ∷ ys) s = absurd s
place-same r (x ∷ xs) [] s = absurd s
place-same r (x ∷ xs) (y ∷ ys) s = ap (λ (k : ℕ). if r == k then Some 0 else option_map (λ n. n + 1) (place_of r xs)) s.1 ∙ ap (λ p. if r == y.request then Some 0 else option_map (λ n. n + 1) p) (place-same r xs ys s.4)

pub keeps-same : (log : List Entry) (os : List Standing) (xs ys : List Asked) (known : ℕ → Option ℕ) → SameAsks xs ys → Keeps log os xs known → Keeps log os ys known
keeps-same log os xs ys known s k = record {
  standing = k.standing ∙ standings-same log xs ys s;
  made = made-same (length log) xs ys s k.made;
  single = single-same xs ys s k.single;
  placed = λ r. k.placed r ∙ place-same r xs ys s;
}

pub same_asks : (xs : List Asked) → SameAsks xs xs
same_asks [] = tt
same_asks (x ∷ xs) = (refl, refl, refl, refl, same_asks xs)

-- one of them was told
pub same-told : (xs : List Asked) (i : ℕ) (x : Asked) → i < length xs → x ≡ get_or xs i x → SameAsks xs (set xs i (record x { told = true }))
same-told [] i x h e = absurd (omega (arith, h))
same-told (y ∷ ys) zero x h e = (ap (λ (z : Asked). z.tenant) (sym e), ap (λ (z : Asked). z.request) (sym e), ap (λ (z : Asked). z.address) (sym e), ap (λ (z : Asked). z.entries) (sym e), same_asks ys)
same-told (y ∷ ys) (suc i) x h e = (refl, refl, refl, refl, same-told ys i x (omega (arith, h)) e)
