-- The test of addresses.
use Rattle.std.proofs.Common.{ℕ, ◌≡◌, Bool, true, false, ◌==◌, List, refl, ◌∙◌, ap, arith}
use Rattle.std.specs.Prelude.{nat_eq}
use Rattle.std.specs.Bool.{Decides}
use Rattle.std.proofs.lemmas.Bool.Decides.{Decides-eqb}
use Rattle.std.proofs.lemmas.Slice.Eq.{slice_eq-Decides}
use Rattle.std.specs.Cmp.Lexicographic.{pointwise}
use Rattle.mdb_base.specs.declared.address.ServerAddress.{ServerAddress}
use Rattle.mdb_base.specs.Equality.{same_address}

same-host : (xs ys : List ℕ) → pointwise nat_eq xs ys ≡ true → xs ≡ ys
same-host xs ys e = let d : Decides (pointwise nat_eq xs ys) (xs ≡ ys) = slice_eq-Decides Decides-eqb xs ys (pointwise nat_eq xs ys) refl in grind (arith, d)

own-host : (xs : List ℕ) → pointwise nat_eq xs xs ≡ true
own-host xs = let d : Decides (pointwise nat_eq xs xs) (xs ≡ xs) = slice_eq-Decides Decides-eqb xs xs (pointwise nat_eq xs xs) refl in grind (arith, d)

abbrev of_parts : List ℕ → ℕ → ServerAddress
of_parts host port = record { host = host; port = port }

pub same-address : (a b : ServerAddress) → same_address a b ≡ true → a ≡ b
same-address a b e = on (pointwise nat_eq a.host b.host) (a.port == b.port) refl refl
  where
    on : (p q : Bool) → pointwise nat_eq a.host b.host ≡ p → (a.port == b.port) ≡ q → a ≡ b
    on true true f g = let u : a.host ≡ b.host = same-host a.host b.host f in let v : a.port ≡ b.port = grind arith in ap (λ (x : List ℕ). of_parts x a.port) u ∙ ap (λ (x : ℕ). of_parts b.host x) v
    on true false f g = let k : same_address a b ≡ false = rw (f, g) refl in cc
    on false q f g = let k : same_address a b ≡ false = rw f refl in cc

pub own-address : (a : ServerAddress) → same_address a a ≡ true
own-address a = let e : (a.port == a.port) ≡ true = grind arith in rw (own-host a.host, e) refl
