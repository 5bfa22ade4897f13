-- Where one party keeps a connection, the sum of the keepers' numbers is its own.
use Rattle.std.proofs.Common.{ℕ, ◌+◌, ◌≡◌, ◌==◌, Bool, true, false, List, [], ◌∷◌, refl, sym, ap, ◌∙◌, arith}
use Rattle.mdb_log.specs.History.{PoolItem}
use Rattle.mdb_log.specs.Connections.{has}
use Rattle.mdb_log.specs.PlainHolders.{parties}
use Rattle.mdb_log.proofs.Numbers.{same-number}
use Rattle.mdb_tallies.specs.Totals.{total}
use Rattle.mdb_tallies.specs.Standing.{keeps}
use Rattle.mdb_tallies.proofs.Given.{keeps-none}
use Rattle.mdb_tallies.proofs.Placed.{same}
use Rattle.mdb_pins.specs.Standing.{weigh}
use Rattle.mdb_pins.proofs.Weights.{weight}

-- where none passes, nothing weighs
none-weighs : (test : ℕ → Bool) (f : ℕ → ℕ) (ks : List ℕ) → total (weight test (λ r. 1)) ks ≡ 0 → total (weight test f) ks ≡ 0
none-weighs test f [] e = refl
none-weighs test f (k ∷ ks) e = by (none-weighs test f ks) (test k) refl
  where
    by : (total (weight test (λ r. 1)) ks ≡ 0 → total (weight test f) ks ≡ 0) → (b : Bool) → test k ≡ b → total (weight test f) ks + weight test f k ≡ 0
    by more true u = let one : weight test (λ r. 1) k ≡ 1 = rw u refl in absurd (omega (arith, e, one))
    by more false u =
        let zero : weight test (λ r. 1) k ≡ 0 = rw u refl in
        let none : weight test f k ≡ 0 = rw u refl in
        let rest : total (weight test (λ r. 1)) ks ≡ 0 = omega (arith, e, zero) in
        let all = more rest in
        omega (arith, all, none)

-- one passes: it weighs what the number weighs that is the sum, and passes
pub one-weighs : (test : ℕ → Bool) (f : ℕ → ℕ) (ks : List ℕ) → total (weight test (λ r. 1)) ks ≡ 1 → (total (weight test f) ks ≡ f (total (weight test (λ r. r)) ks)) × (test (total (weight test (λ r. r)) ks) ≡ true)
one-weighs test f [] e = cc
one-weighs test f (k ∷ ks) e = by (one-weighs test f ks) (test k) refl
  where
    by : (total (weight test (λ r. 1)) ks ≡ 1 → (total (weight test f) ks ≡ f (total (weight test (λ r. r)) ks)) × (test (total (weight test (λ r. r)) ks) ≡ true)) → (b : Bool) → test k ≡ b → (total (weight test f) ks + weight test f k ≡ f (total (weight test (λ r. r)) ks + weight test (λ r. r) k)) × (test (total (weight test (λ r. r)) ks + weight test (λ r. r) k) ≡ true)
    by more true u =
        let one : weight test (λ r. 1) k ≡ 1 = rw u refl in
        let rest : total (weight test (λ r. 1)) ks ≡ 0 = omega (arith, e, one) in
        let names : total (weight test (λ r. r)) ks ≡ 0 = none-weighs test (λ r. r) ks rest in
        let all : total (weight test f) ks ≡ 0 = none-weighs test f ks rest in
        let own : weight test f k ≡ f k = rw u refl in
        let name : weight test (λ r. r) k ≡ k = rw u refl in
        let is : total (weight test (λ r. r)) ks + weight test (λ r. r) k ≡ k = omega (arith, names, name) in
        let sum : total (weight test f) ks + weight test f k ≡ f k = omega (arith, all, own) in
        (sum ∙ ap f (sym is), ap test is ∙ u)
    by more false u =
        let zero : weight test (λ r. 1) k ≡ 0 = rw u refl in
        let rest : total (weight test (λ r. 1)) ks ≡ 1 = omega (arith, e, zero) in
        let own : weight test f k ≡ 0 = rw u refl in
        let name : weight test (λ r. r) k ≡ 0 = rw u refl in
        let is : total (weight test (λ r. r)) ks + weight test (λ r. r) k ≡ total (weight test (λ r. r)) ks = omega (arith, name) in
        let sum : total (weight test f) ks + weight test f k ≡ total (weight test f) ks = omega (arith, own) in
        let both = more rest in
        (sum ∙ both.0 ∙ ap f (sym is), ap test is ∙ both.1)

-- where none passes, who is there does not
none-there : (test : ℕ → Bool) (r : ℕ) (ks : List ℕ) → total (weight test (λ r. 1)) ks ≡ 0 → has r ks ≡ true → test r ≡ false
none-there test r [] e h = cc
none-there test r (k ∷ ks) e h = by (none-there test r ks) (k == r) (test k) refl refl
  where
    by : (total (weight test (λ r. 1)) ks ≡ 0 → has r ks ≡ true → test r ≡ false) → (b s : Bool) → (k == r) ≡ b → test k ≡ s → test r ≡ false
    by more b true u v = let one : weight test (λ r. 1) k ≡ 1 = rw v refl in absurd (omega (arith, e, one))
    by more true false u v = ap test (sym (same k r u)) ∙ v
    by more false false u v =
        let zero : weight test (λ r. 1) k ≡ 0 = rw v refl in
        let rest : total (weight test (λ r. 1)) ks ≡ 0 = omega (arith, e, zero) in
        more rest (rw u at h)

-- who passes and is there is the one
one-is : (test : ℕ → Bool) (r : ℕ) (ks : List ℕ) → total (weight test (λ r. 1)) ks ≡ 1 → test r ≡ true → has r ks ≡ true → total (weight test (λ r. r)) ks ≡ r
one-is test r [] e t h = cc
one-is test r (k ∷ ks) e t h = by (one-is test r ks) (test k) (k == r) refl refl
  where
    by : (total (weight test (λ r. 1)) ks ≡ 1 → test r ≡ true → has r ks ≡ true → total (weight test (λ r. r)) ks ≡ r) → (b s : Bool) → test k ≡ b → (k == r) ≡ s → total (weight test (λ r. r)) ks + weight test (λ r. r) k ≡ r
    by more true true u v =
        let one : weight test (λ r. 1) k ≡ 1 = rw u refl in
        let rest : total (weight test (λ r. 1)) ks ≡ 0 = omega (arith, e, one) in
        let names : total (weight test (λ r. r)) ks ≡ 0 = none-weighs test (λ r. r) ks rest in
        let name : weight test (λ r. r) k ≡ k = rw u refl in
        let is : k ≡ r = same k r v in
        omega (arith, names, name, is)
    by more true false u v =
        let one : weight test (λ r. 1) k ≡ 1 = rw u refl in
        let rest : total (weight test (λ r. 1)) ks ≡ 0 = omega (arith, e, one) in
        let no : test r ≡ false = none-there test r ks rest (rw v at h) in
        cc
    by more false true u v = let no : test k ≡ true = ap test (same k r v) ∙ t in cc
    by more false false u v =
        let zero : weight test (λ r. 1) k ≡ 0 = rw u refl in
        let rest : total (weight test (λ r. 1)) ks ≡ 1 = omega (arith, e, zero) in
        let name : weight test (λ r. r) k ≡ 0 = rw u refl in
        let is = more rest t (rw v at h) in
        omega (arith, name, is)

there : (xs : List PoolItem) (gone : ℕ → Bool) (c r : ℕ) → keeps xs gone c r ≡ true → has r (parties xs c) ≡ true
there xs gone c r e = by (has r (parties xs c)) refl
  where
    by : (b : Bool) → has r (parties xs c) ≡ b → b ≡ true
    by true u = refl
    by false u = sym (keeps-none xs gone c r u) ∙ e

-- the one keeper weighs all
pub alone-weighs : (f : ℕ → ℕ) (xs : List PoolItem) (gone : ℕ → Bool) (c : ℕ) → weigh (λ r. 1) xs gone c ≡ 1 → weigh f xs gone c ≡ f (weigh (λ r. r) xs gone c)
alone-weighs f xs gone c e = (one-weighs (keeps xs gone c) f (parties xs c) e).0

pub nobody-weighs : (f : ℕ → ℕ) (xs : List PoolItem) (gone : ℕ → Bool) (c : ℕ) → weigh (λ r. 1) xs gone c ≡ 0 → weigh f xs gone c ≡ 0
nobody-weighs f xs gone c e = none-weighs (keeps xs gone c) f (parties xs c) e

-- a party is the one keeper where it keeps the connection
pub alone-is : (xs : List PoolItem) (gone : ℕ → Bool) (c r : ℕ) → weigh (λ r. 1) xs gone c ≡ 1 → (r == weigh (λ r. r) xs gone c) ≡ keeps xs gone c r
alone-is xs gone c r e = by (keeps xs gone c r) refl
  where
    names : ℕ
    names = weigh (λ r. r) xs gone c

    by : (b : Bool) → keeps xs gone c r ≡ b → (r == weigh (λ r. r) xs gone c) ≡ b
    by true u = let is : weigh (λ r. r) xs gone c ≡ r = one-is (keeps xs gone c) r (parties xs c) e u (there xs gone c r u) in rw is (same-number r)
    by false u = go (r == weigh (λ r. r) xs gone c) refl
      where
        go : (t : Bool) → (r == weigh (λ r. r) xs gone c) ≡ t → t ≡ false
        go false v = refl
        go true v = sym (one-weighs (keeps xs gone c) (λ r. r) (parties xs c) e).1 ∙ ap (keeps xs gone c) (sym (same r (weigh (λ r. r) xs gone c) v)) ∙ u

-- where nobody keeps the connection, the party does not
pub nobody-is : (xs : List PoolItem) (gone : ℕ → Bool) (c r : ℕ) → weigh (λ r. 1) xs gone c ≡ 0 → keeps xs gone c r ≡ false
nobody-is xs gone c r e = by (has r (parties xs c)) refl
  where
    by : (b : Bool) → has r (parties xs c) ≡ b → keeps xs gone c r ≡ false
    by true u = none-there (keeps xs gone c) r (parties xs c) e u
    by false u = keeps-none xs gone c r u
