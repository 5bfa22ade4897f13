-- How many spans end before a number, by place.
use Rattle.std.proofs.Common.{◌≡◌, ℕ, suc, zero, ◌+◌, ◌<◌, ◌≤◌, Bool, true, false, if◌then◌else◌, nat_lt, List, [], ◌∷◌, length, get_or, arith}
use Rattle.std.proofs.lemmas.Bool.Decides.{nat_tests}
use Rattle.mdb_intervals.specs.declared.span.Span.{Span}
use Rattle.mdb_intervals.specs.Spans.{AreApart, ended}

pub ended-length : (f : ℕ) (ss : List Span) → ended f ss ≤ length ss
ended-length f [] = omega arith
ended-length f (s ∷ ss) = on (nat_lt s.to f) (ended-length f ss)
  where
    on : (b : Bool) → ended f ss ≤ length ss → (if b then suc (ended f ss) else 0) ≤ suc (length ss)
    on true l = omega (arith, l)
    on false l = omega arith

-- each span ends at the bound or above it
ends-above : (bound : ℕ) (ss : List Span) (i : ℕ) (d : Span) → AreApart bound ss → i < length ss → bound ≤ (get_or ss i d).to
ends-above bound [] i d apart l = absurd (omega arith)
ends-above bound (s ∷ ss) zero d apart l = omega (arith, apart.0, apart.1)
ends-above bound (s ∷ ss) (suc i) d apart l = let h : s.to + 2 ≤ (get_or ss i d).to = ends-above (s.to + 2) ss i d apart.2 (omega arith) in omega (arith, h, apart.0, apart.1)

-- a span that ends before the number is one of those that do
pub place-below : (bound f : ℕ) (ss : List Span) (i : ℕ) (d : Span) → AreApart bound ss → i < length ss → (get_or ss i d).to < f → i < ended f ss
place-below bound f [] i d apart l h = absurd (omega arith)
place-below bound f (s ∷ ss) zero d apart l h = let e : nat_lt s.to f ≡ true = grind (arith, nat_tests) in rw e (omega arith)
place-below bound f (s ∷ ss) (suc i) d apart l h =
    let k : s.to + 2 ≤ (get_or ss i d).to = ends-above (s.to + 2) ss i d apart.2 (omega arith) in
    let e : nat_lt s.to f ≡ true = grind (arith, nat_tests) in
    let r : i < ended f ss = place-below (s.to + 2) f ss i d apart.2 (omega arith) h in
    rw e (omega (arith, r))

-- and no other is
pub place-above : (f : ℕ) (ss : List Span) (i : ℕ) (d : Span) → i < length ss → f ≤ (get_or ss i d).to → ended f ss ≤ i
place-above f [] i d l h = absurd (omega arith)
place-above f (s ∷ ss) zero d l h = let e : nat_lt s.to f ≡ false = grind (arith, nat_tests) in rw e (omega arith)
place-above f (s ∷ ss) (suc i) d l h = on (nat_lt s.to f) (place-above f ss i d (omega arith) h)
  where
    on : (b : Bool) → ended f ss ≤ i → (if b then suc (ended f ss) else 0) ≤ suc i
    on true r = omega (arith, r)
    on false r = omega arith
