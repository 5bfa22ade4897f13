-- The greatest pair never falls, and no pair is of a later election.
use Rattle.std.proofs.Common.{◌≡◌, ◌<◌, ◌≤◌, true, false, ◌⊎◌, inl, inr, List, [], ◌∷◌, ◌++◌, Option, Some, None, refl, sym, ap, ◌∙◌, subst, arith}
use Rattle.std.specs.Prelude.{nat_lt, ◌==◌}
use Rattle.std.specs.List.{fold}
use Rattle.std.proofs.lemmas.Bool.{cases_Bool, cases_order}
use Rattle.std.proofs.lemmas.Bool.Decides.{nat_tests}
use Rattle.mdb_failover.specs.Elections.{Pair, is_below, greater, top, IsAtMost, AllUpTo}

-- the first pair is the second, or below it
abbrev pub UpTo : Pair → Pair → Type 0
UpTo p q = (p.election < q.election) ⊎ ((p.election ≡ q.election) × (p.version ≤ q.version))

pub up-to : (p q : Pair) → is_below q p ≡ false → UpTo p q
up-to p q h = elim (cases_order p.election q.election) [
  | inl same ↦
      let not-less : nat_lt q.election p.election ≡ false = grind (arith, nat_tests) in
      let equal : (q.election == p.election) ≡ true = grind (arith, nat_tests) in
      let versions : nat_lt q.version p.version ≡ false = rw (not-less, equal) at h in
      let le : p.version ≤ q.version = grind (arith, nat_tests) in
      inr (same, le)
  | inr o ↦ elim o [
    | inl below ↦ inl below
    | inr above ↦ let less : nat_lt q.election p.election ≡ true = grind (arith, nat_tests) in let wrong : is_below q p ≡ true = rw less refl in absurd (cc)
  ]
]

not-below : (p q : Pair) → UpTo p q → is_below q p ≡ false
not-below p q (inl below) =
    let less : nat_lt q.election p.election ≡ false = grind (arith, nat_tests) in
    let equal : (q.election == p.election) ≡ false = grind (arith, nat_tests) in
    rw (less, equal) refl
not-below p q (inr (same, le)) =
    let less : nat_lt q.election p.election ≡ false = grind (arith, nat_tests) in
    let versions : nat_lt q.version p.version ≡ false = grind (arith, nat_tests) in
    elim (cases_Bool (q.election == p.election)) [
      | inl equal ↦ rw (less, equal, versions) refl
      | inr other ↦ rw (less, other) refl
    ]

up-trans : (p q r : Pair) → UpTo p q → UpTo q r → UpTo p r
up-trans p q r (inl a) (inl b) = inl (omega arith)
up-trans p q r (inl a) (inr (e, l)) = inl (omega arith)
up-trans p q r (inr (e, l)) (inl b) = inl (omega arith)
up-trans p q r (inr (e, l)) (inr (f, m)) = inr (e ∙ f, omega arith)

below-up : (p q : Pair) → is_below p q ≡ true → UpTo p q
below-up p q h = elim (cases_order p.election q.election) [
  | inl same ↦
      let not-less : nat_lt p.election q.election ≡ false = grind (arith, nat_tests) in
      let equal : (p.election == q.election) ≡ true = grind (arith, nat_tests) in
      let versions : nat_lt p.version q.version ≡ true = rw (not-less, equal) at h in
      let le : p.version ≤ q.version = grind (arith, nat_tests) in
      inr (same, le)
  | inr o ↦ elim o [
    | inl below ↦ inl below
    | inr above ↦
        let less : nat_lt p.election q.election ≡ false = grind (arith, nat_tests) in
        let equal : (p.election == q.election) ≡ false = grind (arith, nat_tests) in
        let wrong : is_below p q ≡ false = rw (less, equal) refl in
        absurd (cc)
  ]
]

own-up : (t : Pair) → UpTo t t
own-up t = inr (refl, omega arith)

-- the greater of two is not below either
greater-up : (t p : Pair) → UpTo t (greater (Some t) p) × UpTo p (greater (Some t) p)
greater-up t p = elim (cases_Bool (is_below p t)) [
  | inl below ↦ rw below (own-up t, below-up p t below)
  | inr other ↦ rw other (up-to t p other, own-up p)
]

abbrev grow : Option Pair → List Pair → Option Pair
grow t ps = fold (λ t p. Some (greater t p)) t ps

grows : (t : Pair) (ps : List Pair) → (u : Pair) × (grow (Some t) ps ≡ Some u) × UpTo t u × AllUpTo u ps
grows t [] = (t, refl, own-up t, tt)
grows t (p ∷ ps) =
    let g = greater-up t p in
    let rest = grows (greater (Some t) p) ps in
    (rest.0, rest.1, up-trans t (greater (Some t) p) rest.0 g.0 rest.2, (not-below p rest.0 (up-trans p (greater (Some t) p) rest.0 g.1 rest.2), rest.3))

split-grow : (t : Option Pair) (ps qs : List Pair) → grow t (ps ++ qs) ≡ grow (grow t ps) qs
split-grow t [] qs = refl
split-grow t (p ∷ ps) qs = split-grow (Some (greater t p)) ps qs

-- with more pairs the greatest is not below the one before
pub never-falls : (ps qs : List Pair) → IsAtMost (top ps) (top (ps ++ qs))
never-falls ps qs = on (top ps) refl
  where
    on : (t : Option Pair) → top ps ≡ t → IsAtMost t (top (ps ++ qs))
    on None e = tt
    on (Some t) e =
        let g = grows t qs in
        let is : top (ps ++ qs) ≡ Some g.0 = split-grow None ps qs ∙ ap (λ (x : Option Pair). grow x qs) e ∙ g.1 in
        subst (IsAtMost (Some t)) (sym is) (not-below t g.0 g.2)

-- no pair is above the greatest
pub none-above : (ps : List Pair) (t : Pair) → top ps ≡ Some t → AllUpTo t ps
none-above [] t e = tt
none-above (p ∷ ps) t e =
    let g = grows p ps in
    let both : Some g.0 ≡ Some t = sym g.1 ∙ e in
    let same : g.0 ≡ t = cc in
    subst (λ (u : Pair). AllUpTo u (p ∷ ps)) same (not-below p g.0 g.2, g.3)
