-- Which numbers there are once one has come.
use Rattle.std.proofs.Common.{◌≡◌, ℕ, suc, ◌+◌, ◌-◌, ◌<◌, ◌≤◌, Bool, true, false, ◌&&◌, ◌||◌, if◌then◌else◌, nat_lt, nat_le, ◌==◌, List, [], ◌∷◌, length, drop, refl, sym, ◌∙◌, ap, arith, true≢false}
use Rattle.std.proofs.lemmas.Bool.Decides.{nat_tests}
use Rattle.std.proofs.lemmas.Grind.{common_steps}
use Rattle.mdb_intervals.specs.declared.span.Span.{Span}
use Rattle.mdb_intervals.specs.Spans.{AreApart, within, has, ended, joined, put_first, put}

-- no span has a number below the bound
pub has-below : (bound n : ℕ) (ss : List Span) → AreApart bound ss → n < bound → has n ss ≡ false
has-below bound n [] apart l = refl
has-below bound n (s ∷ ss) apart l =
    let a : nat_le s.from n ≡ false = grind (arith, nat_tests, apart.0) in
    rw a (has-below (s.to + 2) n ss apart.2 (omega (arith, apart.0, apart.1)))

alone : (m n : ℕ) → (nat_le n m && nat_le m n) ≡ (m == n)
alone m n = grind (arith, nat_tests)

joined-has : (bound n f to : ℕ) (ss : List Span) (m : ℕ) → AreApart (to + 2) ss → f ≤ to → n ≡ to + 1 → has m (joined f n ss) ≡ (m == n) || ((nat_le f m && nat_le m to) || has m ss)
joined-has bound n f to [] m apart up e = grind (arith, nat_tests)
joined-has bound n f to (t ∷ ts) m apart up e = on (t.from == n + 1) refl
  where
    on : (b : Bool) → (t.from == n + 1) ≡ b → has m (if b then record { from = f; to = t.to } ∷ ts else (record { from = f; to = n } ∷ t ∷ ts)) ≡ (m == n) || ((nat_le f m && nat_le m to) || ((nat_le t.from m && nat_le m t.to) || has m ts))
    on true q = grind (arith, nat_tests, apart.0, apart.1, q)
    on false q = grind (arith, nat_tests, apart.0, apart.1, q)

first-has : (bound n : ℕ) (s : Span) (ss : List Span) (m : ℕ) → AreApart bound (s ∷ ss) → n ≤ s.to + 1 → has m (put_first n (s ∷ ss)) ≡ (m == n) || has m (s ∷ ss)
first-has bound n s ss m apart l = on (nat_lt n s.from) (nat_lt 1 (s.from - n)) (nat_lt s.to n) refl refl refl
  where
    on : (a b c : Bool) → nat_lt n s.from ≡ a → nat_lt 1 (s.from - n) ≡ b → nat_lt s.to n ≡ c → has m (if a then (if b then record { from = n; to = n } ∷ s ∷ ss else (record { from = n; to = s.to } ∷ ss)) else (if c then joined s.from n ss else (s ∷ ss))) ≡ (m == n) || has m (s ∷ ss)
    on true true c p q r = ap (λ t. t || has m (s ∷ ss)) (alone m n)
    on true false c p q r = grind (arith, nat_tests, apart.0, apart.1, p, q)
    on false b true p q r = joined-has bound n s.from s.to ss m apart.2 apart.1 (grind (arith, nat_tests, l, r))
    on false b false p q r = grind (arith, nat_tests, apart.0, apart.1, p, r)

or-swap : (a b c d : Bool) → d ≡ b || c → (a || d) ≡ b || (a || c)
or-swap true true c d e = refl
or-swap true false c d e = refl
or-swap false b c d e = e

pub has-put : (bound n : ℕ) (ss : List Span) (m : ℕ) → AreApart bound ss → has m (put n ss) ≡ (m == n) || has m ss
has-put bound n [] m apart = ap (λ t. t || false) (alone m n)
has-put bound n (s ∷ ss) m apart = on (nat_lt s.to (n - 1)) refl (has-put (s.to + 2) n ss m apart.2)
  where
    on : (b : Bool) → nat_lt s.to (n - 1) ≡ b → has m (put n ss) ≡ (m == n) || has m ss → has m (if b then (s ∷ put n ss) else put_first n (s ∷ ss)) ≡ (m == n) || has m (s ∷ ss)
    on true q more = or-swap (within m s) (m == n) (has m ss) (has m (put n ss)) more
    on false q more = first-has bound n s ss m apart (grind (arith, nat_tests, q))

joined-apart : (bound n f to : ℕ) (ss : List Span) → AreApart (to + 2) ss → bound ≤ f → f ≤ to → n ≡ to + 1 → AreApart bound (joined f n ss)
joined-apart bound n f to [] apart b up e = (b, omega (arith, up, e), tt)
joined-apart bound n f to (t ∷ ts) apart b up e = on (t.from == n + 1) refl
  where
    on : (p : Bool) → (t.from == n + 1) ≡ p → AreApart bound (if p then record { from = f; to = t.to } ∷ ts else (record { from = f; to = n } ∷ t ∷ ts))
    on true q = (b, omega (arith, apart.0, apart.1, up), apart.2)
    on false q = (b, omega (arith, up, e), (grind (arith, nat_tests, apart.0, e, q), apart.1, apart.2))

first-apart : (bound n : ℕ) (s : Span) (ss : List Span) → AreApart bound (s ∷ ss) → bound ≤ n → n ≤ s.to + 1 → AreApart bound (put_first n (s ∷ ss))
first-apart bound n s ss apart b l = on (nat_lt n s.from) (nat_lt 1 (s.from - n)) (nat_lt s.to n) refl refl refl
  where
    on : (a p c : Bool) → nat_lt n s.from ≡ a → nat_lt 1 (s.from - n) ≡ p → nat_lt s.to n ≡ c → AreApart bound (if a then (if p then record { from = n; to = n } ∷ s ∷ ss else (record { from = n; to = s.to } ∷ ss)) else (if c then joined s.from n ss else (s ∷ ss)))
    on true true c x y z = (b, omega arith, (grind (arith, nat_tests, y), apart.1, apart.2))
    on true false c x y z = (b, grind (arith, nat_tests, x, apart.1), apart.2)
    on false p true x y z = joined-apart bound n s.from s.to ss apart.2 apart.0 apart.1 (grind (arith, nat_tests, l, z))
    on false p false x y z = apart

pub apart-put : (bound n : ℕ) (ss : List Span) → AreApart bound ss → bound ≤ n → AreApart bound (put n ss)
apart-put bound n [] apart b = (b, omega arith, tt)
apart-put bound n (s ∷ ss) apart b = on (nat_lt s.to (n - 1)) refl (apart-put (s.to + 2) n ss apart.2)
  where
    on : (p : Bool) → nat_lt s.to (n - 1) ≡ p → (s.to + 2 ≤ n → AreApart (s.to + 2) (put n ss)) → AreApart bound (if p then (s ∷ put n ss) else put_first n (s ∷ ss))
    on true q more = (apart.0, apart.1, more (grind (arith, nat_tests, q)))
    on false q more = first-apart bound n s ss apart b (grind (arith, nat_tests, q))

-- how many spans there are once a number has come

joined-length : (f n : ℕ) (ss : List Span) → length (joined f n ss) ≤ suc (length ss)
joined-length f n [] = omega arith
joined-length f n (t ∷ ts) = on (t.from == n + 1)
  where
    on : (b : Bool) → length (if b then record { from = f; to = t.to } ∷ ts else (record { from = f; to = n } ∷ t ∷ ts)) ≤ suc (suc (length ts))
    on true = omega arith
    on false = omega arith

first-upward : (bound n : ℕ) (s : Span) (ss : List Span) → AreApart bound (s ∷ ss) → n ≤ s.to + 1 → has (n - 1) (s ∷ ss) ≡ true → length (put_first n (s ∷ ss)) ≤ suc (length ss)
first-upward bound n s ss apart l h = on (nat_lt n s.from) (nat_lt 1 (s.from - n)) (nat_lt s.to n) refl refl
  where
    on : (a b c : Bool) → nat_lt n s.from ≡ a → nat_lt 1 (s.from - n) ≡ b → length (if a then (if b then record { from = n; to = n } ∷ s ∷ ss else (record { from = n; to = s.to } ∷ ss)) else (if c then joined s.from n ss else (s ∷ ss))) ≤ suc (length ss)
    on true true c p q = absurd (true≢false (sym h ∙ has-below s.from (n - 1) (s ∷ ss) (omega arith, apart.1, apart.2) (grind (arith, nat_tests, p, q))))
    on true false c p q = omega arith
    on false b true p q = joined-length s.from n ss
    on false b false p q = omega arith

pub upward-put : (bound n : ℕ) (ss : List Span) → AreApart bound ss → has (n - 1) ss ≡ true → length (put n ss) ≤ length ss
upward-put bound n [] apart h = absurd (true≢false (sym h))
upward-put bound n (s ∷ ss) apart h = on (nat_lt s.to (n - 1)) refl (upward-put (s.to + 2) n ss apart.2)
  where
    on : (b : Bool) → nat_lt s.to (n - 1) ≡ b → (has (n - 1) ss ≡ true → length (put n ss) ≤ length ss) → length (if b then (s ∷ put n ss) else put_first n (s ∷ ss)) ≤ suc (length ss)
    on true q more =
        let out : nat_le (n - 1) s.to ≡ false = grind (arith, nat_tests, q) in
        let there : has (n - 1) ss ≡ true = grind (arith, common_steps, h, out) in
        let r : length (put n ss) ≤ length ss = more there in
        omega (arith, r)
    on false q more = first-upward bound n s ss apart (grind (arith, nat_tests, q)) h

first-length : (n : ℕ) (s : Span) (ss : List Span) → length (put_first n (s ∷ ss)) ≤ suc (suc (length ss))
first-length n s ss = on (nat_lt n s.from) (nat_lt 1 (s.from - n)) (nat_lt s.to n) (joined-length s.from n ss)
  where
    on : (a b c : Bool) → length (joined s.from n ss) ≤ suc (length ss) → length (if a then (if b then record { from = n; to = n } ∷ s ∷ ss else (record { from = n; to = s.to } ∷ ss)) else (if c then joined s.from n ss else (s ∷ ss))) ≤ suc (suc (length ss))
    on true true c l = omega arith
    on true false c l = omega arith
    on false b true l = omega (arith, l)
    on false b false l = omega arith

pub length-put : (n : ℕ) (ss : List Span) → length (put n ss) ≤ suc (length ss)
length-put n [] = omega arith
length-put n (s ∷ ss) = on (nat_lt s.to (n - 1)) (length-put n ss)
  where
    on : (b : Bool) → length (put n ss) ≤ suc (length ss) → length (if b then (s ∷ put n ss) else put_first n (s ∷ ss)) ≤ suc (suc (length ss))
    on true l = omega (arith, l)
    on false l = first-length n s ss

-- where a number is: in the first span that does not end before it

-- that span begins at the number or below it
abbrev pub reaches : ℕ → List Span → Bool
reaches n [] = false
reaches n (s ∷ ss) = nat_le s.from n

pub has-place : (bound n : ℕ) (ss : List Span) → AreApart bound ss → has n ss ≡ reaches n (drop (ended n ss) ss)
has-place bound n [] apart = refl
has-place bound n (s ∷ ss) apart = on (nat_lt s.to n) refl (has-place (s.to + 2) n ss apart.2)
  where
    on : (b : Bool) → nat_lt s.to n ≡ b → has n ss ≡ reaches n (drop (ended n ss) ss) → has n (s ∷ ss) ≡ reaches n (drop (if b then suc (ended n ss) else 0) (s ∷ ss))
    on true q more = let out : nat_le n s.to ≡ false = grind (arith, nat_tests, q) in let none : within n s ≡ false = grind (arith, nat_tests, out) in rw none more
    on false q more =
        let rest : has n ss ≡ false = has-below (s.to + 2) n ss apart.2 (grind (arith, nat_tests, q)) in
        let up : nat_le n s.to ≡ true = grind (arith, nat_tests, q) in
        rw (rest, up) (ends (nat_le s.from n))
      where
        ends : (b : Bool) → ((b && true) || false) ≡ b
        ends true = refl
        ends false = refl
