-- Reading words: what the calls of std give.
use Rattle.std.proofs.Common.{◌≡◌, ◌≢◌, ℕ, zero, suc, ◌<◌, ◌^◌, ◌&&◌, Bool, true, false, eqb, ltb, List, [], ◌∷◌, ◌++◌, length, get_or, take, drop, Option, Some, None, MatchOption, option_copied, Bor, refl, sym, ap, ◌∙◌, arith, inl, inr, eq-eqb}
use Rattle.std.specs.List.{list_all}
use Rattle.std.specs.Str.Pattern.{FindsTextPrefix, StripsPrefix}
use Rattle.std.specs.Char.{digit_value}
use Rattle.std.specs.Str.Parse.{without_leading_plus, digits_value, IsNumeral, AllDigits}
use Rattle.std.proofs.lemmas.Bool.{eqb-true, ne_eqb, cases_Bool, ltb-true, lt-ltb, and_parts, and_from}
use Rattle.mdb_base.specs.AddressReading.{until, beyond, after, number_of}

-- names

pub after_here : (name rest : List ℕ) → after name (name ++ rest) ≡ Some rest
unfolding after
after_here [] rest = refl
after_here (n ∷ ns) rest = rw (eq-eqb n n refl) (after_here ns rest)

pub after_lacks : (name s : List ℕ) → ((rest : List ℕ) → s ≢ name ++ rest) → after name s ≡ None
unfolding after
after_lacks [] s none = absurd (none s refl)
after_lacks (n ∷ ns) [] none = refl
after_lacks (n ∷ ns) (b ∷ bs) none = elim (cases_Bool (eqb b n)) [
  | inl same ↦ rw same (after_lacks ns bs (λ rest e. none rest (let alike : b ≡ n = eqb-true b n same in cc)))
  | inr other ↦ rw other refl
]

-- cuts

pub until_found : (c : ℕ) (s : List ℕ) (i : ℕ) → i < length s → get_or s i 0 ≡ c → ((k : ℕ) → k < i → get_or s k 0 ≢ c) → (until c s ≡ take i s) × (beyond c s ≡ drop i s)
unfolding until beyond
until_found c [] i lt e before = absurd (omega arith)
until_found c (b ∷ bs) zero lt e before = rw (eq-eqb b c e) (refl, refl)
until_found c (b ∷ bs) (suc i) lt e before =
    let other : eqb b c ≡ false = ne_eqb b c (before 0 (omega arith)) in
    let rest = until_found c bs i (omega arith) e (λ k l. before (suc k) (omega arith)) in
    rw other (ap (λ (xs : List ℕ). b ∷ xs) rest.0, rest.1)

pub until_missing : (c : ℕ) (s : List ℕ) → ((k : ℕ) → k < length s → get_or s k 0 ≢ c) → (until c s ≡ s) × (beyond c s ≡ [])
unfolding until beyond
until_missing c [] before = (refl, refl)
until_missing c (b ∷ bs) before =
    let other : eqb b c ≡ false = ne_eqb b c (before 0 (omega arith)) in
    let rest = until_missing c bs (λ k l. before (suc k) (omega arith)) in
    rw other (ap (λ (xs : List ℕ). b ∷ xs) rest.0, rest.1)

-- numbers

digits_test : (ds : List ℕ) → list_all (λ c. ltb (digit_value c) 10) ds ≡ true → AllDigits 10 ds
digits_test [] h = tt
digits_test (c ∷ cs) h = let p = and_parts _ _ h in (ltb-true (digit_value c) 10 p.0, digits_test cs p.1)

digits_pass : (ds : List ℕ) → AllDigits 10 ds → list_all (λ c. ltb (digit_value c) 10) ds ≡ true
digits_pass [] h = refl
digits_pass (c ∷ cs) h = and_from _ _ (lt-ltb (digit_value c) 10 h.0) (digits_pass cs h.1)

abbrev pub number_test : ℕ → List ℕ → Bool
number_test k ds = ltb 0 (length ds) && (list_all (λ c. ltb (digit_value c) 10) ds && ltb (digits_value 10 ds) (2 ^ k))

test_passes : (k : ℕ) (ds : List ℕ) → IsNumeral 10 ds → digits_value 10 ds < 2 ^ k → number_test k ds ≡ true
test_passes k ds h lt = and_from _ _ (lt-ltb 0 (length ds) h.0) (and_from _ _ (digits_pass ds h.1) (lt-ltb _ _ lt))

test_fails : (k : ℕ) (ds : List ℕ) → ((IsNumeral 10 ds × (digits_value 10 ds < 2 ^ k)) → ⊥) → number_test k ds ≡ false
test_fails k ds never = elim (cases_Bool (number_test k ds)) [
  | inl passes ↦ (let p = and_parts _ _ passes in let q = and_parts _ _ p.1 in absurd (never ((ltb-true 0 (length ds) p.0, digits_test ds q.0), ltb-true _ _ q.1)))
  | inr e ↦ e
]

abbrev pub Reads : ℕ → List ℕ → Type 0
Reads k ds = IsNumeral 10 ds × (digits_value 10 ds < 2 ^ k)

pub number_read : (k : ℕ) (bs : List ℕ) (n : ℕ) → Reads k (without_leading_plus bs) → n ≡ digits_value 10 (without_leading_plus bs) → number_of k bs ≡ Some n
unfolding number_of
number_read k bs n h e = rw (test_passes k (without_leading_plus bs) h.0 h.1) (ap Some (sym e))

pub number_missing : (k : ℕ) (bs : List ℕ) → (Reads k (without_leading_plus bs) → ⊥) → number_of k bs ≡ None
unfolding number_of
number_missing k bs h = rw (test_fails k (without_leading_plus bs) h) refl

pub after_stripped : (name s : List ℕ) (r : Option (Bor (List ℕ))) → MatchOption r (FindsTextPrefix name s None) (λ x. StripsPrefix (FindsTextPrefix name) s x.now) → option_copied r ≡ after name s
after_stripped name s None h = sym (after_lacks name s h)
after_stripped name s (Some x) (n, h, e, len) = rw e (sym (ap (after name) h.1 ∙ after_here name (drop n s)))
