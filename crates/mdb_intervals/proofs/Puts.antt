-- What the parts of a list of spans are once a number has come.
use Rattle.std.proofs.Common.{◌≡◌, ℕ, suc, zero, ◌+◌, ◌-◌, ◌<◌, ◌≤◌, Bool, true, false, if◌then◌else◌, nat_lt, ◌==◌, List, [], ◌∷◌, ◌++◌, length, get_or, set, take, drop, refl, sym, ◌∙◌, ap, arith, true≢false, add-one}
use mathlib.Core.Logic.{◌⊎◌, inl, inr}
use Rattle.std.proofs.lemmas.Bool.{cases_lt}
use Rattle.std.proofs.lemmas.Bool.Decides.{nat_tests}
use Rattle.std.proofs.lemmas.List.{drop_more, drop_all, set_split, take-append-drop}
use Rattle.std.specs.List.{insert, remove}
use Rattle.mdb_intervals.specs.declared.span.Span.{Span}
use Rattle.mdb_intervals.specs.Spans.{ended, begins_after, joined, put_first, put}

put-split : (n : ℕ) (ss : List Span) → put n ss ≡ take (ended (n - 1) ss) ss ++ put_first n (drop (ended (n - 1) ss) ss)
put-split n [] = refl
put-split n (s ∷ ss) = on (nat_lt s.to (n - 1)) (put-split n ss)
  where
    on : (b : Bool) → put n ss ≡ take (ended (n - 1) ss) ss ++ put_first n (drop (ended (n - 1) ss) ss) → (if b then (s ∷ put n ss) else put_first n (s ∷ ss)) ≡ take (if b then suc (ended (n - 1) ss) else 0) (s ∷ ss) ++ put_first n (drop (if b then suc (ended (n - 1) ss) else 0) (s ∷ ss))
    on true e = ap (λ more. s ∷ more) e
    on false e = refl

-- where all spans end before it
pub put-end : (n : ℕ) (ss : List Span) (k : ℕ) → k ≡ ended (n - 1) ss → k ≡ length ss → insert ss k (record { from = n; to = n }) ≡ put n ss
put-end n ss k e l = sym (put-split n ss ∙ rw (← e, drop_all k ss (omega (arith, l))) refl)

joined-alone : (from n : ℕ) (ts : List Span) → begins_after n ts ≡ false → joined from n ts ≡ record { from = from; to = n } ∷ ts
joined-alone from n [] e = refl
joined-alone from n (t ∷ ts) e = rw e refl

none-after : (n k : ℕ) (ss : List Span) → begins_after n (drop k ss) ≡ true → length ss ≤ k → ⊥
none-after n k ss e l = true≢false (sym e ∙ ap (begins_after n) (drop_all k ss l))

pub some-after : (n k : ℕ) (ss : List Span) → begins_after n (drop k ss) ≡ true → k < length ss
some-after n k ss e = on (cases_lt k (length ss))
  where
    on : (k < length ss) ⊎ (length ss ≤ k) → k < length ss
    on (inl l) = l
    on (inr g) = absurd (none-after n k ss e g)

-- a span is written, and the next one goes
remove-set : (ss : List Span) (k : ℕ) (x : Span) → k < length ss → remove (set ss k x) (suc k) ≡ take k ss ++ x ∷ drop (suc (suc k)) ss
remove-set [] k x l = absurd (omega arith)
remove-set (s ∷ ss) zero x l = refl
remove-set (s ∷ ss) (suc k) x l = ap (λ more. s ∷ more) (remove-set ss k x (omega arith))

rest : (ss : List Span) (k : ℕ) (d : Span) → k < length ss → drop k ss ≡ get_or ss k d ∷ drop (suc k) ss
rest ss k d l = drop_more ss k d l ∙ ap (λ i. get_or ss k d ∷ drop i ss) (add-one k)

module _ (n : ℕ) (ss : List Span) (k : ℕ) (d : Span) (e : k ≡ ended (n - 1) ss) (l : k < length ss) where
  abbrev s : Span
  s = get_or ss k d

  here : put n ss ≡ take k ss ++ put_first n (s ∷ drop (suc k) ss)
  here = put-split n ss ∙ rw (← e, rest ss k d l) refl

  pub put-alone : n < s.from → 1 < s.from - n → insert ss k (record { from = n; to = n }) ≡ put n ss
  put-alone below far =
      let a : nat_lt n s.from ≡ true = grind (arith, nat_tests) in
      let b : nat_lt 1 (s.from - n) ≡ true = grind (arith, nat_tests) in
      sym (here ∙ rw (a, b, rest ss k d l) refl)

  pub put-before : n < s.from → s.from - n ≤ 1 → set ss k (record { from = n; to = s.to }) ≡ put n ss
  put-before below near =
      let a : nat_lt n s.from ≡ true = grind (arith, nat_tests) in
      let b : nat_lt 1 (s.from - n) ≡ false = grind (arith, nat_tests) in
      set_split ss k _ l ∙ sym (here ∙ rw (a, b) refl)

  pub put-inside : s.from ≤ n → n ≤ s.to → ss ≡ put n ss
  put-inside above within =
      let a : nat_lt n s.from ≡ false = grind (arith, nat_tests) in
      let b : nat_lt s.to n ≡ false = grind (arith, nat_tests) in
      sym (here ∙ rw (a, b, ← rest ss k d l) (take-append-drop k ss))

  after : s.from ≤ n → s.to < n → put n ss ≡ take k ss ++ joined s.from n (drop (suc k) ss)
  after above past =
      let a : nat_lt n s.from ≡ false = grind (arith, nat_tests) in
      let b : nat_lt s.to n ≡ true = grind (arith, nat_tests) in
      here ∙ rw (a, b) refl

  pub put-after : s.from ≤ n → s.to < n → begins_after n (drop (suc k) ss) ≡ false → set ss k (record { from = s.from; to = n }) ≡ put n ss
  put-after above past alone = set_split ss k _ l ∙ sym (after above past ∙ ap (λ more. take k ss ++ more) (joined-alone s.from n (drop (suc k) ss) alone))

  pub put-joined : s.from ≤ n → s.to < n → begins_after n (drop (suc k) ss) ≡ true → suc k < length ss → remove (set ss k (record { from = s.from; to = (get_or ss (suc k) d).to })) (suc k) ≡ put n ss
  put-joined above past meets m =
      let t : Span = get_or ss (suc k) d in
      let r : drop (suc k) ss ≡ t ∷ drop (suc (suc k)) ss = rest ss (suc k) d m in
      let b : (t.from == n + 1) ≡ true = sym (ap (begins_after n) r) ∙ meets in
      remove-set ss k _ l ∙ sym (after above past ∙ rw (r, b) refl)
