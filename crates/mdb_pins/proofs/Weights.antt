-- What the keepers of a connection weigh together, after one more item.
use Rattle.std.proofs.Common.{ℕ, ◌+◌, ◌≡◌, ◌==◌, Bool, true, false, not, ◌&&◌, ◌||◌, if◌then◌else◌, List, ◌∷◌, refl, sym, ap, ◌∙◌, arith}
use Rattle.std.proofs.Math.Bool.{and-false}
use Rattle.mdb_log.specs.History.{PoolItem, granted, if_so, without}
use Rattle.mdb_log.specs.Connections.{has, one_if}
use Rattle.mdb_log.specs.PlainHolders.{is_taken_by, parties}
use Rattle.mdb_log.proofs.Numbers.{same-number}
use Rattle.mdb_tallies.specs.Totals.{total, count}
use Rattle.mdb_tallies.specs.Standing.{keeps}
use Rattle.mdb_tallies.proofs.Totals.{once-first, without-first, total-change, total-same}
use Rattle.mdb_tallies.proofs.Given.{parties-once, keeps-none}
use Rattle.mdb_pins.specs.Standing.{weigh}

-- what the number weighs where it passes
abbrev pub weight : (ℕ → Bool) → (ℕ → ℕ) → ℕ → ℕ
weight test f r = if test r then f r else 0

unpassed : (test : ℕ → Bool) (f : ℕ → ℕ) (r : ℕ) → test r ≡ false → weight test f r ≡ 0
unpassed test f r e = rw e refl

found : (r : ℕ) (rs : List ℕ) → has r (r ∷ without r rs) ≡ true
found r rs = rw (same-number r) refl

is_true : {A : Type 0} → true ≡ false → A
is_true e = cc

even : (a b n : ℕ) → a + n ≡ b + n → a ≡ b
even a b n e = omega arith

-- a grant changes nothing
pub weigh-granted : (f : ℕ → ℕ) (b : Bool) (s d : ℕ) (xs : List PoolItem) (gone : ℕ → Bool) (c : ℕ) → weigh f (if_so b (granted s d) xs) gone c ≡ weigh f xs gone c
weigh-granted f false s d xs gone c = refl
weigh-granted f true s d xs gone c = by (d == c)
  where
    w : ℕ → ℕ
    w = weight (keeps xs gone c) f

    by : (t : Bool) → total (weight (keeps xs gone c) f) (if t then (s ∷ without s (parties xs c)) else parties xs c) ≡ total (weight (keeps xs gone c) f) (parties xs c)
    by false = refl
    by true = even (total (weight (keeps xs gone c) f) (s ∷ without s (parties xs c))) (total (weight (keeps xs gone c) f) (parties xs c)) (weight (keeps xs gone c) f s) (total-change (weight (keeps xs gone c) f) (weight (keeps xs gone c) f) s (parties xs c) (s ∷ without s (parties xs c)) (parties-once xs c) (once-first s (parties xs c) (parties-once xs c)) (without-first s (parties xs c)) (λ j a. refl) (λ a. unpassed (keeps xs gone c) f s (keeps-none xs gone c s a)) (λ a. is_true (sym (found s (parties xs c)) ∙ a)))

here : (r : ℕ) (g : Bool) → ((r == r) && true) || g ≡ true
here r g = rw (same-number r) refl

-- a take of it: the party weighs now, unless it returned
pub weigh-taken : (f : ℕ → ℕ) (r : ℕ) (xs : List PoolItem) (gone : ℕ → Bool) (c : ℕ) → total (weight (λ q. (((r == q) && true) || is_taken_by xs q c) && not (gone q)) f) (r ∷ without r (parties xs c)) + weight (keeps xs gone c) f r ≡ weigh f xs gone c + (if not (gone r) then f r else 0)
weigh-taken f r xs gone c =
    let e = total-change (weight (keeps xs gone c) f) (weight (λ q. (((r == q) && true) || is_taken_by xs q c) && not (gone q)) f) r (parties xs c) (r ∷ without r (parties xs c)) (parties-once xs c) (once-first r (parties xs c) (parties-once xs c)) (without-first r (parties xs c)) (λ j a. rw a refl) (λ a. unpassed (keeps xs gone c) f r (keeps-none xs gone c r a)) (λ a. is_true (sym (found r (parties xs c)) ∙ a)) in
    e ∙ ap (λ b. weigh f xs gone c + (if b && not (gone r) then f r else 0)) (here r (is_taken_by xs r c))

-- where it is of another connection
pub weigh-apart : (f : ℕ → ℕ) (r : ℕ) (xs : List PoolItem) (gone : ℕ → Bool) (c : ℕ) → total (weight (λ q. (((r == q) && false) || is_taken_by xs q c) && not (gone q)) f) (parties xs c) ≡ weigh f xs gone c
weigh-apart f r xs gone c = total-same (weight (λ q. (((r == q) && false) || is_taken_by xs q c) && not (gone q)) f) (weight (keeps xs gone c) f) (parties xs c) (λ q e. ap (λ b. if (b || is_taken_by xs q c) && not (gone q) then f q else 0) (and-false (r == q)))

gone_kept : (t : Bool) → t && not true ≡ false
gone_kept true = refl
gone_kept false = refl

-- a return: the party weighs no more
pub weigh-returned : (f : ℕ → ℕ) (r : ℕ) (xs : List PoolItem) (gone : ℕ → Bool) (c : ℕ) → weigh f xs (λ q. (r == q) || gone q) c + weight (keeps xs gone c) f r ≡ weigh f xs gone c
weigh-returned f r xs gone c =
    let e = total-change (weight (keeps xs gone c) f) (weight (keeps xs (λ q. (r == q) || gone q) c) f) r (parties xs c) (parties xs c) (parties-once xs c) (parties-once xs c) refl (λ j a. rw a refl) (λ a. unpassed (keeps xs gone c) f r (keeps-none xs gone c r a)) (λ a. unpassed (keeps xs (λ q. (r == q) || gone q) c) f r (keeps-none xs (λ q. (r == q) || gone q) c r a)) in
    let now : weight (keeps xs (λ q. (r == q) || gone q) c) f r ≡ 0 = unpassed (keeps xs (λ q. (r == q) || gone q) c) f r (ap (λ b. is_taken_by xs r c && not (b || gone r)) (same-number r) ∙ gone_kept (is_taken_by xs r c)) in
    omega (arith, e, now)

-- the party weighs otherwise
pub weigh-otherwise : (f g : ℕ → ℕ) (r : ℕ) (xs : List PoolItem) (gone : ℕ → Bool) (c : ℕ) → ((j : ℕ) → (r == j) ≡ false → g j ≡ f j) → weigh g xs gone c + weight (keeps xs gone c) f r ≡ weigh f xs gone c + weight (keeps xs gone c) g r
weigh-otherwise f g r xs gone c e = total-change (weight (keeps xs gone c) f) (weight (keeps xs gone c) g) r (parties xs c) (parties xs c) (parties-once xs c) (parties-once xs c) refl (λ j a. ap (λ n. if keeps xs gone c j then n else 0) (e j a)) (λ a. unpassed (keeps xs gone c) f r (keeps-none xs gone c r a)) (λ a. unpassed (keeps xs gone c) g r (keeps-none xs gone c r a))

-- how many keep it
pub weigh-counted : (xs : List PoolItem) (gone : ℕ → Bool) (c : ℕ) → count (keeps xs gone c) (parties xs c) ≡ weigh (λ r. 1) xs gone c
weigh-counted xs gone c = total-same (λ r. one_if (keeps xs gone c r)) (weight (keeps xs gone c) (λ r. 1)) (parties xs c) (λ r e. by (keeps xs gone c r))
  where
    by : (b : Bool) → one_if b ≡ (if b then 1 else 0)
    by true = refl
    by false = refl
