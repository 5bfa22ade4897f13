-- What a grant, a take, an end and a return change of a connection.
use Rattle.std.proofs.Common.{ℕ, ◌+◌, ◌-◌, ◌≡◌, ◌==◌, Bool, true, false, not, ◌&&◌, ◌||◌, if◌then◌else◌, List, [], ◌∷◌, refl, sym, ap, ◌∙◌, arith}
use Rattle.std.proofs.lemmas.Grind.{common_steps}
use Rattle.mdb_log.specs.History.{PoolItem, granted, taken, without}
use Rattle.mdb_log.specs.Connections.{has, one_if}
use Rattle.mdb_log.specs.PlainHolders.{is_granted_to, is_taken_by, parties}
use Rattle.mdb_log.proofs.Numbers.{has-without-is, same-number}
use Rattle.mdb_tallies.specs.Totals.{count, Once}
use Rattle.mdb_tallies.specs.Standing.{connection_by, keeps, borrows, is_lent}
use Rattle.mdb_tallies.specs.Changes.{once_over}
use Rattle.mdb_tallies.proofs.Totals.{once-first, count-change}

-- a list with one more, where the test holds
put : Bool → ℕ → List ℕ → List ℕ
put b r rs = if b then (r ∷ without r rs) else rs

put-once : (b : Bool) (r : ℕ) (rs : List ℕ) → Once rs → Once (if b then (r ∷ without r rs) else rs)
put-once true r rs o = once-first r rs o
put-once false r rs o = o

put-has : (b : Bool) (q r : ℕ) (rs : List ℕ) → has r (if b then (q ∷ without q rs) else rs) ≡ ((q == r) && b) || has r rs
put-has true q r rs = grind (arith, common_steps, has-without-is r q rs)
put-has false q r rs = grind (arith, common_steps)

pub parties-once : (xs : List PoolItem) (c : ℕ) → Once (parties xs c)
parties-once [] c = tt
parties-once (granted r d ∷ xs) c = put-once (d == c) r (parties xs c) (parties-once xs c)
parties-once (taken r d ∷ xs) c = put-once (d == c) r (parties xs c) (parties-once xs c)
parties-once (x ∷ xs) c = parties-once xs c

first_of_three : (a b c : Bool) → a || (b || c) ≡ (a || b) || c
first_of_three true b c = refl
first_of_three false b c = refl

second_of_three : (a b c : Bool) → a || (b || c) ≡ b || (a || c)
second_of_three true true c = refl
second_of_three true false c = refl
second_of_three false b c = refl

-- the parties of a connection are those to which it was given
pub parties-given : (xs : List PoolItem) (r c : ℕ) → has r (parties xs c) ≡ is_granted_to xs r c || is_taken_by xs r c
parties-given [] r c = refl
parties-given (granted q d ∷ xs) r c = put-has (d == c) q r (parties xs c) ∙ ap (λ b. ((q == r) && (d == c)) || b) (parties-given xs r c) ∙ first_of_three ((q == r) && (d == c)) (is_granted_to xs r c) (is_taken_by xs r c)
parties-given (taken q d ∷ xs) r c = put-has (d == c) q r (parties xs c) ∙ ap (λ b. ((q == r) && (d == c)) || b) (parties-given xs r c) ∙ second_of_three ((q == r) && (d == c)) (is_granted_to xs r c) (is_taken_by xs r c)
parties-given (x ∷ xs) r c = parties-given xs r c

none-kept : (g t gone : Bool) → g || t ≡ false → t && not gone ≡ false
none-kept true t gone e = cc
none-kept false t gone e = rw e refl

none-lent : (g t gone over : Bool) → g || t ≡ false → is_lent g t gone over ≡ false
none-lent true t gone over e = cc
none-lent false t gone over e = refl

-- who is none of the parties has it not
pub keeps-none : (xs : List PoolItem) (gone : ℕ → Bool) (c r : ℕ) → has r (parties xs c) ≡ false → keeps xs gone c r ≡ false
keeps-none xs gone c r e = none-kept (is_granted_to xs r c) (is_taken_by xs r c) (gone r) (sym (parties-given xs r c) ∙ e)

pub borrows-none : (xs : List PoolItem) (gone over : ℕ → Bool) (c r : ℕ) → has r (parties xs c) ≡ false → borrows xs gone over c r ≡ false
borrows-none xs gone over c r e = none-lent (is_granted_to xs r c) (is_taken_by xs r c) (gone r) (over r) (sym (parties-given xs r c) ∙ e)

-- an end: lent to the party no more
pub over-changes : (r : ℕ) (xs : List PoolItem) (gone over : ℕ → Bool) (c : ℕ) → connection_by xs gone (λ q. (r == q) || over q) c ≡ once_over (borrows xs gone over c r) (connection_by xs gone over c)
over-changes r xs gone over c =
    let lent : count (borrows xs gone (λ q. (r == q) || over q) c) (parties xs c) ≡ (count (borrows xs gone over c) (parties xs c) + one_if (borrows xs gone (λ q. (r == q) || over q) c r)) - one_if (borrows xs gone over c r) = count-change (borrows xs gone over c) (borrows xs gone (λ q. (r == q) || over q) c) r (parties xs c) (parties xs c) (parties-once xs c) (parties-once xs c) refl (λ j e. rw e refl) (borrows-none xs gone over c r) (borrows-none xs gone (λ q. (r == q) || over q) c r) in
    let now : borrows xs gone (λ q. (r == q) || over q) c r ≡ false = rw (same-number r) (ended (is_granted_to xs r c) (is_taken_by xs r c) (gone r)) in
    let fewer : count (borrows xs gone (λ q. (r == q) || over q) c) (parties xs c) ≡ count (borrows xs gone over c) (parties xs c) - one_if (borrows xs gone over c r) = let none : one_if (borrows xs gone (λ q. (r == q) || over q) c r) ≡ 0 = ap one_if now in omega arith in
    ap (λ n. record (connection_by xs gone over c) { lent = n }) fewer
  where
    ended : (g t gone : Bool) → is_lent g t gone true ≡ false
    ended true true gone = refl
    ended true false true = refl
    ended true false false = refl
    ended false t gone = refl
