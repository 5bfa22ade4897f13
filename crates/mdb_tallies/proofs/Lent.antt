-- What a grant, a take and a return change of a connection.
use Rattle.std.proofs.Common.{ℕ, ◌+◌, ◌-◌, ◌≡◌, ◌==◌, Bool, true, false, not, ◌&&◌, ◌||◌, if◌then◌else◌, is_some, Some, List, ◌∷◌, refl, sym, ap, ◌∙◌, arith}
use Rattle.std.proofs.Math.Bool.{and-false}
use Rattle.mdb_log.specs.History.{PoolItem, granted, taken, if_so, without}
use Rattle.mdb_log.specs.Connections.{has, one_if, available_list, granted_to}
use Rattle.mdb_log.specs.PlainHolders.{is_granted_to, is_taken_by, parties}
use Rattle.mdb_log.specs.PlainConnections.{is_available}
use Rattle.mdb_log.proofs.Numbers.{same-number}
use Rattle.mdb_tallies.specs.Totals.{count}
use Rattle.mdb_tallies.specs.Standing.{connection_by, keeps, borrows, is_lent}
use Rattle.mdb_tallies.specs.Changes.{once_granted, once_taken, once_returned}
use Rattle.mdb_tallies.proofs.Totals.{once-first, without-first, count-change, count-same}
use Rattle.mdb_tallies.proofs.Pooled.{departs}
use Rattle.mdb_tallies.proofs.Given.{parties-once, keeps-none, borrows-none}

-- a test that changes at one number alone
other : (t r q : ℕ) (b g : Bool) → (r == q) ≡ false → ((r == q) && b) || g ≡ g
other t r q b g e = rw e refl

here : (r : ℕ) (g : Bool) → ((r == r) && true) || g ≡ true
here r g = rw (same-number r) refl

-- where it is about another connection
apart : (r q : ℕ) (g : Bool) → ((r == q) && false) || g ≡ g
apart r q g = rw (and-false (r == q)) refl

-- has the first of the list
found : (r : ℕ) (rs : List ℕ) → has r (r ∷ without r rs) ≡ true
found r rs = rw (same-number r) refl

is_true : {A : Type 0} → true ≡ false → A
is_true e = cc

no-more : (n : ℕ) (b : Bool) → (n + one_if b) - one_if b ≡ n
no-more n b = omega arith

-- of the connection that was granted
granted_here : (r : ℕ) (xs : List PoolItem) (gone over : ℕ → Bool) (c : ℕ) → count (λ q. is_lent (((r == q) && true) || is_granted_to xs q c) (is_taken_by xs q c) (gone q) (over q)) (r ∷ without r (parties xs c)) ≡ (count (borrows xs gone over c) (parties xs c) + one_if (is_lent true (is_taken_by xs r c) (gone r) (over r))) - one_if (borrows xs gone over c r)
granted_here r xs gone over c =
    let now : ℕ → Bool = λ q. is_lent (((r == q) && true) || is_granted_to xs q c) (is_taken_by xs q c) (gone q) (over q) in
    let e = count-change (borrows xs gone over c) (λ q. is_lent (((r == q) && true) || is_granted_to xs q c) (is_taken_by xs q c) (gone q) (over q)) r (parties xs c) (r ∷ without r (parties xs c)) (parties-once xs c) (once-first r (parties xs c) (parties-once xs c)) (without-first r (parties xs c)) (λ j a. ap (λ g. is_lent g (is_taken_by xs j c) (gone j) (over j)) (other 0 r j true (is_granted_to xs j c) a)) (borrows-none xs gone over c r) (λ a. is_true (sym (found r (parties xs c)) ∙ a)) in
    e ∙ ap (λ g. (count (borrows xs gone over c) (parties xs c) + one_if (is_lent g (is_taken_by xs r c) (gone r) (over r))) - one_if (borrows xs gone over c r)) (here r (is_granted_to xs r c))

-- one more party, of which the test doesn't speak
kept_same : (r : ℕ) (xs : List PoolItem) (gone : ℕ → Bool) (c : ℕ) → count (keeps xs gone c) (r ∷ without r (parties xs c)) ≡ count (keeps xs gone c) (parties xs c)
kept_same r xs gone c =
    let e = count-change (keeps xs gone c) (keeps xs gone c) r (parties xs c) (r ∷ without r (parties xs c)) (parties-once xs c) (once-first r (parties xs c) (parties-once xs c)) (without-first r (parties xs c)) (λ j a. refl) (keeps-none xs gone c r) (λ a. is_true (sym (found r (parties xs c)) ∙ a)) in
    e ∙ no-more (count (keeps xs gone c) (parties xs c)) (keeps xs gone c r)

granted_one : (t : Bool) (r d : ℕ) (xs : List PoolItem) (gone over : ℕ → Bool) (c : ℕ) →
    record (connection_by xs gone over c) {
      is_granted = is_some (if t then (Some r) else granted_to xs c);
      is_available = if t then false else is_available xs c;
      kept = count (keeps xs gone c) (if t then (r ∷ without r (parties xs c)) else parties xs c);
      lent = count (λ q. is_lent (((r == q) && t) || is_granted_to xs q c) (is_taken_by xs q c) (gone q) (over q)) (if t then (r ∷ without r (parties xs c)) else parties xs c);
    }
    ≡ (if t then once_granted (borrows xs gone over c r) (is_lent true (is_taken_by xs r c) (gone r) (over r)) (connection_by xs gone over c) else connection_by xs gone over c)
granted_one true r d xs gone over c = rw (granted_here r xs gone over c, kept_same r xs gone c) refl
granted_one false r d xs gone over c =
    ap (λ n. record (connection_by xs gone over c) { lent = n }) (count-same (λ q. is_lent (((r == q) && false) || is_granted_to xs q c) (is_taken_by xs q c) (gone q) (over q)) (borrows xs gone over c) (parties xs c) (λ q. ap (λ g. is_lent g (is_taken_by xs q c) (gone q) (over q)) (apart r q (is_granted_to xs q c))))

-- a grant: of the connection that it names
pub granted-changes : (b : Bool) (r d : ℕ) (xs : List PoolItem) (gone over : ℕ → Bool) (c : ℕ) → connection_by (if_so b (granted r d) xs) gone over c ≡ (if b && (d == c) then once_granted (borrows xs gone over c r) (is_lent true (is_taken_by xs r c) (gone r) (over r)) (connection_by xs gone over c) else connection_by xs gone over c)
granted-changes true r d xs gone over c = rw (departs d c (available_list xs)) (granted_one (d == c) r d xs gone over c)
granted-changes false r d xs gone over c = refl

-- of the connection that was taken
taken_here : (r : ℕ) (xs : List PoolItem) (gone : ℕ → Bool) (c : ℕ) → count (λ q. (((r == q) && true) || is_taken_by xs q c) && not (gone q)) (r ∷ without r (parties xs c)) ≡ (count (keeps xs gone c) (parties xs c) + one_if (not (gone r))) - one_if (keeps xs gone c r)
taken_here r xs gone c =
    let e = count-change (keeps xs gone c) (λ q. (((r == q) && true) || is_taken_by xs q c) && not (gone q)) r (parties xs c) (r ∷ without r (parties xs c)) (parties-once xs c) (once-first r (parties xs c) (parties-once xs c)) (without-first r (parties xs c)) (λ j a. ap (λ t. t && not (gone j)) (other 0 r j true (is_taken_by xs j c) a)) (keeps-none xs gone c r) (λ a. is_true (sym (found r (parties xs c)) ∙ a)) in
    e ∙ ap (λ t. (count (keeps xs gone c) (parties xs c) + one_if (t && not (gone r))) - one_if (keeps xs gone c r)) (here r (is_taken_by xs r c))

not_lent : (g gone over : Bool) → is_lent g true gone over ≡ false
not_lent true gone over = refl
not_lent false gone over = refl

lent_no_more : (r : ℕ) (xs : List PoolItem) (gone over : ℕ → Bool) (c : ℕ) → count (λ q. is_lent (is_granted_to xs q c) (((r == q) && true) || is_taken_by xs q c) (gone q) (over q)) (r ∷ without r (parties xs c)) ≡ count (borrows xs gone over c) (parties xs c) - one_if (borrows xs gone over c r)
lent_no_more r xs gone over c =
    let e = count-change (borrows xs gone over c) (λ q. is_lent (is_granted_to xs q c) (((r == q) && true) || is_taken_by xs q c) (gone q) (over q)) r (parties xs c) (r ∷ without r (parties xs c)) (parties-once xs c) (once-first r (parties xs c) (parties-once xs c)) (without-first r (parties xs c)) (λ j a. ap (λ t. is_lent (is_granted_to xs j c) t (gone j) (over j)) (other 0 r j true (is_taken_by xs j c) a)) (borrows-none xs gone over c r) (λ a. is_true (sym (found r (parties xs c)) ∙ a)) in
    let now : is_lent (is_granted_to xs r c) (((r == r) && true) || is_taken_by xs r c) (gone r) (over r) ≡ false = ap (λ t. is_lent (is_granted_to xs r c) t (gone r) (over r)) (here r (is_taken_by xs r c)) ∙ not_lent (is_granted_to xs r c) (gone r) (over r) in
    let none : one_if (is_lent (is_granted_to xs r c) (((r == r) && true) || is_taken_by xs r c) (gone r) (over r)) ≡ 0 = ap one_if now in
    omega arith

taken_one : (t : Bool) (r d : ℕ) (xs : List PoolItem) (gone over : ℕ → Bool) (c : ℕ) →
    record (connection_by xs gone over c) {
      kept = count (λ q. (((r == q) && t) || is_taken_by xs q c) && not (gone q)) (if t then (r ∷ without r (parties xs c)) else parties xs c);
      lent = count (λ q. is_lent (is_granted_to xs q c) (((r == q) && t) || is_taken_by xs q c) (gone q) (over q)) (if t then (r ∷ without r (parties xs c)) else parties xs c);
    }
    ≡ (if t then once_taken (keeps xs gone c r) (not (gone r)) (borrows xs gone over c r) (connection_by xs gone over c) else connection_by xs gone over c)
taken_one true r d xs gone over c = rw (taken_here r xs gone c, lent_no_more r xs gone over c) refl
taken_one false r d xs gone over c =
    let kept : count (λ q. (((r == q) && false) || is_taken_by xs q c) && not (gone q)) (parties xs c) ≡ count (keeps xs gone c) (parties xs c) = count-same (λ q. (((r == q) && false) || is_taken_by xs q c) && not (gone q)) (keeps xs gone c) (parties xs c) (λ q. ap (λ t. t && not (gone q)) (apart r q (is_taken_by xs q c))) in
    let lent : count (λ q. is_lent (is_granted_to xs q c) (((r == q) && false) || is_taken_by xs q c) (gone q) (over q)) (parties xs c) ≡ count (borrows xs gone over c) (parties xs c) = count-same (λ q. is_lent (is_granted_to xs q c) (((r == q) && false) || is_taken_by xs q c) (gone q) (over q)) (borrows xs gone over c) (parties xs c) (λ q. ap (λ t. is_lent (is_granted_to xs q c) t (gone q) (over q)) (apart r q (is_taken_by xs q c))) in
    rw (kept, lent) refl

-- a take: of the connection that it names
pub taken-changes : (b : Bool) (r d : ℕ) (xs : List PoolItem) (gone over : ℕ → Bool) (c : ℕ) → connection_by (if_so b (taken r d) xs) gone over c ≡ (if b && (d == c) then once_taken (keeps xs gone c r) (not (gone r)) (borrows xs gone over c r) (connection_by xs gone over c) else connection_by xs gone over c)
taken-changes true r d xs gone over c = taken_one (d == c) r d xs gone over c
taken-changes false r d xs gone over c = refl

gone_kept : (t : Bool) → t && not true ≡ false
gone_kept true = refl
gone_kept false = refl

gone_lent : (g t over : Bool) → is_lent g t true over ≡ false
gone_lent true true over = refl
gone_lent true false over = refl
gone_lent false t over = refl

-- a return: neither kept by the party nor lent to it
pub returned-changes : (r : ℕ) (xs : List PoolItem) (gone over : ℕ → Bool) (c : ℕ) → connection_by xs (λ q. (r == q) || gone q) over c ≡ once_returned (keeps xs gone c r) (borrows xs gone over c r) (connection_by xs gone over c)
returned-changes r xs gone over c =
    let k = count-change (keeps xs gone c) (keeps xs (λ q. (r == q) || gone q) c) r (parties xs c) (parties xs c) (parties-once xs c) (parties-once xs c) refl (λ j e. rw e refl) (keeps-none xs gone c r) (keeps-none xs (λ q. (r == q) || gone q) c r) in
    let l = count-change (borrows xs gone over c) (borrows xs (λ q. (r == q) || gone q) over c) r (parties xs c) (parties xs c) (parties-once xs c) (parties-once xs c) refl (λ j e. rw e refl) (borrows-none xs gone over c r) (borrows-none xs (λ q. (r == q) || gone q) over c r) in
    let k_now : keeps xs (λ q. (r == q) || gone q) c r ≡ false = rw (same-number r) (gone_kept (is_taken_by xs r c)) in
    let l_now : borrows xs (λ q. (r == q) || gone q) over c r ≡ false = rw (same-number r) (gone_lent (is_granted_to xs r c) (is_taken_by xs r c) (over r)) in
    let kept : count (keeps xs (λ q. (r == q) || gone q) c) (parties xs c) ≡ count (keeps xs gone c) (parties xs c) - one_if (keeps xs gone c r) = let none : one_if (keeps xs (λ q. (r == q) || gone q) c r) ≡ 0 = ap one_if k_now in omega arith in
    let lent : count (borrows xs (λ q. (r == q) || gone q) over c) (parties xs c) ≡ count (borrows xs gone over c) (parties xs c) - one_if (borrows xs gone over c r) = let none : one_if (borrows xs (λ q. (r == q) || gone q) over c r) ≡ 0 = ap one_if l_now in omega arith in
    rw (kept, lent) refl
