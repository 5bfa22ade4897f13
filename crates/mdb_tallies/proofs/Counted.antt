-- The auditor's counts say of a connection and a pool what the definitions say.
use Rattle.std.proofs.Common.{ℕ, ◌+◌, ◌≡◌, ◌≤◌, ◌==◌, Bool, true, false, not, ◌&&◌, ◌||◌, if◌then◌else◌, nat_lt, nat_le, List, [], ◌∷◌, refl, sym, ap, ◌∙◌, arith, None, Option}
use Rattle.std.specs.Bool.{MatchBool}
use Rattle.std.specs.List.{list_any}
use Rattle.std.proofs.lemmas.Grind.{common_steps}
use Rattle.mdb_log.specs.declared.options.PoolOptions.{PoolOptions}
use Rattle.mdb_log.specs.History.{Item, of_pool}
use Rattle.mdb_log.specs.Connections.{has, one_if}
use Rattle.mdb_log.specs.State.{State}
use Rattle.mdb_log.specs.PlainConnections.{connections, is_created, is_pending, is_available, closings, creations}
use Rattle.mdb_log.specs.PlainHolders.{holds, held, has_returned, is_granted_to, is_taken_by, parties, is_pinned}
use Rattle.mdb_log.specs.PlainRequests.{is_ended}
use Rattle.mdb_log.specs.PlainState.{pools, last_state, has_ready, could_be_granted}
use Rattle.mdb_log.specs.PlainLegal.{places, InPlace}
use Rattle.mdb_tallies.specs.Totals.{total, count}
use Rattle.mdb_tallies.specs.Standing.{keeps, borrows, connection_of, pool_stands}
use Rattle.mdb_tallies.specs.Verdicts.{held_now, places_now, in_place_now, could_grant_now}
use Rattle.mdb_tallies.proofs.Totals.{filter-count, total-same}

-- the weights together
total-both : (f g : ℕ → ℕ) (ks : List ℕ) → total (λ k. f k + g k) ks ≡ total f ks + total g ks
total-both f g [] = refl
total-both f g (k ∷ ks) = let e = total-both f g ks in omega arith

total-none : (ks : List ℕ) → total (λ k. 0) ks ≡ 0
total-none [] = refl
total-none (k ∷ ks) = let e = total-none ks in omega arith

held_one : (t g p e r : Bool) → one_if ((t || (g && (not p && not e))) && not r) ≡ one_if (t && not r) + one_if ((g && (not t && (not r && not e))) && not p)
held_one true true true true true = refl
held_one true true true true false = refl
held_one true true true false true = refl
held_one true true true false false = refl
held_one true true false true true = refl
held_one true true false true false = refl
held_one true true false false true = refl
held_one true true false false false = refl
held_one true false true true true = refl
held_one true false true true false = refl
held_one true false true false true = refl
held_one true false true false false = refl
held_one true false false true true = refl
held_one true false false true false = refl
held_one true false false false true = refl
held_one true false false false false = refl
held_one false true true true true = refl
held_one false true true true false = refl
held_one false true true false true = refl
held_one false true true false false = refl
held_one false true false true true = refl
held_one false true false true false = refl
held_one false true false false true = refl
held_one false true false false false = refl
held_one false false true true true = refl
held_one false false true true false = refl
held_one false false true false true = refl
held_one false false true false false = refl
held_one false false false true true = refl
held_one false false false true false = refl
held_one false false false false true = refl
held_one false false false false false = refl

lent_one : (p b : Bool) → one_if (b && not p) ≡ (if p then 0 else one_if b)
lent_one true true = refl
lent_one true false = refl
lent_one false true = refl
lent_one false false = refl

lent_all : (p : Bool) (f : ℕ → Bool) (ks : List ℕ) → total (λ k. one_if (f k && not p)) ks ≡ (if p then 0 else count f ks)
lent_all true f ks = total-same (λ k. one_if (f k && not true)) (λ k. 0) ks (λ k e. lent_one true (f k)) ∙ total-none ks
lent_all false f ks = total-same (λ k. one_if (f k && not false)) (λ k. one_if (f k)) ks (λ k e. lent_one false (f k))

-- how many hold the connection
pub held-counted : (p : ℕ) (h : List Item) (c : ℕ) → held p h c ≡ held_now (connection_of h p c)
held-counted p h c =
    filter-count (λ r. holds p h r c) (parties (of_pool p h) c)
    ∙ total-same (λ r. one_if (holds p h r c)) (λ r. one_if (keeps (of_pool p h) (has_returned h) c r) + one_if (borrows (of_pool p h) (has_returned h) (is_ended h) c r && not (is_pending (of_pool p h) c))) (parties (of_pool p h) c) (λ r e. held_one (is_taken_by (of_pool p h) r c) (is_granted_to (of_pool p h) r c) (is_pending (of_pool p h) c) (is_ended h r) (has_returned h r))
    ∙ total-both (λ r. one_if (keeps (of_pool p h) (has_returned h) c r)) (λ r. one_if (borrows (of_pool p h) (has_returned h) (is_ended h) c r && not (is_pending (of_pool p h) c))) (parties (of_pool p h) c)
    ∙ ap (λ n. count (keeps (of_pool p h) (has_returned h) c) (parties (of_pool p h) c) + n) (lent_all (is_pending (of_pool p h) c) (borrows (of_pool p h) (has_returned h) (is_ended h) c) (parties (of_pool p h) c))

pub places-counted : (p : ℕ) (h : List Item) (c : ℕ) → places p h c ≡ places_now (connection_of h p c) (is_pinned p h c)
places-counted p h c = rw (held-counted p h c) refl

in_place : (b : Bool) (n k m : ℕ) → (if b then ((n + k == m) && nat_le n 1) else (k == 0)) ≡ true → MatchBool b ((n + k ≡ m) × (n ≤ 1)) (k ≡ 0)
in_place true n k m e = grind (arith, common_steps)
in_place false n k m e = grind (arith, common_steps)

in_place_not : (b : Bool) (n k m : ℕ) → MatchBool b ((n + k ≡ m) × (n ≤ 1)) (k ≡ 0) → (if b then ((n + k == m) && nat_le n 1) else (k == 0)) ≡ true
in_place_not true n k m e = let a = e.0 in let b = e.1 in grind (arith, common_steps)
in_place_not false n k m e = grind (arith, common_steps)

-- One place, by the counts.
pub in-place : (p : ℕ) (h : List Item) (c : ℕ) → in_place_now (connection_of h p c) (is_pinned p h c) ≡ true → InPlace p h c
in-place p h c e = rw (places-counted p h c) (in_place (is_created (of_pool p h) c) (places_now (connection_of h p c) (is_pinned p h c)) (closings (of_pool p h) c) (creations (of_pool p h) c) e)

pub in-place-not : (p : ℕ) (h : List Item) (c : ℕ) → InPlace p h c → in_place_now (connection_of h p c) (is_pinned p h c) ≡ true
in-place-not p h c e = in_place_not (is_created (of_pool p h) c) (places_now (connection_of h p c) (is_pinned p h c)) (closings (of_pool p h) c) (creations (of_pool p h) c) (rw (places-counted p h c) at e)

opened_ready : (b : Bool) (s : Option State) → has_ready (if b then s else None) ≡ b && has_ready s
opened_ready true s = refl
opened_ready false s = refl

some_more : (n : ℕ) (b : Bool) → nat_lt 0 (n + one_if b) ≡ (b || nat_lt 0 n)
some_more n true = grind (arith, common_steps)
some_more n false = grind (arith, common_steps)

any-counted : (test : ℕ → Bool) (ks : List ℕ) → list_any test ks ≡ nat_lt 0 (count test ks)
any-counted test [] = refl
any-counted test (k ∷ ks) = ap (λ b. test k || b) (any-counted test ks) ∙ sym (some_more (count test ks) (test k))

-- A caller could be granted a connection, by the counts.
pub could-grant : (o : PoolOptions) (p : ℕ) (h : List Item) → could_be_granted o p h ≡ could_grant_now o (pool_stands o h p)
could-grant o p h = rw (opened_ready (has p (pools h)) (last_state o (of_pool p h)), any-counted (is_available (of_pool p h)) (connections (of_pool p h))) refl
