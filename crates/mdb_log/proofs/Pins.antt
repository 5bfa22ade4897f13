-- What the items of a pool say of pins, of who holds a connection and of who asked.
use Rattle.std.proofs.Common.{ℕ, ◌≡◌, arith, Bool, true, false, ◌&&◌, ◌||◌, List, [], ◌∷◌, Some, None, refl, if◌then◌else◌, nat_lt, ap, sym}
use Rattle.std.proofs.Math.Bool.{and-false, and-true}
use Rattle.mdb_log.specs.declared.step.Use.{Use}
use Rattle.mdb_log.specs.declared.step.Use.TheVariants.{Ok, Errored, Dropped, Streaming}
use Rattle.mdb_log.specs.History.{PoolItem, asked, warmed, gave_up, returned, pinned_by, established, failed, replicated, taken, unpinned, created, closed, checked_in, granted, ended, raised, pool_created, pool_ready, pool_closed, is_number, given, has_asked}
use Rattle.mdb_log.specs.Connections.{has, pending_list, holding, pins, comes_back, is_taking, is_pinned, is_errored, is_fault}
use Rattle.mdb_log.specs.Requests.{queued}
use Rattle.mdb_log.proofs.Numbers.{has-append, has-without}

-- a connection at its pin has one
pub pinned-again : (xs : List PoolItem) (c : ℕ) → is_pinned xs c && nat_lt 0 (pins xs c) ≡ is_pinned xs c
pinned-again [] c = refl
pinned-again (x ∷ xs) c = twice (if comes_back x xs c then true else (if is_taking x c then false else is_pinned xs c)) (nat_lt 0 (pins (x ∷ xs) c))
  where
    twice : (a b : Bool) → (a && b) && b ≡ a && b
    twice true true = refl
    twice true false = refl
    twice false b = refl

-- who was given no connection holds none
pub holding-none : (xs : List PoolItem) (r : ℕ) → given xs r ≡ None → holding xs r ≡ None
holding-none xs r e = rw e refl

-- nor who was given one that is pending
pub holding-pending : (xs : List PoolItem) (r c : ℕ) → given xs r ≡ Some c → has c (pending_list xs) ≡ true → holding xs r ≡ None
holding-pending xs r c e f = rw (e, f) refl

pub holding-one : (xs : List PoolItem) (r c : ℕ) → given xs r ≡ Some c → has c (pending_list xs) ≡ false → holding xs r ≡ Some c
holding-one xs r c e f = rw (e, f) refl

-- a return that tells of an error
pub errored-return : (r : ℕ) (used : Use) (xs : List PoolItem) (c : ℕ) → is_errored (returned r used ∷ xs) c ≡ (is_number (given xs r) c && is_fault used) || is_errored xs c
errored-return r Ok xs c = ap (λ b. b || is_errored xs c) (sym (and-false (is_number (given xs r) c)))
errored-return r Errored xs c = ap (λ b. b || is_errored xs c) (sym (and-true (is_number (given xs r) c)))
errored-return r Dropped xs c = ap (λ b. b || is_errored xs c) (sym (and-false (is_number (given xs r) c)))
errored-return r Streaming xs c = ap (λ b. b || is_errored xs c) (sym (and-false (is_number (given xs r) c)))

-- who is in the queue asked
pub queued-asked : (xs : List PoolItem) (r : ℕ) → has r (queued xs) ≡ true → has_asked xs r ≡ true
queued-asked [] r e = cc
queued-asked (asked k m ∷ xs) r e = grind (arith, queued-asked xs r, has-append r k (queued xs))
queued-asked (warmed k m ∷ xs) r e = grind (arith, queued-asked xs r, has-append r k (queued xs))
queued-asked (gave_up k ∷ xs) r e = queued-asked xs r e
queued-asked (returned k used ∷ xs) r e = queued-asked xs r e
queued-asked (pinned_by k ∷ xs) r e = queued-asked xs r e
queued-asked (established c how m ∷ xs) r e = queued-asked xs r e
queued-asked (failed c service ∷ xs) r e = queued-asked xs r e
queued-asked (replicated c ∷ xs) r e = queued-asked xs r e
queued-asked (taken k c ∷ xs) r e = queued-asked xs r e
queued-asked (unpinned c ∷ xs) r e = queued-asked xs r e
queued-asked (created c m ∷ xs) r e = queued-asked xs r e
queued-asked (closed c ∷ xs) r e = queued-asked xs r e
queued-asked (checked_in c m ∷ xs) r e = queued-asked xs r e
queued-asked (granted k c ∷ xs) r e = queued-asked xs r (has-without r k (queued xs) e)
queued-asked (ended k end ∷ xs) r e = queued-asked xs r (has-without r k (queued xs) e)
queued-asked (raised service error ∷ xs) r e = queued-asked xs r e
queued-asked (pool_created ∷ xs) r e = queued-asked xs r e
queued-asked (pool_ready ∷ xs) r e = queued-asked xs r e
queued-asked (pool_closed ∷ xs) r e = queued-asked xs r e
