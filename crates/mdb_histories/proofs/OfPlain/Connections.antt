-- What the plain sentences say of the connections of a pool whose history is sound.
use Rattle.std.proofs.Common.{ℕ, ◌≡◌, ◌+◌, ◌≤◌, ◌==◌, Bool, true, false, not, ◌&&◌, ◌||◌, List, [], ◌∷◌, length, refl, sym, ◌∙◌, ap, subst, arith, if◌then◌else◌, filter, nat_lt, nat_le}
use Rattle.std.proofs.lemmas.Grind.{common_steps}
use Rattle.mdb_log.specs.History.{PoolItem, established, failed, created, closed, without}
use Rattle.mdb_log.specs.Connections.{one_if, has, live, created_total, pending_list}
use Rattle.mdb_log.specs.PlainConnections.{creations, closings, connections, is_created, is_closed, is_tried, is_pending, pending_total}
use Rattle.mdb_sound.specs.Sound.{Sound, MayCreate}
use Rattle.mdb_sound.specs.Counts.{creations as made, closings as shut, establishings, failures}
use Rattle.mdb_sound.proofs.Steady.{AsItIs, steady}
use Rattle.mdb_sound.proofs.Order.{times, times-more}
use Rattle.mdb_histories.proofs.OfPlain.Lists.{same-if, times-filter-is, times-without, same-length, times-tell}

-- each connection that was created is one of the pool's, once
pub times-connections : (xs : List PoolItem) (k : ℕ) → times k (connections xs) ≡ one_if (is_created xs k)
times-connections [] k = refl
times-connections (created c m ∷ xs) k = on (c == k) (times k (connections xs)) (times k (without c (connections xs))) (creations xs k) (times-connections xs k) (times-without c k (connections xs))
  where
    on : (same : Bool) (n w made : ℕ) → n ≡ one_if (nat_lt 0 made) → w ≡ (if same then 0 else n) → w + one_if same ≡ one_if (nat_lt 0 (made + one_if same))
    on true n w made e f = grind (arith, common_steps)
    on false n w made e f = grind (arith, common_steps)
times-connections (_ ∷ xs) k = times-connections xs k

pub connections-created : (xs : List PoolItem) (k : ℕ) → has k (connections xs) ≡ is_created xs k
connections-created xs k = times-tell k (connections xs) (is_created xs k) (times-connections xs k)

-- a connection was tried where it was established or failed
pub tried-decided : (xs : List PoolItem) (c : ℕ) → is_tried xs c ≡ nat_lt 0 (establishings xs c + failures xs c)
tried-decided [] c = refl
tried-decided (established d how m ∷ xs) c = grind (arith, common_steps, tried-decided xs c)
tried-decided (failed d service ∷ xs) c = grind (arith, common_steps, tried-decided xs c)
tried-decided (_ ∷ xs) c = tried-decided xs c

-- one that was not created was neither tried nor closed
pub untouched : (xs : List PoolItem) → Sound xs → (c : ℕ) → creations xs c ≡ 0 → (is_tried xs c ≡ false) × (closings xs c ≡ 0)
untouched xs s c e =
    let i : AsItIs xs c = steady xs s c in
    let b : live xs c + shut xs c ≡ made xs c = i.balanced in
    let d : establishings xs c + failures xs c ≤ made xs c = i.decided in
    let z : made xs c ≡ 0 = e in
    let n : establishings xs c + failures xs c ≡ 0 = omega arith in
    (tried-decided xs c ∙ ap (nat_lt 0) n, let k : shut xs c ≡ 0 = omega arith in k)

-- the next connection was not created
pub next-new : (xs : List PoolItem) → Sound xs → (c : ℕ) → c ≡ created_total xs + 1 → creations xs c ≡ 0
next-new xs s c e =
    let i : AsItIs xs c = steady xs s c in
    let n : made xs c ≡ one_if (nat_lt 0 c && nat_le c (created_total xs)) = i.numbered in
    let k : made xs c ≡ 0 = grind (arith, common_steps) in
    k

-- each pending connection stands in the list of the pending ones, once
pub times-pending : (xs : List PoolItem) → Sound xs → (k : ℕ) → times k (pending_list xs) ≡ one_if (is_pending xs k)
times-pending [] s k = refl
times-pending (created d m ∷ xs) s k = times-more k d (pending_list xs) ∙ on (d == k) refl (times-pending xs s.1 k)
  where
    w : MayCreate xs d
    w = s.0

    on : (same : Bool) → (d == k) ≡ same → times k (pending_list xs) ≡ one_if (is_pending xs k) → times k (pending_list xs) + one_if same ≡ one_if (nat_lt 0 (creations xs k + one_if same) && (not (is_tried xs k) && not (is_closed xs k)))
    on true e i =
        let z : creations xs k ≡ 0 = subst (λ n. creations xs n ≡ 0) (same-if d k e) (next-new xs s.1 d w.next) in
        let u : (is_tried xs k ≡ false) × (closings xs k ≡ 0) = untouched xs s.1 k z in
        let n : times k (pending_list xs) ≡ 0 = i ∙ rw z refl in
        rw (n, z, u.0, u.1) refl
    on false e i = grind (arith, common_steps)
times-pending (established d how m ∷ xs) s k = times-without d k (pending_list xs) ∙ on (d == k) (is_created xs k) (is_tried xs k) (is_closed xs k) (times k (pending_list xs)) (times-pending xs s.1 k)
  where
    on : (same a b c : Bool) (n : ℕ) → n ≡ one_if (a && (not b && not c)) → (if same then 0 else n) ≡ one_if (a && (not (same || b) && not c))
    on same a b c n e = grind (arith, common_steps)
times-pending (failed d service ∷ xs) s k = times-without d k (pending_list xs) ∙ on (d == k) (is_created xs k) (is_tried xs k) (is_closed xs k) (times k (pending_list xs)) (times-pending xs s.1 k)
  where
    on : (same a b c : Bool) (n : ℕ) → n ≡ one_if (a && (not b && not c)) → (if same then 0 else n) ≡ one_if (a && (not (same || b) && not c))
    on same a b c n e = grind (arith, common_steps)
times-pending (closed d ∷ xs) s k = times-without d k (pending_list xs) ∙ on (d == k) (is_created xs k) (is_tried xs k) (closings xs k) (times k (pending_list xs)) (times-pending xs s.1 k)
  where
    on : (same a b : Bool) (shut n : ℕ) → n ≡ one_if (a && (not b && not (nat_lt 0 shut))) → (if same then 0 else n) ≡ one_if (a && (not b && not (nat_lt 0 (shut + one_if same))))
    on true a b shut n e = grind (arith, common_steps)
    on false a b shut n e = grind (arith, common_steps)
times-pending (_ ∷ xs) s k = times-pending xs s.1 k

pub pending-alike : (xs : List PoolItem) → Sound xs → (c : ℕ) → has c (pending_list xs) ≡ is_pending xs c
pending-alike xs s c = times-tell c (pending_list xs) (is_pending xs c) (times-pending xs s c)

-- as many are pending as stand in the list
pub pending-totals : (xs : List PoolItem) → Sound xs → pending_total xs ≡ length (pending_list xs)
pending-totals xs s = same-length (filter (is_pending xs) (connections xs)) (pending_list xs) same (λ k. rw (same k, times-pending xs s k) (few (is_pending xs k)))
  where
    few : (b : Bool) → one_if b ≤ 1
    few true = omega arith
    few false = omega arith

    on : (a b : Bool) → (if a && b then one_if a else 0) ≡ one_if (a && b)
    on true true = refl
    on true false = refl
    on false b = refl

    same : (k : ℕ) → times k (filter (is_pending xs) (connections xs)) ≡ times k (pending_list xs)
    same k = times-filter-is (is_pending xs) k (connections xs) ∙ (rw (times-connections xs k) (on (is_created xs k) (not (is_tried xs k) && not (is_closed xs k))) ∙ sym (times-pending xs s k))
