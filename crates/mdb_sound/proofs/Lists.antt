-- The lists of a pool name each number once.
use Rattle.std.proofs.Common.{ℕ, ◌≡◌, ◌+◌, ◌≤◌, ◌==◌, Bool, true, false, not, ◌&&◌, List, [], ◌∷◌, ◌++◌, is_some, refl, sym, ◌∙◌, subst, arith, if◌then◌else◌, nat_lt, nat_le}
use Rattle.std.proofs.lemmas.Grind.{common_steps}
use Rattle.mdb_log.specs.History.{PoolItem, asked, warmed, gave_up, returned, pinned_by, established, failed, replicated, taken, unpinned, created, closed, checked_in, granted, ended, raised, pool_created, pool_ready, pool_closed, without}
use Rattle.mdb_log.specs.Connections.{one_if, has, live, created_total, pending_list, available_list, granted_to}
use Rattle.mdb_log.specs.Requests.{requests}
use Rattle.mdb_sound.specs.Sound.{Sound, MayCreate, MayAsk}
use Rattle.mdb_sound.specs.Counts.{creations, closings}
use Rattle.mdb_sound.specs.Laws.{ConnectionLaws}
use Rattle.mdb_sound.proofs.Connections.{connection-laws}
use Rattle.mdb_sound.proofs.Order.{times, times-has, times-none, times-filter, times-more, requests-asked, new-one}
use Rattle.mdb_sound.proofs.Backs.{out}

-- what follows in a list that names each once is another
pub another : (r k : ℕ) (rs : List ℕ) → times k (r ∷ rs) ≤ 1 → has k rs ≡ true → (r == k) ≡ false
another r k rs l h = on (r == k) refl
  where
    on : (b : Bool) → (r == k) ≡ b → (r == k) ≡ false
    on true e =
        let n : times k rs ≡ 0 = grind (arith, common_steps) in
        let g : has k rs ≡ false = times-has k rs n in
        cc
    on false e = e

pub times-both : (k : ℕ) (ks js : List ℕ) → times k (ks ++ js) ≡ times k ks + times k js
times-both k [] js = omega arith
times-both k (i ∷ ks) js = grind (arith, common_steps, times-both k ks js)

again-once : (k c : ℕ) (ks : List ℕ) → times k ks ≤ 1 → times k (without c ks ++ c ∷ []) ≤ 1
again-once k c ks l = on (c == k) refl
  where
    on : (b : Bool) → (c == k) ≡ b → times k (without c ks ++ c ∷ []) ≤ 1
    on true e =
        let f : c ≡ k = grind arith in
        let n : times k (without c ks) ≡ 0 = subst (λ j. times k (without j ks) ≡ 0) (sym f) (times-none k (without k ks) (out k ks)) in
        grind (arith, common_steps, times-more k c (without c ks))
    on false e = let n : times k (without c ks) ≤ times k ks = times-filter (λ j. not (j == c)) k ks in grind (arith, common_steps, times-more k c (without c ks))

fewer-once : (k c : ℕ) (ks : List ℕ) → times k ks ≤ 1 → times k (without c ks) ≤ 1
fewer-once k c ks l = let n : times k (without c ks) ≤ times k ks = times-filter (λ j. not (j == c)) k ks in omega arith

pub available-once : (xs : List PoolItem) (k : ℕ) → times k (available_list xs) ≤ 1
available-once [] k = omega arith
available-once (asked q m ∷ xs) k = available-once xs k
available-once (warmed q m ∷ xs) k = available-once xs k
available-once (gave_up q ∷ xs) k = available-once xs k
available-once (returned q used ∷ xs) k = available-once xs k
available-once (pinned_by q ∷ xs) k = available-once xs k
available-once (failed d service ∷ xs) k = available-once xs k
available-once (replicated d ∷ xs) k = available-once xs k
available-once (taken q d ∷ xs) k = available-once xs k
available-once (unpinned d ∷ xs) k = available-once xs k
available-once (created d m ∷ xs) k = available-once xs k
available-once (ended q end ∷ xs) k = available-once xs k
available-once (raised service error ∷ xs) k = available-once xs k
available-once (pool_created ∷ xs) k = available-once xs k
available-once (pool_ready ∷ xs) k = available-once xs k
available-once (pool_closed ∷ xs) k = available-once xs k
available-once (checked_in c m ∷ xs) k = again-once k c (available_list xs) (available-once xs k)
available-once (established c how m ∷ xs) k = on (is_some (granted_to xs c)) (available-once xs k)
  where
    on : (b : Bool) → times k (available_list xs) ≤ 1 → times k (if b then available_list xs else (without c (available_list xs) ++ c ∷ [])) ≤ 1
    on true l = l
    on false l = again-once k c (available_list xs) l
available-once (granted q c ∷ xs) k = fewer-once k c (available_list xs) (available-once xs k)
available-once (closed c ∷ xs) k = fewer-once k c (available_list xs) (available-once xs k)

pub pending-once : (xs : List PoolItem) → Sound xs → (k : ℕ) → times k (pending_list xs) ≤ 1
pending-once [] s k = omega arith
pending-once (asked q m ∷ xs) s k = pending-once xs s.1 k
pending-once (warmed q m ∷ xs) s k = pending-once xs s.1 k
pending-once (gave_up q ∷ xs) s k = pending-once xs s.1 k
pending-once (returned q used ∷ xs) s k = pending-once xs s.1 k
pending-once (pinned_by q ∷ xs) s k = pending-once xs s.1 k
pending-once (replicated d ∷ xs) s k = pending-once xs s.1 k
pending-once (taken q d ∷ xs) s k = pending-once xs s.1 k
pending-once (unpinned d ∷ xs) s k = pending-once xs s.1 k
pending-once (checked_in d m ∷ xs) s k = pending-once xs s.1 k
pending-once (granted q d ∷ xs) s k = pending-once xs s.1 k
pending-once (ended q end ∷ xs) s k = pending-once xs s.1 k
pending-once (raised service error ∷ xs) s k = pending-once xs s.1 k
pending-once (pool_created ∷ xs) s k = pending-once xs s.1 k
pending-once (pool_ready ∷ xs) s k = pending-once xs s.1 k
pending-once (pool_closed ∷ xs) s k = pending-once xs s.1 k
pending-once (established c how m ∷ xs) s k = fewer-once k c (pending_list xs) (pending-once xs s.1 k)
pending-once (failed c service ∷ xs) s k = fewer-once k c (pending_list xs) (pending-once xs s.1 k)
pending-once (closed c ∷ xs) s k = fewer-once k c (pending_list xs) (pending-once xs s.1 k)
pending-once (created c m ∷ xs) s k = on (c == k) refl (pending-once xs s.1 k)
  where
    absent : (d : ℕ) → d ≡ created_total xs + 1 → (b : Bool) → has d (pending_list xs) ≡ b → has d (pending_list xs) ≡ false
    absent d n true e =
        let l : ConnectionLaws xs d = connection-laws xs s.1 d in
        let one : live xs d ≡ 1 = l.pending_lives e in
        let bal : live xs d + closings xs d ≡ creations xs d = l.lives_till_closed in
        let num : creations xs d ≡ one_if (nat_lt 0 d && nat_le d (created_total xs)) = l.created_in_order in
        absurd (grind (arith, common_steps))
    absent d n false e = e

    on : (b : Bool) → (c == k) ≡ b → times k (pending_list xs) ≤ 1 → times k (pending_list xs ++ c ∷ []) ≤ 1
    on true e l =
        let w : MayCreate xs c = s.0 in
        let f : c ≡ k = grind arith in
        let n : times k (pending_list xs) ≡ 0 = times-none k (pending_list xs) (subst (λ j. has j (pending_list xs) ≡ false) f (absent c w.next (has c (pending_list xs)) refl)) in
        grind (arith, common_steps, times-more k c (pending_list xs))
    on false e l = grind (arith, common_steps, times-more k c (pending_list xs))

pub requests-once : (xs : List PoolItem) → Sound xs → (k : ℕ) → times k (requests xs) ≤ 1
requests-once [] s k = omega arith
requests-once (gave_up q ∷ xs) s k = requests-once xs s.1 k
requests-once (returned q used ∷ xs) s k = requests-once xs s.1 k
requests-once (pinned_by q ∷ xs) s k = requests-once xs s.1 k
requests-once (established d how m ∷ xs) s k = requests-once xs s.1 k
requests-once (failed d service ∷ xs) s k = requests-once xs s.1 k
requests-once (replicated d ∷ xs) s k = requests-once xs s.1 k
requests-once (taken q d ∷ xs) s k = requests-once xs s.1 k
requests-once (unpinned d ∷ xs) s k = requests-once xs s.1 k
requests-once (created d m ∷ xs) s k = requests-once xs s.1 k
requests-once (closed d ∷ xs) s k = requests-once xs s.1 k
requests-once (checked_in d m ∷ xs) s k = requests-once xs s.1 k
requests-once (granted q d ∷ xs) s k = requests-once xs s.1 k
requests-once (ended q end ∷ xs) s k = requests-once xs s.1 k
requests-once (raised service error ∷ xs) s k = requests-once xs s.1 k
requests-once (pool_created ∷ xs) s k = requests-once xs s.1 k
requests-once (pool_ready ∷ xs) s k = requests-once xs s.1 k
requests-once (pool_closed ∷ xs) s k = requests-once xs s.1 k
requests-once (asked q m ∷ xs) s k =
    let w : MayAsk xs q = s.0 in
    let l : times k (requests xs) ≤ 1 = requests-once xs s.1 k in
    let n : q ≡ k → times k (requests xs) ≡ 0 = λ e. subst (λ j. times j (requests xs) ≡ 0) e (times-none q (requests xs) (requests-asked xs q ∙ (new-one xs s.1 q w.fresh).1.0)) in
    grind (arith, common_steps, times-more k q (requests xs))
requests-once (warmed q m ∷ xs) s k =
    let w : MayAsk xs q = s.0 in
    let l : times k (requests xs) ≤ 1 = requests-once xs s.1 k in
    let n : q ≡ k → times k (requests xs) ≡ 0 = λ e. subst (λ j. times j (requests xs) ≡ 0) e (times-none q (requests xs) (requests-asked xs q ∙ (new-one xs s.1 q w.fresh).1.0)) in
    grind (arith, common_steps, times-more k q (requests xs))
