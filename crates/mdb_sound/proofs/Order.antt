-- First come, first served: the grants of callers follow the order of their requests.
use Rattle.std.proofs.Common.{ℕ, ◌≡◌, ◌+◌, ◌≤◌, ◌==◌, Bool, true, false, not, ◌&&◌, ◌||◌, List, [], ◌∷◌, ◌++◌, Some, is_some, refl, sym, ◌∙◌, ap, subst, arith, if◌then◌else◌, filter, append_assoc, append-nil}
use Rattle.std.proofs.lemmas.Grind.{common_steps}
use Rattle.std.specs.Bool.{MatchBool}
use Rattle.mdb_log.specs.History.{PoolItem, asked, warmed, gave_up, returned, pinned_by, established, failed, replicated, taken, unpinned, created, closed, checked_in, granted, ended, raised, pool_created, pool_ready, pool_closed, has_asked, has_taken, has_party, given, without}
use Rattle.mdb_log.specs.Connections.{one_if, has}
use Rattle.mdb_log.specs.Requests.{requests, queued, waiting, is_warm, end_of}
use Rattle.mdb_log.specs.Legal.{first}
use Rattle.mdb_log.proofs.Numbers.{same-number, has-append, has-without-is}
use Rattle.mdb_pool_rules.proofs.Listed.Values.{without-absent}
use Rattle.mdb_sound.specs.Sound.{Sound, MayAsk, MayGrant}
use Rattle.mdb_sound.specs.Counts.{askings, grantings, endings, was_granted, callers, served}
use Rattle.mdb_sound.specs.Once.{Once}
use Rattle.mdb_sound.specs.Laws.{InOrder}
use Rattle.mdb_sound.proofs.Once.{once, next-queued}

-- filters of lists of numbers
filter-same : (f g : ℕ → Bool) (ks : List ℕ) → ((k : ℕ) → has k ks ≡ true → f k ≡ g k) → filter f ks ≡ filter g ks
filter-same f g [] same = refl
filter-same f g (k ∷ ks) same = on (g k) refl (filter-same f g ks (λ j h. same j (grind arith)))
  where
    here : f k ≡ g k
    here = same k (grind arith)

    on : (b : Bool) → g k ≡ b → filter f ks ≡ filter g ks → filter f (k ∷ ks) ≡ filter g (k ∷ ks)
    on true e rest = let h : f k ≡ true = here ∙ e in grind arith
    on false e rest = let h : f k ≡ false = here ∙ e in grind arith

filter-more : (f : ℕ → Bool) (ks : List ℕ) (k : ℕ) → filter f (ks ++ k ∷ []) ≡ filter f ks ++ (if f k then (k ∷ []) else [])
filter-more f [] k = refl
filter-more f (j ∷ ks) k = grind (arith, common_steps, filter-more f ks k)

filter-both : (f : ℕ → Bool) (ks js : List ℕ) → filter f (ks ++ js) ≡ filter f ks ++ filter f js
filter-both f [] js = refl
filter-both f (k ∷ ks) js = grind (arith, common_steps, filter-both f ks js)

filter-twice : (f g : ℕ → Bool) (ks : List ℕ) → ((k : ℕ) → f k ≡ true → g k ≡ true) → filter f (filter g ks) ≡ filter f ks
filter-twice f g [] more = refl
filter-twice f g (k ∷ ks) more = on (f k) (g k) refl refl (filter-twice f g ks more)
  where
    on : (b c : Bool) → f k ≡ b → g k ≡ c → filter f (filter g ks) ≡ filter f ks → filter f (filter g (k ∷ ks)) ≡ filter f (k ∷ ks)
    on true true e d rest = grind arith
    on true false e d rest = let h : g k ≡ true = more k e in cc
    on false true e d rest = grind arith
    on false false e d rest = grind arith

filter-all : (f : ℕ → Bool) (ks : List ℕ) → ((k : ℕ) → has k ks ≡ true → f k ≡ true) → filter f ks ≡ ks
filter-all f [] all = refl
filter-all f (k ∷ ks) all = let h : f k ≡ true = all k (grind arith) in let r : filter f ks ≡ ks = filter-all f ks (λ j i. all j (grind arith)) in grind arith

filter-none : (f : ℕ → Bool) (ks : List ℕ) → ((k : ℕ) → has k ks ≡ true → f k ≡ false) → filter f ks ≡ []
filter-none f [] none = refl
filter-none f (k ∷ ks) none = let h : f k ≡ false = none k (grind arith) in let r : filter f ks ≡ [] = filter-none f ks (λ j i. none j (grind arith)) in grind arith

pub has-filter : (f : ℕ → Bool) (k : ℕ) (ks : List ℕ) → has k (filter f ks) ≡ true → (f k ≡ true) × (has k ks ≡ true)
has-filter f k [] e = cc
has-filter f k (j ∷ ks) e = on (f j) (j == k) refl refl (has-filter f k ks)
  where
    on : (b c : Bool) → f j ≡ b → (j == k) ≡ c → (has k (filter f ks) ≡ true → (f k ≡ true) × (has k ks ≡ true)) → (f k ≡ true) × (has k (j ∷ ks) ≡ true)
    on true true g h deeper = let i : j ≡ k = grind arith in (subst (λ n. f n ≡ true) i g, grind arith)
    on true false g h deeper = let r : (f k ≡ true) × (has k ks ≡ true) = deeper (grind arith) in (r.0, let q : has k ks ≡ true = r.1 in grind arith)
    on false c g h deeper = let r : (f k ≡ true) × (has k ks ≡ true) = deeper (grind arith) in (r.0, let q : has k ks ≡ true = r.1 in grind arith)

pub filter-without : (f : ℕ → Bool) (k : ℕ) (ks : List ℕ) → filter f (without k ks) ≡ without k (filter f ks)
filter-without f k [] = refl
filter-without f k (j ∷ ks) = grind (arith, common_steps, filter-without f k ks)

without-both : (k : ℕ) (ks js : List ℕ) → without k (ks ++ js) ≡ without k ks ++ without k js
without-both k [] js = refl
without-both k (j ∷ ks) js = grind (arith, common_steps, without-both k ks js)

-- how often the number is in the list
abbrev pub times : ℕ → List ℕ → ℕ
times k [] = 0
times k (j ∷ js) = times k js + one_if (j == k)

pub times-none : (k : ℕ) (ks : List ℕ) → has k ks ≡ false → times k ks ≡ 0
times-none k [] e = refl
times-none k (j ∷ ks) e = grind (arith, common_steps, times-none k ks)

pub times-has : (k : ℕ) (ks : List ℕ) → times k ks ≡ 0 → has k ks ≡ false
times-has k [] e = refl
times-has k (j ∷ ks) e = grind (arith, common_steps, times-has k ks)

pub times-more : (k j : ℕ) (ks : List ℕ) → times k (ks ++ j ∷ []) ≡ times k ks + one_if (j == k)
times-more k j [] = grind (arith, common_steps)
times-more k j (i ∷ ks) = grind (arith, common_steps, times-more k j ks)

pub times-filter : (f : ℕ → Bool) (k : ℕ) (ks : List ℕ) → times k (filter f ks) ≤ times k ks
times-filter f k [] = omega arith
times-filter f k (j ∷ ks) = grind (arith, common_steps, times-filter f k ks)

once-out : (k : ℕ) (ks : List ℕ) → times k (k ∷ ks) ≤ 1 → without k (k ∷ ks) ≡ ks
once-out k ks l = let z : times k ks ≡ 0 = grind (arith, common_steps) in let a : without k ks ≡ ks = without-absent k ks (times-has k ks z) in grind (arith, common_steps)

first-one : (k : ℕ) (ks : List ℕ) → first ks ≡ Some k → times k ks ≤ 1 → ks ≡ k ∷ without k ks
first-one k [] e l = cc
first-one k (j ∷ ks) e l = let g : j ≡ k = cc in subst (λ n. times k (n ∷ ks) ≤ 1 → n ∷ ks ≡ k ∷ without k (n ∷ ks)) (sym g) (λ h. ap (λ js. k ∷ js) (sym (once-out k ks h))) l

-- who is new is not queued
unasked : (a t g e q h : Bool) (ka kg ke : ℕ) → Once a t g e q h ka kg ke → (a || t ≡ false) → (q ≡ false) × ((a ≡ false) × (g ≡ false))
unasked a t g e q h ka kg ke i w =
    let q_is : q ≡ a && (not g && not e) = i.queued_means in
    let ga : g ≡ true → a ≡ true = i.granted_asked in
    (grind arith, (grind arith, grind arith))

pub new-one : (xs : List PoolItem) → Sound xs → (q : ℕ) → has_party xs q ≡ false → (has q (queued xs) ≡ false) × ((has_asked xs q ≡ false) × (was_granted xs q ≡ false))
new-one xs s q w = unasked (has_asked xs q) (has_taken xs q) (was_granted xs q) (is_some (end_of xs q)) (has q (queued xs)) (is_some (given xs q)) (askings xs q) (grantings xs q) (endings xs q) (once xs s q) w

left-alone : (a t g e q h : Bool) (ka kg ke : ℕ) → Once a t g e q h ka kg ke → (q ≡ true) → g ≡ false
left-alone a t g e q h ka kg ke i w = let q_is : q ≡ a && (not g && not e) = i.queued_means in grind arith

pub queued-ungranted : (xs : List PoolItem) → Sound xs → (q : ℕ) → has q (queued xs) ≡ true → was_granted xs q ≡ false
queued-ungranted xs s q w = left-alone (has_asked xs q) (has_taken xs q) (was_granted xs q) (is_some (end_of xs q)) (has q (queued xs)) (is_some (given xs q)) (askings xs q) (grantings xs q) (endings xs q) (once xs s q) w

not-queued : (xs : List PoolItem) → Sound xs → (q : ℕ) → has_party xs q ≡ false → has q (queued xs) ≡ false
not-queued xs s q w = (new-one xs s q w).0

-- nobody is in the queue twice
pub queued-once : (xs : List PoolItem) → Sound xs → (k : ℕ) → times k (queued xs) ≤ 1
queued-once [] s k = omega arith
queued-once (gave_up q ∷ xs) s k = queued-once xs s.1 k
queued-once (returned q used ∷ xs) s k = queued-once xs s.1 k
queued-once (pinned_by q ∷ xs) s k = queued-once xs s.1 k
queued-once (established d how m ∷ xs) s k = queued-once xs s.1 k
queued-once (failed d service ∷ xs) s k = queued-once xs s.1 k
queued-once (replicated d ∷ xs) s k = queued-once xs s.1 k
queued-once (taken q d ∷ xs) s k = queued-once xs s.1 k
queued-once (unpinned d ∷ xs) s k = queued-once xs s.1 k
queued-once (created d m ∷ xs) s k = queued-once xs s.1 k
queued-once (closed d ∷ xs) s k = queued-once xs s.1 k
queued-once (checked_in d m ∷ xs) s k = queued-once xs s.1 k
queued-once (raised service error ∷ xs) s k = queued-once xs s.1 k
queued-once (pool_created ∷ xs) s k = queued-once xs s.1 k
queued-once (pool_ready ∷ xs) s k = queued-once xs s.1 k
queued-once (pool_closed ∷ xs) s k = queued-once xs s.1 k
queued-once (asked q m ∷ xs) s k =
    let w : MayAsk xs q = s.0 in
    let l : times k (queued xs) ≤ 1 = queued-once xs s.1 k in
    let n : q ≡ k → times k (queued xs) ≡ 0 = λ e. subst (λ j. times j (queued xs) ≡ 0) e (times-none q (queued xs) (not-queued xs s.1 q w.fresh)) in
    grind (arith, common_steps, times-more k q (queued xs))
queued-once (warmed q m ∷ xs) s k =
    let w : MayAsk xs q = s.0 in
    let l : times k (queued xs) ≤ 1 = queued-once xs s.1 k in
    let n : q ≡ k → times k (queued xs) ≡ 0 = λ e. subst (λ j. times j (queued xs) ≡ 0) e (times-none q (queued xs) (not-queued xs s.1 q w.fresh)) in
    grind (arith, common_steps, times-more k q (queued xs))
queued-once (granted q c ∷ xs) s k = let l : times k (queued xs) ≤ 1 = queued-once xs s.1 k in let f : times k (without q (queued xs)) ≤ times k (queued xs) = times-filter (λ j. not (j == q)) k (queued xs) in omega arith
queued-once (ended q end ∷ xs) s k = let l : times k (queued xs) ≤ 1 = queued-once xs s.1 k in let f : times k (without q (queued xs)) ≤ times k (queued xs) = times-filter (λ j. not (j == q)) k (queued xs) in omega arith

-- who made a request asked
pub requests-asked : (xs : List PoolItem) (r : ℕ) → has r (requests xs) ≡ has_asked xs r
requests-asked [] r = refl
requests-asked (gave_up q ∷ xs) r = requests-asked xs r
requests-asked (returned q used ∷ xs) r = requests-asked xs r
requests-asked (pinned_by q ∷ xs) r = requests-asked xs r
requests-asked (established d how m ∷ xs) r = requests-asked xs r
requests-asked (failed d service ∷ xs) r = requests-asked xs r
requests-asked (replicated d ∷ xs) r = requests-asked xs r
requests-asked (taken q d ∷ xs) r = requests-asked xs r
requests-asked (unpinned d ∷ xs) r = requests-asked xs r
requests-asked (created d m ∷ xs) r = requests-asked xs r
requests-asked (closed d ∷ xs) r = requests-asked xs r
requests-asked (checked_in d m ∷ xs) r = requests-asked xs r
requests-asked (granted q d ∷ xs) r = requests-asked xs r
requests-asked (ended q end ∷ xs) r = requests-asked xs r
requests-asked (raised service error ∷ xs) r = requests-asked xs r
requests-asked (pool_created ∷ xs) r = requests-asked xs r
requests-asked (pool_ready ∷ xs) r = requests-asked xs r
requests-asked (pool_closed ∷ xs) r = requests-asked xs r
requests-asked (asked q m ∷ xs) r = grind (arith, has-append r q (requests xs), requests-asked xs r)
requests-asked (warmed q m ∷ xs) r = grind (arith, has-append r q (requests xs), requests-asked xs r)

-- who was served was granted a connection
served-granted : (xs : List PoolItem) (r : ℕ) → has r (served xs) ≡ true → was_granted xs r ≡ true
served-granted [] r e = cc
served-granted (asked q m ∷ xs) r e = served-granted xs r e
served-granted (warmed q m ∷ xs) r e = served-granted xs r e
served-granted (gave_up q ∷ xs) r e = served-granted xs r e
served-granted (returned q used ∷ xs) r e = served-granted xs r e
served-granted (pinned_by q ∷ xs) r e = served-granted xs r e
served-granted (established d how m ∷ xs) r e = served-granted xs r e
served-granted (failed d service ∷ xs) r e = served-granted xs r e
served-granted (replicated d ∷ xs) r e = served-granted xs r e
served-granted (taken q d ∷ xs) r e = served-granted xs r e
served-granted (unpinned d ∷ xs) r e = served-granted xs r e
served-granted (created d m ∷ xs) r e = served-granted xs r e
served-granted (closed d ∷ xs) r e = served-granted xs r e
served-granted (checked_in d m ∷ xs) r e = served-granted xs r e
served-granted (ended q end ∷ xs) r e = served-granted xs r e
served-granted (raised service error ∷ xs) r e = served-granted xs r e
served-granted (pool_created ∷ xs) r e = served-granted xs r e
served-granted (pool_ready ∷ xs) r e = served-granted xs r e
served-granted (pool_closed ∷ xs) r e = served-granted xs r e
served-granted (granted q d ∷ xs) r e = on (is_warm xs q) refl (served-granted xs r)
  where
    on : (b : Bool) → is_warm xs q ≡ b → (has r (served xs) ≡ true → was_granted xs r ≡ true) → (q == r) || was_granted xs r ≡ true
    on true f deeper = let g : has r (served xs) ≡ true = subst (λ b. has r (if b then served xs else (served xs ++ q ∷ [])) ≡ true) f e in let h : was_granted xs r ≡ true = deeper g in grind arith
    on false f deeper = let g : has r (served xs ++ q ∷ []) ≡ true = subst (λ b. has r (if b then served xs else (served xs ++ q ∷ [])) ≡ true) f e in grind (arith, deeper, has-append r q (served xs))

filter-cut : (f g : ℕ → Bool) (q : ℕ) (ks : List ℕ) → ((k : ℕ) → f k ≡ g k && not (k == q)) → filter f ks ≡ without q (filter g ks)
filter-cut f g q [] cut = refl
filter-cut f g q (k ∷ ks) cut = on (g k) (k == q) refl refl (filter-cut f g q ks cut)
  where
    on : (b c : Bool) → g k ≡ b → (k == q) ≡ c → filter f ks ≡ without q (filter g ks) → filter f (k ∷ ks) ≡ without q (filter g (k ∷ ks))
    on true true e h rest = let i : f k ≡ false = cut k ∙ rw (e, h) refl in grind arith
    on true false e h rest = let i : f k ≡ true = cut k ∙ rw (e, h) refl in grind arith
    on false c e h rest = let i : f k ≡ false = cut k ∙ rw e refl in grind arith

-- the requests of the pool that were granted a connection or are queued
abbrev pub counted : List PoolItem → ℕ → Bool
counted xs r = was_granted xs r || has r (queued xs)

abbrev calls : List PoolItem → ℕ → Bool
calls xs r = not (is_warm xs r)

other : (q k : ℕ) (ks : List ℕ) → has q ks ≡ false → has k ks ≡ true → (q == k) ≡ false
other q k ks e f = on (q == k) refl
  where
    on : (b : Bool) → (q == k) ≡ b → (q == k) ≡ false
    on true g = let h : q ≡ k = grind arith in let i : has k ks ≡ false = subst (λ j. has j ks ≡ false) h e in cc
    on false g = g

caller-asked : (xs : List PoolItem) (k : ℕ) → has k (callers xs) ≡ true → has k (requests xs) ≡ true
caller-asked xs k e = (has-filter (calls xs) k (requests xs) e).1

module _ (xs : List PoolItem) (q m : ℕ) (none : has q (requests xs) ≡ false) (idle : has q (queued xs) ≡ false) where
  callers-asked : callers (asked q m ∷ xs) ≡ callers xs ++ q ∷ []
  callers-asked =
      let same : filter (calls (asked q m ∷ xs)) (requests xs) ≡ callers xs = filter-same (calls (asked q m ∷ xs)) (calls xs) (requests xs) (λ k h. rw (other q k (requests xs) none h) refl) in
      filter-more (calls (asked q m ∷ xs)) (requests xs) q ∙ rw (same, same-number q) refl

  waiting-asked : waiting (asked q m ∷ xs) ≡ waiting xs ++ q ∷ []
  waiting-asked =
      let same : filter (calls (asked q m ∷ xs)) (queued xs) ≡ waiting xs = filter-same (calls (asked q m ∷ xs)) (calls xs) (queued xs) (λ k h. rw (other q k (queued xs) idle h) refl) in
      filter-more (calls (asked q m ∷ xs)) (queued xs) q ∙ rw (same, same-number q) refl

  callers-warmed : callers (warmed q m ∷ xs) ≡ callers xs
  callers-warmed =
      let same : filter (calls (warmed q m ∷ xs)) (requests xs) ≡ callers xs = filter-same (calls (warmed q m ∷ xs)) (calls xs) (requests xs) (λ k h. rw (other q k (requests xs) none h) refl) in
      filter-more (calls (warmed q m ∷ xs)) (requests xs) q ∙ rw (same, same-number q) (append-nil (callers xs))

  waiting-warmed : waiting (warmed q m ∷ xs) ≡ waiting xs
  waiting-warmed =
      let same : filter (calls (warmed q m ∷ xs)) (queued xs) ≡ waiting xs = filter-same (calls (warmed q m ∷ xs)) (calls xs) (queued xs) (λ k h. rw (other q k (queued xs) idle h) refl) in
      filter-more (calls (warmed q m ∷ xs)) (queued xs) q ∙ rw (same, same-number q) (append-nil (waiting xs))

  -- a new request counts, and the others as before
  counted-new : was_granted xs q || has q (queued xs ++ q ∷ []) ≡ true
  counted-new = grind (arith, has-append q q (queued xs))

  counted-same : (k : ℕ) → has k (callers xs) ≡ true → was_granted xs k || has k (queued xs ++ q ∷ []) ≡ counted xs k
  counted-same k h = let f : (q == k) ≡ false = other q k (requests xs) none (caller-asked xs k h) in grind (arith, has-append k q (queued xs))

-- the callers that count are those that were served, and then those that wait
pub served-then-waiting : (xs : List PoolItem) → Sound xs → filter (counted xs) (callers xs) ≡ served xs ++ waiting xs
served-then-waiting [] s = refl
served-then-waiting (gave_up q ∷ xs) s = served-then-waiting xs s.1
served-then-waiting (returned q used ∷ xs) s = served-then-waiting xs s.1
served-then-waiting (pinned_by q ∷ xs) s = served-then-waiting xs s.1
served-then-waiting (established d how m ∷ xs) s = served-then-waiting xs s.1
served-then-waiting (failed d service ∷ xs) s = served-then-waiting xs s.1
served-then-waiting (replicated d ∷ xs) s = served-then-waiting xs s.1
served-then-waiting (taken q d ∷ xs) s = served-then-waiting xs s.1
served-then-waiting (unpinned d ∷ xs) s = served-then-waiting xs s.1
served-then-waiting (created d m ∷ xs) s = served-then-waiting xs s.1
served-then-waiting (closed d ∷ xs) s = served-then-waiting xs s.1
served-then-waiting (checked_in d m ∷ xs) s = served-then-waiting xs s.1
served-then-waiting (raised service error ∷ xs) s = served-then-waiting xs s.1
served-then-waiting (pool_created ∷ xs) s = served-then-waiting xs s.1
served-then-waiting (pool_ready ∷ xs) s = served-then-waiting xs s.1
served-then-waiting (pool_closed ∷ xs) s = served-then-waiting xs s.1
served-then-waiting (asked q m ∷ xs) s =
    let w : MayAsk xs q = s.0 in
    let n : (has q (queued xs) ≡ false) × ((has_asked xs q ≡ false) × (was_granted xs q ≡ false)) = new-one xs s.1 q w.fresh in
    let none : has q (requests xs) ≡ false = requests-asked xs q ∙ n.1.0 in
    let more : ℕ → Bool = counted (asked q m ∷ xs) in
    let old : filter more (callers xs) ≡ served xs ++ waiting xs = filter-same more (counted xs) (callers xs) (counted-same xs q m none n.0) ∙ served-then-waiting xs s.1 in
    let all : filter more (callers xs ++ q ∷ []) ≡ (served xs ++ waiting xs) ++ q ∷ [] = filter-more more (callers xs) q ∙ rw (old, counted-new xs q m none n.0) refl in
    ap (filter more) (callers-asked xs q m none n.0) ∙ (all ∙ (append_assoc (served xs) (waiting xs) (q ∷ []) ∙ ap (λ ks. served xs ++ ks) (sym (waiting-asked xs q m none n.0))))
served-then-waiting (warmed q m ∷ xs) s =
    let w : MayAsk xs q = s.0 in
    let n : (has q (queued xs) ≡ false) × ((has_asked xs q ≡ false) × (was_granted xs q ≡ false)) = new-one xs s.1 q w.fresh in
    let none : has q (requests xs) ≡ false = requests-asked xs q ∙ n.1.0 in
    let more : ℕ → Bool = counted (warmed q m ∷ xs) in
    let old : filter more (callers xs) ≡ served xs ++ waiting xs = filter-same more (counted xs) (callers xs) (counted-same xs q m none n.0) ∙ served-then-waiting xs s.1 in
    ap (filter more) (callers-warmed xs q m none n.0) ∙ (old ∙ ap (λ ks. served xs ++ ks) (sym (waiting-warmed xs q m none n.0)))
served-then-waiting (granted q d ∷ xs) s =
    let w : MayGrant xs q d = s.0 in
    let in_queue : has q (queued xs) ≡ true = next-queued xs q w.next in
    let same : filter (counted (granted q d ∷ xs)) (callers xs) ≡ filter (counted xs) (callers xs) = filter-same (counted (granted q d ∷ xs)) (counted xs) (callers xs) (λ k h. still k in_queue) in
    same ∙ (served-then-waiting xs s.1 ∙ on (is_warm xs q) refl w.next)
  where
    still : (k : ℕ) → has q (queued xs) ≡ true → counted (granted q d ∷ xs) k ≡ counted xs k
    still k e = at (q == k) refl
      where
        at : (b : Bool) → (q == k) ≡ b → counted (granted q d ∷ xs) k ≡ counted xs k
        at true f = let g : q ≡ k = grind arith in let h : has k (queued xs) ≡ true = subst (λ j. has j (queued xs) ≡ true) g e in grind (arith, has-without-is k q (queued xs))
        at false f = grind (arith, has-without-is k q (queued xs))

    on : (b : Bool) → is_warm xs q ≡ b → MatchBool b (has q (queued xs) ≡ true) (first (waiting xs) ≡ Some q) → served xs ++ waiting xs ≡ (if is_warm xs q then served xs else (served xs ++ q ∷ [])) ++ filter (calls xs) (without q (queued xs))
    on true e n =
        let out : has q (waiting xs) ≡ false = at (has q (waiting xs)) refl in
        let rest : filter (calls xs) (without q (queued xs)) ≡ waiting xs = filter-without (calls xs) q (queued xs) ∙ without-absent q (waiting xs) out in
        rw (e, rest) refl
      where
        at : (b : Bool) → has q (waiting xs) ≡ b → has q (waiting xs) ≡ false
        at true f = let g : calls xs q ≡ true = (has-filter (calls xs) q (queued xs) f).0 in let h : calls xs q ≡ false = rw e refl in cc
        at false f = f
    on false e n =
        let l : times q (queued xs) ≤ 1 = queued-once xs s.1 q in
        let k : times q (waiting xs) ≤ times q (queued xs) = times-filter (calls xs) q (queued xs) in
        let head : waiting xs ≡ q ∷ without q (waiting xs) = first-one q (waiting xs) n (omega arith) in
        rw (e, filter-without (calls xs) q (queued xs)) (ap (λ ks. served xs ++ ks) head ∙ sym (append_assoc (served xs) (q ∷ []) (without q (waiting xs))))
served-then-waiting (ended q end ∷ xs) s = on (has q (queued xs)) refl (served-then-waiting xs s.1)
  where
    on : (b : Bool) → has q (queued xs) ≡ b → filter (counted xs) (callers xs) ≡ served xs ++ waiting xs → filter (λ k. was_granted xs k || has k (without q (queued xs))) (callers xs) ≡ served xs ++ filter (calls xs) (without q (queued xs))
    on false e rest = rw (without-absent q (queued xs) e) rest
    on true e rest =
        let g : was_granted xs q ≡ false = queued-ungranted xs s.1 q e in
        let cut : filter (λ k. was_granted xs k || has k (without q (queued xs))) (callers xs) ≡ without q (filter (counted xs) (callers xs)) = filter-cut (λ k. was_granted xs k || has k (without q (queued xs))) (counted xs) q (callers xs) (λ k. gone k g) in
        cut ∙ (ap (without q) rest ∙ (without-both q (served xs) (waiting xs) ∙ rw (without-absent q (served xs) (unserved g), filter-without (calls xs) q (queued xs)) refl))
      where
        gone : (k : ℕ) → was_granted xs q ≡ false → was_granted xs k || has k (without q (queued xs)) ≡ counted xs k && not (k == q)
        gone k g = at (k == q) refl
          where
            at : (b : Bool) → (k == q) ≡ b → was_granted xs k || has k (without q (queued xs)) ≡ counted xs k && not (k == q)
            at true f = let i : k ≡ q = grind arith in let j : was_granted xs k ≡ false = subst (λ n. was_granted xs n ≡ false) (sym i) g in grind (arith, has-without-is k q (queued xs))
            at false f = grind (arith, has-without-is k q (queued xs))

        unserved : was_granted xs q ≡ false → has q (served xs) ≡ false
        unserved g = at (has q (served xs)) refl
          where
            at : (b : Bool) → has q (served xs) ≡ b → has q (served xs) ≡ false
            at true f = let i : was_granted xs q ≡ true = served-granted xs q f in cc
            at false f = f

pub in-order : (xs : List PoolItem) → Sound xs → InOrder xs
in-order xs s =
    let more : (k : ℕ) → was_granted xs k ≡ true → counted xs k ≡ true = λ k e. rw e refl in
    let both : filter (was_granted xs) (callers xs) ≡ filter (was_granted xs) (served xs ++ waiting xs) = sym (filter-twice (was_granted xs) (counted xs) (callers xs) more) ∙ ap (filter (was_granted xs)) (served-then-waiting xs s) in
    let all : filter (was_granted xs) (served xs) ≡ served xs = filter-all (was_granted xs) (served xs) (λ k h. served-granted xs k h) in
    let none : filter (was_granted xs) (waiting xs) ≡ [] = filter-none (was_granted xs) (waiting xs) (λ k h. queued-ungranted xs s k (has-filter (calls xs) k (queued xs) h).1) in
    sym (both ∙ (filter-both (was_granted xs) (served xs) (waiting xs) ∙ rw (all, none) (append-nil (served xs))))
