-- What always holds of a party, item by item.
use Rattle.std.proofs.Common.{ℕ, ◌≡◌, ◌+◌, ◌==◌, Bool, true, false, not, ◌&&◌, ◌||◌, List, [], ◌∷◌, Option, Some, None, is_some, refl, sym, ◌∙◌, ap, subst, arith, if◌then◌else◌, filter}
use Rattle.std.proofs.lemmas.Grind.{common_steps}
use Rattle.mdb_log.specs.History.{PoolItem, asked, warmed, gave_up, returned, pinned_by, established, failed, replicated, taken, unpinned, created, closed, checked_in, granted, ended, raised, pool_created, pool_ready, pool_closed, given, has_asked, has_taken, has_party}
use Rattle.mdb_log.specs.Connections.{one_if, has}
use Rattle.mdb_log.specs.Requests.{queued, is_warm, end_of, waiting}
use Rattle.mdb_log.specs.Legal.{IsNext, first}
use Rattle.std.specs.Bool.{MatchBool}
use Rattle.mdb_log.proofs.Numbers.{has-append, has-without-is}
use Rattle.mdb_sound.specs.Sound.{Sound, MayAsk, MayTake, MayGrant, MayEnd}
use Rattle.mdb_sound.specs.Counts.{askings, grantings, endings, was_granted}
use Rattle.mdb_sound.specs.Once.{Once}

abbrev pub OnceEach : List PoolItem → ℕ → Type 0
OnceEach xs r = Once (has_asked xs r) (has_taken xs r) (was_granted xs r) (is_some (end_of xs r)) (has r (queued xs)) (is_some (given xs r)) (askings xs r) (grantings xs r) (endings xs r)

-- the first that passes a test is in the list
first-has : (test : ℕ → Bool) (r : ℕ) (ks : List ℕ) → first (filter test ks) ≡ Some r → has r ks ≡ true
first-has test r [] e = cc
first-has test r (k ∷ ks) e = on (test k) refl (first-has test r ks)
  where
    on : (b : Bool) → test k ≡ b → (first (filter test ks) ≡ Some r → has r ks ≡ true) → has r (k ∷ ks) ≡ true
    on true f deeper = let g : ◌≡◌ {A = Option ℕ} (Some k) (Some r) = subst (λ b. first (if b then (k ∷ filter test ks) else filter test ks) ≡ Some r) f e in let h : k ≡ r = cc in grind arith
    on false f deeper = let g : first (filter test ks) ≡ Some r = subst (λ b. first (if b then (k ∷ filter test ks) else filter test ks) ≡ Some r) f e in let h : has r ks ≡ true = deeper g in grind arith

-- who is next is queued
pub next-queued : (xs : List PoolItem) (r : ℕ) → IsNext xs r → has r (queued xs) ≡ true
next-queued xs r n = on (is_warm xs r) n
  where
    on : (b : Bool) → MatchBool b (has r (queued xs) ≡ true) (first (waiting xs) ≡ Some r) → has r (queued xs) ≡ true
    on true m = m
    on false m = first-has (λ k. not (is_warm xs k)) r (queued xs) m

after_ask : (same a t g e q h : Bool) (ka kg ke : ℕ) → Once a t g e q h ka kg ke → (same ≡ true → a || t ≡ false) → Once (same || a) t g e (q || same) h (ka + one_if same) kg ke
after_ask same a t g e q h ka kg ke i new =
    let one : ka ≡ one_if a = i.asked_once in
    let two : kg ≡ one_if g = i.granted_once in
    let three : ke ≡ one_if e = i.ended_once in
    let ga : g ≡ true → a ≡ true = i.granted_asked in
    let ea : e ≡ true → a ≡ true = i.ended_asked in
    let q_is : q ≡ a && (not g && not e) = i.queued_means in
    let way : a && t ≡ false = i.one_way in
    let had : h ≡ true → g || t ≡ true = i.had in
    record { asked_once = grind (arith, common_steps); granted_once = grind (arith, common_steps); ended_once = grind (arith, common_steps); granted_asked = λ k. grind arith; ended_asked = λ k. grind arith; queued_means = grind arith; one_way = grind arith; had = λ k. grind arith }

after_take : (same a t g e q h : Bool) (ka kg ke : ℕ) → Once a t g e q h ka kg ke → (same ≡ true → a || t ≡ false) → Once a (same || t) g e q (if same then true else h) ka kg ke
after_take same a t g e q h ka kg ke i new =
    let one : ka ≡ one_if a = i.asked_once in
    let two : kg ≡ one_if g = i.granted_once in
    let three : ke ≡ one_if e = i.ended_once in
    let ga : g ≡ true → a ≡ true = i.granted_asked in
    let ea : e ≡ true → a ≡ true = i.ended_asked in
    let q_is : q ≡ a && (not g && not e) = i.queued_means in
    let way : a && t ≡ false = i.one_way in
    let had : h ≡ true → g || t ≡ true = i.had in
    record { asked_once = grind (arith, common_steps); granted_once = grind (arith, common_steps); ended_once = grind (arith, common_steps); granted_asked = λ k. grind arith; ended_asked = λ k. grind arith; queued_means = grind arith; one_way = grind arith; had = λ k. grind arith }

after_grant : (same a t g e q h : Bool) (ka kg ke : ℕ) → Once a t g e q h ka kg ke → (same ≡ true → q ≡ true) → Once a t (same || g) e (q && not same) (if same then true else h) ka (kg + one_if same) ke
after_grant same a t g e q h ka kg ke i waits =
    let one : ka ≡ one_if a = i.asked_once in
    let two : kg ≡ one_if g = i.granted_once in
    let three : ke ≡ one_if e = i.ended_once in
    let ga : g ≡ true → a ≡ true = i.granted_asked in
    let ea : e ≡ true → a ≡ true = i.ended_asked in
    let q_is : q ≡ a && (not g && not e) = i.queued_means in
    let way : a && t ≡ false = i.one_way in
    let had : h ≡ true → g || t ≡ true = i.had in
    record { asked_once = grind (arith, common_steps); granted_once = grind (arith, common_steps); ended_once = grind (arith, common_steps); granted_asked = λ k. grind arith; ended_asked = λ k. grind arith; queued_means = grind arith; one_way = grind arith; had = λ k. grind arith }

after_end : (same a t g e q h : Bool) (ka kg ke : ℕ) → Once a t g e q h ka kg ke → (same ≡ true → a ≡ true) → (same ≡ true → e ≡ false) → Once a t g (if same then true else e) (q && not same) (if same then false else h) ka kg (ke + one_if same)
after_end same a t g e q h ka kg ke i here new =
    let one : ka ≡ one_if a = i.asked_once in
    let two : kg ≡ one_if g = i.granted_once in
    let three : ke ≡ one_if e = i.ended_once in
    let ga : g ≡ true → a ≡ true = i.granted_asked in
    let ea : e ≡ true → a ≡ true = i.ended_asked in
    let q_is : q ≡ a && (not g && not e) = i.queued_means in
    let way : a && t ≡ false = i.one_way in
    let had : h ≡ true → g || t ≡ true = i.had in
    record { asked_once = grind (arith, common_steps); granted_once = grind (arith, common_steps); ended_once = grind (arith, common_steps); granted_asked = λ k. grind arith; ended_asked = λ k. grind arith; queued_means = grind arith; one_way = grind arith; had = λ k. grind arith }

some-if : {A : Type 0} (b : Bool) (x : A) (o : Option A) → is_some (if b then Some x else o) ≡ (if b then true else is_some o)
some-if true x o = refl
some-if false x o = refl

none-if : {A : Type 0} (b : Bool) (o : Option A) → is_some (if b then None else o) ≡ (if b then false else is_some o)
none-if true o = refl
none-if false o = refl

pub once : (xs : List PoolItem) → Sound xs → (r : ℕ) → OnceEach xs r
once [] s r = record { asked_once = refl; granted_once = refl; ended_once = refl; granted_asked = λ k. cc; ended_asked = λ k. cc; queued_means = refl; one_way = refl; had = λ k. cc }
once (gave_up q ∷ xs) s r = once xs s.1 r
once (pinned_by q ∷ xs) s r = once xs s.1 r
once (established d how m ∷ xs) s r = once xs s.1 r
once (failed d service ∷ xs) s r = once xs s.1 r
once (replicated d ∷ xs) s r = once xs s.1 r
once (unpinned d ∷ xs) s r = once xs s.1 r
once (created d m ∷ xs) s r = once xs s.1 r
once (closed d ∷ xs) s r = once xs s.1 r
once (checked_in d m ∷ xs) s r = once xs s.1 r
once (raised service error ∷ xs) s r = once xs s.1 r
once (pool_created ∷ xs) s r = once xs s.1 r
once (pool_ready ∷ xs) s r = once xs s.1 r
once (pool_closed ∷ xs) s r = once xs s.1 r
once (asked q m ∷ xs) s r =
    let w : MayAsk xs q = s.0 in
    rw (has-append r q (queued xs)) (after_ask (q == r) (has_asked xs r) (has_taken xs r) (was_granted xs r) (is_some (end_of xs r)) (has r (queued xs)) (is_some (given xs r)) (askings xs r) (grantings xs r) (endings xs r) (once xs s.1 r) (λ e. let f : q ≡ r = grind arith in subst (λ k. has_party xs k ≡ false) f w.fresh))
once (warmed q m ∷ xs) s r =
    let w : MayAsk xs q = s.0 in
    rw (has-append r q (queued xs)) (after_ask (q == r) (has_asked xs r) (has_taken xs r) (was_granted xs r) (is_some (end_of xs r)) (has r (queued xs)) (is_some (given xs r)) (askings xs r) (grantings xs r) (endings xs r) (once xs s.1 r) (λ e. let f : q ≡ r = grind arith in subst (λ k. has_party xs k ≡ false) f w.fresh))
once (taken q c ∷ xs) s r =
    let w : MayTake xs q c = s.0 in
    rw (some-if (q == r) c (given xs r)) (after_take (q == r) (has_asked xs r) (has_taken xs r) (was_granted xs r) (is_some (end_of xs r)) (has r (queued xs)) (is_some (given xs r)) (askings xs r) (grantings xs r) (endings xs r) (once xs s.1 r) (λ e. let f : q ≡ r = grind arith in subst (λ k. has_party xs k ≡ false) f w.fresh))
once (granted q c ∷ xs) s r =
    let w : MayGrant xs q c = s.0 in
    rw (some-if (q == r) c (given xs r), has-without-is r q (queued xs)) (after_grant (q == r) (has_asked xs r) (has_taken xs r) (was_granted xs r) (is_some (end_of xs r)) (has r (queued xs)) (is_some (given xs r)) (askings xs r) (grantings xs r) (endings xs r) (once xs s.1 r) (λ e. let f : q ≡ r = grind arith in subst (λ k. has k (queued xs) ≡ true) f (next-queued xs q w.next)))
once (ended q end ∷ xs) s r =
    let w : MayEnd xs q end = s.0 in
    rw (some-if (q == r) end (end_of xs r), none-if (q == r) (given xs r), has-without-is r q (queued xs)) (after_end (q == r) (has_asked xs r) (has_taken xs r) (was_granted xs r) (is_some (end_of xs r)) (has r (queued xs)) (is_some (given xs r)) (askings xs r) (grantings xs r) (endings xs r) (once xs s.1 r) (λ e. let f : q ≡ r = grind arith in subst (λ k. has_asked xs k ≡ true) f w.asked_for) (λ e. let f : q ≡ r = grind arith in subst (λ k. is_some (end_of xs k) ≡ false) f (ap is_some w.unended)))
once (returned q used ∷ xs) s r =
    let i : OnceEach xs r = once xs s.1 r in
    record { asked_once = i.asked_once; granted_once = i.granted_once; ended_once = i.ended_once; granted_asked = i.granted_asked; ended_asked = i.ended_asked; queued_means = i.queued_means; one_way = i.one_way; had = λ k. i.had (on (q == r) (sym (none-if (q == r) (given xs r)) ∙ k)) }
  where
    on : (b : Bool) → (if b then false else is_some (given xs r)) ≡ true → is_some (given xs r) ≡ true
    on true f = cc
    on false f = f
