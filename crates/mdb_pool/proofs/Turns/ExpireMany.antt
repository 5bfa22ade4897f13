-- The turns of an expiry: ends of the callers that waited for too long, one after another.
use Rattle.std.proofs.Common.{ℕ, zero, suc, ◌≡◌, ◌-◌, ◌<◌, ◌≤◌, Bool, true, false, not, ◌&&◌, ◌==◌, List, [], ◌∷◌, ◌++◌, length, map, filter, find, Option, Some, None, is_some, refl, sym, ◌∙◌, ap, subst, arith, append_assoc, append-nil}
use Rattle.std.specs.Prelude.{count_by}
use Rattle.std.proofs.lemmas.Grind.{common_steps}
use Rattle.std.proofs.lemmas.Bool.Decides.{nat_tests}
use Rattle.mdb_events.specs.declared.fact.Fact.{Fact}
use Rattle.mdb_events.specs.declared.end.End.{End}
use Rattle.mdb_events.specs.declared.end.End.TheVariants.{TimedOut}
use Rattle.mdb_pool.specs.declared.kept.request.Request.{Request}
use Rattle.mdb_pool.specs.declared.kept.request.Phase.TheVariants.{Queued, Ended as EndedPhase}
use Rattle.mdb_pool.specs.Core.{PoolCore}
use Rattle.mdb_log.specs.declared.options.PoolOptions.{PoolOptions}
use Rattle.mdb_log.specs.History.{PoolItem, ended, after_facts, without, has_asked}
use Rattle.mdb_log.specs.Connections.{has}
use Rattle.mdb_log.specs.Requests.{queued, asked_at, is_warm}
use Rattle.mdb_pool_rules.specs.Facts.{all_ends, is_over, overdue}
use Rattle.mdb_pool.specs.Kept.Values.{request_at, numbers_where, asked_at_of, warm_of, overdue_since, overdue_now, first_overdue}
use Rattle.mdb_pool.specs.Kept.Places.{is_queued}
use Rattle.mdb_pool.specs.Acts.Changes.{ending, over_facts}
use Rattle.mdb_pool.specs.Standing.{Fits, SameHome}
use Rattle.mdb_pool.specs.Acts.Doing.{Expires}
use Rattle.mdb_pool_rules.proofs.Listed.Values.{In, here, there, named, member-at, member-has, find-member, where-swap_out, length-without_has, one_if-le}
use Rattle.mdb_pool.proofs.Listed.FirstOrLast.{is-queued}
use Rattle.mdb_pool.proofs.Turns.End.{more-known, more-facts, more-fits}
use Rattle.mdb_pool_rules.proofs.ManyEnded.{once}
use Rattle.mdb_log.proofs.Bools.{both-left}
use Rattle.mdb_log.proofs.Pins.{queued-asked}

abbrev number_of : Request → ℕ
number_of q = q.number

-- the time since the request is the limit just where the moment of the request plus the limit is past
over-is : (k : Option ℕ) (a n : ℕ) → is_over k a n ≡ overdue_since k n a
over-is None a n = refl
over-is (Some zero) a n = refl
over-is (Some (suc k)) a n = grind (arith, nat_tests)

-- what a search finds comes first among all that pass
find-none : (test : Request → Bool) (qs : List Request) → find test qs ≡ None → filter test qs ≡ []
find-none test [] e = refl
find-none test (q ∷ qs) e = grind (arith, find-none test qs)

find-some : (test : Request → Bool) (q : Request) (qs : List Request) → find test qs ≡ Some q → (rest : List Request) × (filter test qs ≡ q ∷ rest)
find-some test q [] e = cc
find-some test q (r ∷ qs) e = on (test r) refl (find-some test q qs)
  where
    on : (b : Bool) → test r ≡ b → (find test qs ≡ Some q → (rest : List Request) × (filter test qs ≡ q ∷ rest)) → (rest : List Request) × (filter test (r ∷ qs) ≡ q ∷ rest)
    on true f deeper = (filter test qs, let g : r ≡ q = grind arith in grind arith)
    on false f deeper = let g : find test qs ≡ Some q = grind arith in ((deeper g).0, let k : filter test qs ≡ q ∷ (deeper g).0 = (deeper g).1 in grind arith)

-- a number stands among those that pass at most as often as among all
part-named : (test : Request → Bool) (k : ℕ) (qs : List Request) → count_by (λ j. j == k) (map number_of (filter test qs)) ≤ named number_of k qs
part-named test k [] = omega arith
part-named test k (q ∷ qs) = grind (arith, common_steps, part-named test k qs)

filter-without : (test : ℕ → Bool) (k : ℕ) (ks : List ℕ) → filter test (without k ks) ≡ without k (filter test ks)
filter-without test k [] = refl
filter-without test k (j ∷ ks) = grind (arith, common_steps, filter-without test k ks)

has-filter : (test : ℕ → Bool) (k : ℕ) (ks : List ℕ) → has k (filter test ks) ≡ true → has k ks ≡ true
has-filter test k [] e = e
has-filter test k (j ∷ ks) e = grind (arith, common_steps, has-filter test k ks)

-- who is overdue is queued
pub overdue-asked : (o : PoolOptions) (n : ℕ) (xs : List PoolItem) (r : ℕ) → has r (overdue o n xs) ≡ true → has_asked xs r ≡ true
overdue-asked o n xs r e = queued-asked xs r (has-filter (λ k. not (is_warm xs k)) r (queued xs) (has-filter (λ k. is_over o.max_wait (asked_at xs k) n) r (filter (λ k. not (is_warm xs k)) (queued xs)) e))

-- an end takes its request away, and leaves the others as they were
overdue-ended : (o : PoolOptions) (n r : ℕ) (end : End) (xs : List PoolItem) → overdue o n (ended r end ∷ xs) ≡ without r (overdue o n xs)
overdue-ended o n r end xs =
    ap (filter (λ k. is_over o.max_wait (asked_at xs k) n)) (filter-without (λ k. not (is_warm xs k)) r (queued xs))
    ∙ filter-without (λ k. is_over o.max_wait (asked_at xs k) n) r (filter (λ k. not (is_warm xs k)) (queued xs))

module _ (t : PoolCore) (ys : List PoolItem) (z : Fits t ys) (n : ℕ) where
  abbrev late : List ℕ → List ℕ
  late ks = filter (λ r. is_over t.options.max_wait (asked_at ys r) n) (filter (λ r. not (is_warm ys r)) ks)

  -- those of the state are those of the items
  late-are : (qs : List Request) → ((q : Request) → In q qs → request_at t q.number ≡ Some q) → late (numbers_where is_queued qs) ≡ map number_of (filter (overdue_now t n) qs)
  late-are [] at = refl
  late-are (q ∷ qs) at = on (is_queued q.phase) q.warm (overdue_since t.options.max_wait n q.asked_at) refl refl refl (late-are qs (λ k i. at k (there i)))
    where
      warm : is_warm ys q.number ≡ q.warm
      warm = z.matches.requests.warm q.number ∙ ap warm_of (at q here)

      over : is_over t.options.max_wait (asked_at ys q.number) n ≡ overdue_since t.options.max_wait n q.asked_at
      over = ap (λ k. is_over t.options.max_wait k n) (z.matches.requests.asked_at q.number ∙ ap asked_at_of (at q here)) ∙ over-is t.options.max_wait q.asked_at n

      on : (b w l : Bool) → is_queued q.phase ≡ b → q.warm ≡ w → overdue_since t.options.max_wait n q.asked_at ≡ l → late (numbers_where is_queued qs) ≡ map number_of (filter (overdue_now t n) qs) → late (numbers_where is_queued (q ∷ qs)) ≡ map number_of (filter (overdue_now t n) (q ∷ qs))
      on false w l e f g rest = rw e rest
      on true true l e f g rest = rw (e, warm, f) rest
      on true false false e f g rest = rw (e, warm, f, over, g) rest
      on true false true e f g rest = rw (e, warm, f, over, g) (ap (λ ks. q.number ∷ ks) rest)

  overdue-are : overdue t.options n ys ≡ map number_of (filter (overdue_now t n) t.kept.requests)
  overdue-are = ap late z.matches.requests.queue ∙ late-are t.kept.requests (λ q i. member-at number_of q t.kept.requests i (rw (z.matches.requests.single_request q.number) (one_if-le (is_some (request_at t q.number)))))

  pub overdue-at : (q : Request) → first_overdue t n ≡ Some q → (request_at t q.number ≡ Some q) × (q.phase ≡ Queued)
  overdue-at q e =
      let i : In q t.kept.requests × (overdue_now t n q ≡ true) = find-member (overdue_now t n) q t.kept.requests e in
      (member-at number_of q t.kept.requests i.0 (rw (z.matches.requests.single_request q.number) (one_if-le (is_some (request_at t q.number)))), is-queued q.phase (both-left (is_queued q.phase) (not q.warm && overdue_since t.options.max_wait n q.asked_at) i.1))

  nobody-overdue : first_overdue t n ≡ None → overdue t.options n ys ≡ []
  nobody-overdue e = overdue-are ∙ ap (map number_of) (find-none (overdue_now t n) t.kept.requests e)

  first-overdue : (q : Request) → first_overdue t n ≡ Some q → overdue t.options n ys ≡ q.number ∷ overdue t.options n (ended q.number TimedOut ∷ ys)
  first-overdue q e =
      let some : (rest : List Request) × (filter (overdue_now t n) t.kept.requests ≡ q ∷ rest) = find-some (overdue_now t n) q t.kept.requests e in
      let all : overdue t.options n ys ≡ q.number ∷ map number_of some.0 = overdue-are ∙ ap (map number_of) some.1 in
      let single : count_by (λ j. j == q.number) (map number_of (filter (overdue_now t n) t.kept.requests)) ≤ 1 = at-most (part-named (overdue_now t n) q.number t.kept.requests) (rw (z.matches.requests.single_request q.number) (one_if-le (is_some (request_at t q.number)))) in
      let left : without q.number (overdue t.options n ys) ≡ map number_of some.0 = ap (without q.number) all ∙ once q.number (map number_of some.0) (subst (λ k. count_by (λ j. j == q.number) k ≤ 1) (ap (map number_of) some.1) single) in
      all ∙ ap (λ ks. q.number ∷ ks) (sym (overdue-ended t.options n q.number TimedOut ys ∙ left))
    where
      at-most : {a b : ℕ} → a ≤ b → b ≤ 1 → a ≤ 1
      at-most k l = omega arith

-- how far the ends are
pub record Expiring (s t : PoolCore) (n : ℕ) (before after : List Fact) (xs : List PoolItem) : Type 0 where
  pub done : List ℕ
  pub facts : after ≡ before ++ all_ends s.pool s.address n xs TimedOut done
  pub fits : Fits t (after_facts s.pool n (all_ends s.pool s.address n xs TimedOut done) xs)
  pub rest : overdue s.options n xs ≡ done ++ overdue s.options n (after_facts s.pool n (all_ends s.pool s.address n xs TimedOut done) xs)

pub expire-start : (s : PoolCore) (n : ℕ) (facts : List Fact) (xs : List PoolItem) → Fits s xs → Expiring s s n facts facts xs
expire-start s n facts xs z = record { done = []; facts = sym (append-nil facts); fits = z; rest = refl }

module _ (s t : PoolCore) (home : SameHome s t) (n : ℕ) (before after : List Fact) (xs : List PoolItem) (g : Expiring s t n before after xs) where
  abbrev ys : List PoolItem
  ys = after_facts s.pool n (all_ends s.pool s.address n xs TimedOut g.done) xs

  pub expire-done : first_overdue t n ≡ None → Expires s t n before after xs
  expire-done e =
      let none : overdue s.options n ys ≡ [] = ap (λ o. overdue o n ys) (sym home.options) ∙ nobody-overdue t ys g.fits n e in
      let all : overdue s.options n xs ≡ g.done = g.rest ∙ (ap (λ k. g.done ++ k) none ∙ append-nil g.done) in
      record {
        facts = g.facts ∙ ap (λ k. before ++ all_ends s.pool s.address n xs TimedOut k) (sym all);
        fits = subst (λ k. Fits t (after_facts s.pool n (all_ends s.pool s.address n xs TimedOut k) xs)) (sym all) g.fits;
      }

  pub expire-more : (u : PoolCore) (facts : List Fact) (q : Request) → first_overdue t n ≡ Some q → u ≡ ending t q TimedOut → facts ≡ after ++ over_facts t q.number q.warm (n - q.asked_at) TimedOut → Expiring s u n before facts xs
  expire-more u facts q e new added =
      let at_q : (request_at t q.number ≡ Some q) × (q.phase ≡ Queued) = overdue-at t ys g.fits n q e in
      let head : overdue s.options n ys ≡ q.number ∷ overdue s.options n (ended q.number TimedOut ∷ ys) = subst (λ o. overdue o n ys ≡ q.number ∷ overdue o n (ended q.number TimedOut ∷ ys)) home.options (first-overdue t ys g.fits n q e) in
      let known : after_facts s.pool n (all_ends s.pool s.address n xs TimedOut (g.done ++ q.number ∷ [])) xs ≡ ended q.number TimedOut ∷ ys = more-known s t home n TimedOut xs g.done g.fits q at_q.0 at_q.1 in
      record {
        done = g.done ++ q.number ∷ [];
        facts = more-facts s t home n TimedOut xs g.done g.fits q at_q.0 at_q.1 before after facts g.facts added;
        fits = more-fits s t home n TimedOut xs g.done g.fits q at_q.0 at_q.1 u new;
        rest = g.rest ∙ (ap (λ k. g.done ++ k) head ∙ (sym (append_assoc g.done (q.number ∷ []) (overdue s.options n (ended q.number TimedOut ∷ ys))) ∙ ap (λ k. (g.done ++ q.number ∷ []) ++ overdue s.options n k) (sym known)));
      }

-- the queue gets shorter with each end
pub expire-smaller : (t u : PoolCore) (n : ℕ) (q : Request) → first_overdue t n ≡ Some q → u ≡ ending t q TimedOut → length (numbers_where is_queued u.kept.requests) < length (numbers_where is_queued t.kept.requests)
expire-smaller t u n q e new =
    let i : In q t.kept.requests × (overdue_now t n q ≡ true) = find-member (overdue_now t n) q t.kept.requests e in
    rw (new, where-swap_out number_of (λ r. is_queued r.phase) (record q { phase = EndedPhase TimedOut }) t.kept.requests refl)
    (length-without_has q.number (numbers_where is_queued t.kept.requests) (member-has number_of (λ r. is_queued r.phase) q t.kept.requests i.0 (both-left (is_queued q.phase) (not q.warm && overdue_since t.options.max_wait n q.asked_at) i.1)))
