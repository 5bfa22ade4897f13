-- The ends of a queue, one after another.
use Rattle.std.proofs.Common.{ℕ, ◌≡◌, ◌-◌, ◌<◌, ◌≤◌, true, ◌==◌, List, [], ◌∷◌, ◌++◌, length, Some, None, is_some, refl, sym, ◌∙◌, ap, subst, arith, append_assoc, append-nil}
use Rattle.std.specs.Prelude.{count_by}
use Rattle.std.proofs.lemmas.Grind.{common_steps}
use Rattle.mdb_events.specs.declared.fact.Fact.{Fact}
use Rattle.mdb_events.specs.declared.end.End.{End}
use Rattle.mdb_pool.specs.declared.kept.request.Request.{Request}
use Rattle.mdb_pool.specs.declared.kept.request.Phase.TheVariants.{Queued, Ended as EndedPhase}
use Rattle.mdb_pool.specs.Core.{PoolCore}
use Rattle.mdb_log.specs.History.{PoolItem, ended, after_facts, without, has_asked}
use Rattle.mdb_log.specs.Requests.{queued, asked_at, is_warm}
use Rattle.mdb_pool_rules.specs.Facts.{end_facts, all_ends}
use Rattle.mdb_pool.specs.Kept.Values.{request_at, first_queued, numbers_where, given_in, asked_at_of, warm_of}
use Rattle.mdb_pool.specs.Kept.Places.{is_queued}
use Rattle.mdb_pool.specs.Acts.Changes.{ending, over_facts}
use Rattle.mdb_pool.specs.Standing.{Fits, SameHome}
use Rattle.mdb_pool.specs.Acts.Doing.{EndsQueue}
use Rattle.mdb_pool_rules.proofs.Listed.Values.{named, where-swap_out, length-without, one_if-le}
use Rattle.mdb_pool.proofs.Turns.EndFacts.{over-known}
use Rattle.mdb_pool.proofs.Listed.FirstOrLast.{queued-at, queue-head, queue-empty}
use Rattle.mdb_log.proofs.Later.{after-append}
use Rattle.mdb_pool.proofs.Follows.Serving.{queued-asked_at}
use Rattle.mdb_pool.proofs.Follows.Fits.{end-fits}
use Rattle.mdb_pool_rules.proofs.ManyEnded.{ends-append, moment-facts, once, warm-facts}

-- a number stands in a part of the list at most as often as in the list
part-named : (k : ℕ) (qs : List Request) → count_by (λ j. j == k) (numbers_where is_queued qs) ≤ named (λ (q : Request). q.number) k qs
part-named k [] = omega arith
part-named k (q ∷ qs) = grind (arith, common_steps, part-named k qs)

-- how far the ends are
pub record Ending (s t : PoolCore) (n : ℕ) (end : End) (before after : List Fact) (xs : List PoolItem) : Type 0 where
  pub done : List ℕ
  pub facts : after ≡ before ++ all_ends s.pool s.address n xs end done
  pub fits : Fits t (after_facts s.pool n (all_ends s.pool s.address n xs end done) xs)
  pub rest : queued xs ≡ done ++ queued (after_facts s.pool n (all_ends s.pool s.address n xs end done) xs)

pub ends-start : (s : PoolCore) (n : ℕ) (end : End) (facts : List Fact) (xs : List PoolItem) → Fits s xs → Ending s s n end facts facts xs
ends-start s n end facts xs z = record { done = []; facts = sym (append-nil facts); fits = z; rest = refl }

pub ends-done : (s t : PoolCore) (n : ℕ) (end : End) (before after : List Fact) (xs : List PoolItem) → Ending s t n end before after xs → first_queued t ≡ None → EndsQueue s t n end before after xs
ends-done s t n end before after xs g e =
    let empty : queued (after_facts s.pool n (all_ends s.pool s.address n xs end g.done) xs) ≡ [] = g.fits.matches.requests.queue ∙ queue-empty t.kept.requests e in
    let all : queued xs ≡ g.done = g.rest ∙ (ap (λ k. g.done ++ k) empty ∙ append-nil g.done) in
    record {
      facts = g.facts ∙ ap (λ k. before ++ all_ends s.pool s.address n xs end k) (sym all);
      fits = subst (λ k. Fits t (after_facts s.pool n (all_ends s.pool s.address n xs end k) xs)) (sym all) g.fits;
    }

-- one more request ended: what is said, and what the pool then knows
module _ (s t : PoolCore) (home : SameHome s t) (n : ℕ) (end : End) (xs : List PoolItem) (done : List ℕ) (z : Fits t (after_facts s.pool n (all_ends s.pool s.address n xs end done) xs)) (q : Request) (at_q : request_at t q.number ≡ Some q) (waits : q.phase ≡ Queued) where
  abbrev ys : List PoolItem
  ys = after_facts s.pool n (all_ends s.pool s.address n xs end done) xs

  abbrev over : List Fact
  over = over_facts t q.number q.warm (n - q.asked_at) end

  more-said : all_ends s.pool s.address n xs end (done ++ q.number ∷ []) ≡ all_ends s.pool s.address n xs end done ++ over
  more-said =
      let moment : asked_at xs q.number ≡ q.asked_at = sym (moment-facts s.pool n q.number (all_ends s.pool s.address n xs end done) xs) ∙ (z.matches.requests.asked_at q.number ∙ ap asked_at_of at_q) in
      let warm : is_warm xs q.number ≡ q.warm = sym (warm-facts s.pool n q.number (all_ends s.pool s.address n xs end done) xs) ∙ (z.matches.requests.warm q.number ∙ ap warm_of at_q) in
      let told : end_facts s.pool s.address n xs q.number end ≡ over = rw (warm, moment, home.pool, home.address) refl in
      ends-append s.pool s.address n xs end done q.number ∙ ap (λ k. all_ends s.pool s.address n xs end done ++ k) told

  pub more-known : after_facts s.pool n (all_ends s.pool s.address n xs end (done ++ q.number ∷ [])) xs ≡ ended q.number end ∷ ys
  more-known =
      let asked : has_asked ys q.number ≡ true = queued-asked_at t ys z.matches q at_q (ap is_queued waits) in
      ap (λ k. after_facts s.pool n k xs) more-said ∙ (after-append s.pool n (all_ends s.pool s.address n xs end done) over xs ∙ over-known t s.pool n q.number (n - q.asked_at) end q.warm ys asked)

  pub more-facts : (before after facts : List Fact) → after ≡ before ++ all_ends s.pool s.address n xs end done → facts ≡ after ++ over → facts ≡ before ++ all_ends s.pool s.address n xs end (done ++ q.number ∷ [])
  more-facts before after facts earlier added = added ∙ (ap (λ k. k ++ over) earlier ∙ (append_assoc before (all_ends s.pool s.address n xs end done) over ∙ ap (λ k. before ++ k) (sym more-said)))

  pub more-fits : (u : PoolCore) → u ≡ ending t q end → Fits u (after_facts s.pool n (all_ends s.pool s.address n xs end (done ++ q.number ∷ [])) xs)
  more-fits u new = subst (Fits u) (sym more-known) (rw new (end-fits t ys z n q end at_q (ap given_in waits)))

pub ends-more : (s t u : PoolCore) (home : SameHome s t) (n : ℕ) (end : End) (before after facts : List Fact) (xs : List PoolItem) (q : Request) → Fits s xs → Ending s t n end before after xs → first_queued t ≡ Some q → u ≡ ending t q end → facts ≡ after ++ over_facts t q.number q.warm (n - q.asked_at) end → Ending s u n end before facts xs
ends-more s t u home n end before after facts xs q z g e new added =
    let ys : List PoolItem = after_facts s.pool n (all_ends s.pool s.address n xs end g.done) xs in
    let at_q : (request_at t q.number ≡ Some q) × (q.phase ≡ Queued) = queued-at t ys g.fits.matches q e in
    let head : (rest : List ℕ) × (numbers_where is_queued t.kept.requests ≡ q.number ∷ rest) = queue-head q t.kept.requests e in
    let queue : queued ys ≡ q.number ∷ head.0 = g.fits.matches.requests.queue ∙ head.1 in
    let single : count_by (λ j. j == q.number) (numbers_where is_queued t.kept.requests) ≤ 1 = at-most (part-named q.number t.kept.requests) (rw (g.fits.matches.requests.single_request q.number) (one_if-le (is_some (request_at t q.number)))) in
    let left : without q.number (queued ys) ≡ head.0 = ap (without q.number) queue ∙ once q.number head.0 (subst (λ k. count_by (λ j. j == q.number) k ≤ 1) head.1 single) in
    let known : after_facts s.pool n (all_ends s.pool s.address n xs end (g.done ++ q.number ∷ [])) xs ≡ ended q.number end ∷ ys = more-known s t home n end xs g.done g.fits q at_q.0 at_q.1 in
    record {
      done = g.done ++ q.number ∷ [];
      facts = more-facts s t home n end xs g.done g.fits q at_q.0 at_q.1 before after facts g.facts added;
      fits = more-fits s t home n end xs g.done g.fits q at_q.0 at_q.1 u new;
      rest = g.rest ∙ (ap (λ k. g.done ++ k) queue ∙ (sym (append_assoc g.done (q.number ∷ []) head.0) ∙ ap (λ k. (g.done ++ q.number ∷ []) ++ k) (sym (ap queued known ∙ left))));
    }
  where
    at-most : {a b : ℕ} → a ≤ b → b ≤ 1 → a ≤ 1
    at-most k l = omega arith

-- the queue gets shorter with each end
pub ends-smaller : (t u : PoolCore) (q : Request) (end : End) → first_queued t ≡ Some q → u ≡ ending t q end → length (numbers_where is_queued u.kept.requests) < length (numbers_where is_queued t.kept.requests)
ends-smaller t u q end e f =
    let head : (rest : List ℕ) × (numbers_where is_queued t.kept.requests ≡ q.number ∷ rest) = queue-head q t.kept.requests e in
    rw (f, where-swap_out (λ (r : Request). r.number) (λ r. is_queued r.phase) (record q { phase = EndedPhase end }) t.kept.requests refl, head.1) (grind (arith, length-without q.number head.0))
