-- The turns of the serving are its moves.
use Rattle.std.proofs.Common.{ℕ, zero, suc, ◌≡◌, ◌+◌, ◌-◌, ◌<◌, ◌≤◌, Bool, true, false, not, ◌&&◌, List, [], ◌∷◌, ◌++◌, length, find, Option, Some, None, is_some, if◌then◌else◌, refl, sym, ◌∙◌, ap, subst, arith, append_assoc, append-nil}
use Rattle.mdb_events.specs.declared.fact.Fact.{Fact}
use Rattle.mdb_events.specs.declared.fact.Fact.TheVariants.{Granted, Ended}
use Rattle.mdb_events.specs.declared.end.End.TheVariants.{Warmed}
use Rattle.mdb_pool.specs.declared.kept.connection.Connection.{Connection}
use Rattle.mdb_pool.specs.declared.kept.connection.Place.TheVariants.{Pending, Available}
use Rattle.mdb_pool.specs.declared.kept.status.Status.TheVariants.{Ready}
use Rattle.mdb_events.specs.declared.reasons.ConnectionClosedReason.{ConnectionClosedReason}
use Rattle.mdb_pool.specs.declared.kept.request.Request.{Request}
use Rattle.mdb_pool.specs.declared.kept.request.Phase.{Phase}
use Rattle.mdb_pool.specs.declared.kept.request.Phase.TheVariants.{Queued, Given, Ended as EndedPhase}
use Rattle.mdb_pool.specs.Core.{PoolCore}
use Rattle.mdb_log.specs.History.{PoolItem, granted, created, ended, has_asked, after_facts, without, closed}
use Rattle.mdb_log.specs.State.{may_create, is_idle}
use Rattle.mdb_log.specs.Requests.{queued, is_warm, asked_at}
use Rattle.mdb_log.specs.Connections.{pending_list, available_list, since, has, known_service}
use Rattle.mdb_pool_rules.specs.Serving.{last_of, wants_connection, is_blocked, candidate, warm_move, caller_move, move_for, next_move, serve, serving}
use Rattle.mdb_pool_rules.specs.Facts.{created_fact, checked_out_fact, perished, closed_fact}
use Rattle.mdb_pool.specs.Standing.{Fits, SameHome}
use Rattle.mdb_pool.specs.Acts.Doing.{SameNotes, Serves}
use Rattle.mdb_pool.specs.Kept.Values.{connection_at, request_at, ids_where, numbers_where, pending_count, candidate_now, blocked_now, wants_now, last_available, has_room, given_in, asked_at_of, warm_of, timeouts_in, is_ready_now, idle_since, perished_now}
use Rattle.mdb_pool.specs.Acts.Changes.{creating, handed, granting, ending, warming, warming_facts, discarding, meeting, meeting_facts}
use Rattle.mdb_log.specs.declared.step.Use.TheVariants.{Ok}
use Rattle.mdb_pool.specs.Kept.Places.{is_pending, is_available, is_queued}
use Rattle.mdb_pool_rules.proofs.Listed.Values.{In, member-has, here as head_in, there, find-member, member-at, one_if-le, length-without, length-where, where-put_out, map-filter-others, passes, has-where, where-swap_out, length-without_has}
use Rattle.mdb_slots.specs.Keyed.{put, swap}
use Rattle.mdb_log.proofs.Bools.{both-left}
use Rattle.mdb_log.proofs.Numbers.{same-number}
use Rattle.mdb_pool_rules.proofs.Listed.Last.{last_of-has}
use Rattle.mdb_log.proofs.Later.{after-append}
use Rattle.mdb_pool.proofs.Listed.FirstOrLast.{candidate-at, available-at, last-id, id_or, or_else}
use Rattle.mdb_pool.proofs.Follows.Serving.{queued-asked_at}
use Rattle.mdb_pool.proofs.Follows.Fits.{grant-fits, create-fits, discard-fits, end-fits}
use Rattle.mdb_pool.proofs.Follows.Stale.{ready-is, ready-status, stale-at}
use Rattle.mdb_pool_rules.proofs.Fair.{serve-nothing}
use Rattle.mdb_pool.proofs.SameAnswers.StaysHome.{stays-home}

or_else-none : (o : Option ℕ) → or_else o None ≡ o
or_else-none None = refl
or_else-none (Some c) = refl

abbrev number_at : Option Request → Option ℕ
number_at None = None
number_at (Some q) = Some q.number

module _ (s : PoolCore) (xs : List PoolItem) (z : Fits s xs) (n : ℕ) where
  idle-is : (k : Option ℕ) (c : ℕ) (x : Connection) → s.options.max_idle_time ≡ k → since xs c ≡ x.since → is_idle s.options n xs c ≡ idle_since s.options.max_idle_time n x.since
  idle-is None c x e f = rw e refl
  idle-is (Some limit) c x e f = rw (e, f) refl

  -- an available connection has perished as the state says
  pub perished-is : (x : Connection) → connection_at s x.id ≡ Some x → x.place ≡ Available → perished s.options n xs x.id ≡ perished_now s n x
  perished-is x at_x place = rw (stale-at s xs z.matches x.id x at_x, idle-is s.options.max_idle_time x.id x refl (z.matches.connections.since x.id x at_x (ap is_available place))) refl

  last-available : last_of (available_list xs) ≡ id_or (last_available s) None
  last-available = ap last_of z.matches.counts.available ∙ (sym (or_else-none (last_of (ids_where is_available s.kept.connections))) ∙ sym (last-id None s.kept.connections))

  wants-is : wants_connection s.options xs ≡ wants_now s
  wants-is = rw (z.matches.counts.created, z.matches.counts.live_all) refl

  pending-is : length (pending_list xs) ≡ pending_count s
  pending-is = ap length z.matches.counts.pending ∙ length-where (λ (x : Connection). x.id) (λ x. is_pending x.place) s.kept.connections

  warm-is : (q : Request) → request_at s q.number ≡ Some q → is_warm xs q.number ≡ q.warm
  warm-is q at_q = z.matches.requests.warm q.number ∙ ap warm_of at_q

  blocked-is : (q : Request) → request_at s q.number ≡ Some q → is_blocked s.options xs q.number ≡ (q.warm && blocked_now s)
  blocked-is q at_q = rw (warm-is q at_q, z.matches.counts.created, z.matches.counts.live_all, pending-is) refl

  candidate-in : (qs : List Request) → ((q : Request) → In q qs → request_at s q.number ≡ Some q) → candidate s.options xs (numbers_where is_queued qs) ≡ number_at (find (λ q. is_queued q.phase && not (q.warm && blocked_now s)) qs)
  candidate-in [] at = refl
  candidate-in (q ∷ qs) at = on (is_queued q.phase) (q.warm && blocked_now s) refl refl (candidate-in qs (λ r i. at r (there i)))
    where
      on : (a b : Bool) → is_queued q.phase ≡ a → (q.warm && blocked_now s) ≡ b → candidate s.options xs (numbers_where is_queued qs) ≡ number_at (find (λ r. is_queued r.phase && not (r.warm && blocked_now s)) qs) → candidate s.options xs (numbers_where is_queued (q ∷ qs)) ≡ number_at (find (λ r. is_queued r.phase && not (r.warm && blocked_now s)) (q ∷ qs))
      on false b e f rest = rw e rest
      on true true e f rest = let g : is_blocked s.options xs q.number ≡ true = blocked-is q (at q head_in) ∙ f in rw (e, g, f) rest
      on true false e f rest = let g : is_blocked s.options xs q.number ≡ false = blocked-is q (at q head_in) ∙ f in rw (e, g, f) refl

  candidate-is : candidate s.options xs (queued xs) ≡ number_at (candidate_now s)
  candidate-is = ap (candidate s.options xs) z.matches.requests.queue ∙ candidate-in s.kept.requests (λ q i. member-at (λ (r : Request). r.number) q s.kept.requests i (rw (z.matches.requests.single_request q.number) (one_if-le (is_some (request_at s q.number)))))

  -- the candidate has the move
  move-for : (q : Request) → s.kept.status ≡ Ready → candidate_now s ≡ Some q → next_move s.pool s.address s.options n xs ≡ (if is_warm xs q.number then warm_move s.pool s.address s.options xs q.number else caller_move s.pool s.address s.options n xs q.number (last_of (available_list xs)))
  move-for q r e = rw (z.matches.clearing.status, r) (ap (move_for s.pool s.address s.options n xs) (candidate-is ∙ ap number_at e))

  caller-for : (q : Request) → s.kept.status ≡ Ready → candidate_now s ≡ Some q → q.warm ≡ false → next_move s.pool s.address s.options n xs ≡ caller_move s.pool s.address s.options n xs q.number (last_of (available_list xs))
  caller-for q r e cold = move-for q r e ∙ rw (warm-is q (candidate-at s xs z.matches q e).0 ∙ cold) refl

  pub warming-move : (q : Request) → s.kept.status ≡ Ready → candidate_now s ≡ Some q → q.warm ≡ true → next_move s.pool s.address s.options n xs ≡ warming_facts s q
  warming-move q r e hot = move-for q r e ∙ rw (warm-is q (candidate-at s xs z.matches q e).0 ∙ hot, wants-is, z.matches.counts.created) refl

  pub no-queue : s.kept.status ≡ Ready → candidate_now s ≡ None → next_move s.pool s.address s.options n xs ≡ []
  no-queue r e = rw (z.matches.clearing.status, r) (ap (move_for s.pool s.address s.options n xs) (candidate-is ∙ ap number_at e))

  pub not-ready : is_ready_now s.kept.status ≡ false → next_move s.pool s.address s.options n xs ≡ []
  not-ready e = rw (z.matches.clearing.status, ready-is s.kept.status, e) refl

  pub grant-move : (q : Request) (x : Connection) → s.kept.status ≡ Ready → candidate_now s ≡ Some q → q.warm ≡ false → last_available s ≡ Some x → connection_at s x.id ≡ Some x → x.place ≡ Available → perished_now s n x ≡ None → next_move s.pool s.address s.options n xs ≡ Granted q.number s.pool x.id ∷ checked_out_fact s.pool s.address x.id (n - asked_at xs q.number) ∷ []
  grant-move q x r e cold f at_x place fresh =
      let g : last_of (available_list xs) ≡ Some x.id = last-available ∙ ap (λ o. id_or o None) f in
      caller-for q r e cold ∙ rw (g, perished-is x at_x place, fresh) refl

  pub discard-move : (q : Request) (x : Connection) (why : ConnectionClosedReason) → s.kept.status ≡ Ready → candidate_now s ≡ Some q → q.warm ≡ false → last_available s ≡ Some x → connection_at s x.id ≡ Some x → x.place ≡ Available → perished_now s n x ≡ Some why → next_move s.pool s.address s.options n xs ≡ closed_fact s.pool s.address x.id why x.service ∷ []
  discard-move q x why r e cold f at_x place old =
      let g : last_of (available_list xs) ≡ Some x.id = last-available ∙ ap (λ o. id_or o None) f in
      let k : known_service xs x.id ≡ x.service = grind (arith, z.matches.told.service x.id, at_x) in
      caller-for q r e cold ∙ rw (g, perished-is x at_x place, old, k) refl

  room : may_create s.options xs ≡ has_room s
  room = rw (z.matches.counts.created, z.matches.counts.live_all, z.matches.counts.pending, length-where (λ (x : Connection). x.id) (λ x. is_pending x.place) s.kept.connections) refl

  pub create-move : (q : Request) → s.kept.status ≡ Ready → candidate_now s ≡ Some q → q.warm ≡ false → last_available s ≡ None → has_room s ≡ true → next_move s.pool s.address s.options n xs ≡ created_fact s.pool s.address (s.kept.created + 1) ∷ Granted q.number s.pool (s.kept.created + 1) ∷ []
  create-move q t e cold f r =
      let g : last_of (available_list xs) ≡ None = last-available ∙ ap (λ o. id_or o None) f in
      caller-for q t e cold ∙ rw (g, room, r, z.matches.counts.created) refl

  pub no-move : (q : Request) → s.kept.status ≡ Ready → candidate_now s ≡ Some q → q.warm ≡ false → last_available s ≡ None → has_room s ≡ false → next_move s.pool s.address s.options n xs ≡ []
  no-move q t e cold f r =
      let g : last_of (available_list xs) ≡ None = last-available ∙ ap (λ o. id_or o None) f in
      caller-for q t e cold ∙ rw (g, room, r) refl

-- where there is no move there is no serving
-- how far the serving is: the facts so far, and how many moves may follow
pub record Progress (s t : PoolCore) (n : ℕ) (before after : List Fact) (xs : List PoolItem) : Type 0 where
  pub done : List Fact
  pub left : ℕ
  pub facts : after ≡ before ++ done
  pub fits : Fits t (after_facts s.pool n done xs)
  pub rest : serving s.pool s.address s.options n xs ≡ done ++ serve s.pool s.address s.options n left (after_facts s.pool n done xs)
  pub enough : length (queued (after_facts s.pool n done xs)) + length (available_list (after_facts s.pool n done xs)) ≤ left

pub starts : (s : PoolCore) (n : ℕ) (facts : List Fact) (xs : List PoolItem) → Fits s xs → Progress s s n facts facts xs
starts s n facts xs z = record {
  done = [];
  left = length (queued xs) + length (available_list xs);
  facts = sym (append-nil facts);
  fits = z;
  rest = refl;
  enough = omega arith;
}

module _ (s t : PoolCore) (home : SameHome s t) (n : ℕ) (before after : List Fact) (xs : List PoolItem) (g : Progress s t n before after xs) where
  abbrev ys : List PoolItem
  ys = after_facts s.pool n g.done xs

  -- the moves of the state's own pool
  here : next_move t.pool t.address t.options n ys ≡ next_move s.pool s.address s.options n ys
  here = rw (home.pool, home.address, home.options) refl

  pub ends : next_move t.pool t.address t.options n ys ≡ [] → Serves s t n before after xs
  ends e =
      let f : serving s.pool s.address s.options n xs ≡ g.done = g.rest ∙ (ap (λ k. g.done ++ k) (serve-nothing s.pool s.address s.options n g.left ys (sym here ∙ e)) ∙ append-nil g.done) in
      record {
        facts = g.facts ∙ ap (λ k. before ++ k) (sym f);
        fits = subst (λ k. Fits t (after_facts s.pool n k xs)) (sym f) g.fits;
      }

  pub ends-empty : t.kept.status ≡ Ready → candidate_now t ≡ None → Serves s t n before after xs
  ends-empty r e = ends (no-queue t ys g.fits n r e)

  pub ends-full : (q : Request) → t.kept.status ≡ Ready → candidate_now t ≡ Some q → q.warm ≡ false → last_available t ≡ None → has_room t ≡ false → Serves s t n before after xs
  ends-full q r e cold f room = ends (no-move t ys g.fits n q r e cold f room)

  -- one more move of the facts fs, after which the pool knows zs
  turn : (u : PoolCore) (fs : List Fact) (zs : List PoolItem) → next_move t.pool t.address t.options n ys ≡ fs → after_facts t.pool n fs ys ≡ zs → Fits u zs
      → length (queued zs) + length (available_list zs) < length (queued ys) + length (available_list ys)
      → Progress s u n before (after ++ fs) xs
  turn u fs zs move known fits fewer = on g.left g.rest g.enough
    where
      same : after_facts s.pool n (g.done ++ fs) xs ≡ zs
      same = after-append s.pool n g.done fs xs ∙ (ap (λ p. after_facts p n fs ys) (sym home.pool) ∙ known)

      on : (left : ℕ) → serving s.pool s.address s.options n xs ≡ g.done ++ serve s.pool s.address s.options n left ys → length (queued ys) + length (available_list ys) ≤ left → Progress s u n before (after ++ fs) xs
      on zero rest enough = absurd (omega arith)
      on (suc left) rest enough =
          let step : serve s.pool s.address s.options n (suc left) ys ≡ fs ++ serve s.pool s.address s.options n left (after_facts s.pool n fs ys) = ap (λ k. k ++ serve s.pool s.address s.options n left (after_facts s.pool n k ys)) (sym here ∙ move) in
          let after_step : after_facts s.pool n fs ys ≡ after_facts s.pool n (g.done ++ fs) xs = sym (after-append s.pool n g.done fs xs) in
          record {
            done = g.done ++ fs;
            left = left;
            facts = ap (λ k. k ++ fs) g.facts ∙ append_assoc before g.done fs;
            fits = subst (Fits u) (sym same) fits;
            rest = rest ∙ (ap (λ k. g.done ++ k) (step ∙ ap (λ k. fs ++ serve s.pool s.address s.options n left k) after_step) ∙ sym (append_assoc g.done fs (serve s.pool s.address s.options n left (after_facts s.pool n (g.done ++ fs) xs))));
            enough = subst (λ k. length (queued k) + length (available_list k) ≤ left) (sym same) (omega arith);
          }

  shorter : (q : Request) → request_at t q.number ≡ Some q → q.phase ≡ Queued → length (without q.number (queued ys)) < length (queued ys)
  shorter q at_q phase = length-without_has q.number (queued ys) (ap (has q.number) g.fits.matches.requests.queue ∙ (has-where (λ (r : Request). r.number) (λ r. is_queued r.phase) q.number t.kept.requests (g.fits.matches.requests.single_request q.number) ∙ (ap (passes (λ (r : Request). r.number) (λ r. is_queued r.phase)) at_q ∙ ap is_queued phase)))

  pub turn-grant : (q : Request) (x : Connection) → t.kept.status ≡ Ready → candidate_now t ≡ Some q → q.warm ≡ false → last_available t ≡ Some x → perished_now t n x ≡ None → Progress s (granting t x q) n before (after ++ Granted q.number t.pool x.id ∷ checked_out_fact t.pool t.address x.id (n - asked_at ys q.number) ∷ []) xs
  turn-grant q x r e cold f fresh =
      let at_q : (request_at t q.number ≡ Some q) × (q.phase ≡ Queued) = candidate-at t ys g.fits.matches q e in
      let at_x : (connection_at t x.id ≡ Some x) × (x.place ≡ Available) = available-at t ys g.fits.matches x f in
      turn (granting t x q) (Granted q.number t.pool x.id ∷ checked_out_fact t.pool t.address x.id (n - asked_at ys q.number) ∷ []) (granted q.number x.id ∷ ys) (grant-move t ys g.fits n q x r e cold f at_x.0 at_x.1 fresh) (rw (same-number t.pool) refl) (grant-fits t ys g.fits n x q at_x.0 at_x.1 at_q.0 at_q.1 cold) (
      let short : length (without q.number (queued ys)) < length (queued ys) = shorter q at_q.0 at_q.1 in
      grind (arith, short, length-without x.id (available_list ys)))

  pub turn-discard : (q : Request) (x : Connection) (why : ConnectionClosedReason) → t.kept.status ≡ Ready → candidate_now t ≡ Some q → q.warm ≡ false → last_available t ≡ Some x → perished_now t n x ≡ Some why → Progress s (discarding t x) n before (after ++ closed_fact t.pool t.address x.id why x.service ∷ []) xs
  turn-discard q x why r e cold f old =
      let at_x : (connection_at t x.id ≡ Some x) × (x.place ≡ Available) = available-at t ys g.fits.matches x f in
      let there : has x.id (available_list ys) ≡ true = rw (g.fits.matches.counts.available, has-where (λ (y : Connection). y.id) (λ y. is_available y.place) x.id t.kept.connections (g.fits.matches.counts.single x.id)) (ap (passes (λ (y : Connection). y.id) (λ y. is_available y.place)) at_x.0 ∙ ap is_available at_x.1) in
      turn (discarding t x) (closed_fact t.pool t.address x.id why x.service ∷ []) (closed x.id ∷ ys) (discard-move t ys g.fits n q x why r e cold f at_x.0 at_x.1 old) (rw (same-number t.pool) refl) (discard-fits t ys g.fits n x at_x.0 at_x.1) (
      let short : length (without x.id (available_list ys)) < length (available_list ys) = length-without_has x.id (available_list ys) there in
      omega arith)

  pub turn-create : (q : Request) → t.kept.status ≡ Ready → candidate_now t ≡ Some q → q.warm ≡ false → last_available t ≡ None → has_room t ≡ true → Progress s (creating t n q) n before (after ++ created_fact t.pool t.address (t.kept.created + 1) ∷ Granted q.number t.pool (t.kept.created + 1) ∷ []) xs
  turn-create q r e cold f room =
      let at_q : (request_at t q.number ≡ Some q) × (q.phase ≡ Queued) = candidate-at t ys g.fits.matches q e in
      turn (creating t n q) (created_fact t.pool t.address (t.kept.created + 1) ∷ Granted q.number t.pool (t.kept.created + 1) ∷ []) (granted q.number (t.kept.created + 1) ∷ created (t.kept.created + 1) n ∷ ys) (create-move t ys g.fits n q r e cold f room) (rw (same-number t.pool) refl) (create-fits t ys g.fits n q at_q.0 at_q.1) (
      let short : length (without q.number (queued ys)) < length (queued ys) = shorter q at_q.0 at_q.1 in
      grind (arith, short, length-without (t.kept.created + 1) (available_list ys)))

  pub turn-warm : (q : Request) → t.kept.status ≡ Ready → candidate_now t ≡ Some q → q.warm ≡ true → Progress s (warming t n q) n before (after ++ warming_facts t q) xs
  turn-warm q r e hot = on (wants_now t) refl
    where
      at_q : (request_at t q.number ≡ Some q) × (q.phase ≡ Queued)
      at_q = candidate-at t ys g.fits.matches q e

      short : length (without q.number (queued ys)) < length (queued ys)
      short = shorter q at_q.0 at_q.1

      known : has_asked ys q.number ≡ true
      known = queued-asked_at t ys g.fits.matches q at_q.0 (ap is_queued at_q.1)

      on : (b : Bool) → wants_now t ≡ b → Progress s (warming t n q) n before (after ++ warming_facts t q) xs
      on true w = rw w (turn (creating t n q) (created_fact t.pool t.address (t.kept.created + 1) ∷ Granted q.number t.pool (t.kept.created + 1) ∷ []) (granted q.number (t.kept.created + 1) ∷ created (t.kept.created + 1) n ∷ ys) (warming-move t ys g.fits n q r e hot ∙ rw w refl) (rw (same-number t.pool) refl) (create-fits t ys g.fits n q at_q.0 at_q.1) (grind (arith, short, length-without (t.kept.created + 1) (available_list ys))))
      on false w = rw w (turn (ending t q Warmed) (Ended q.number Warmed ∷ []) (ended q.number Warmed ∷ ys) (warming-move t ys g.fits n q r e hot ∙ rw w refl) (rw known refl) (end-fits t ys g.fits n q Warmed at_q.0 (ap given_in at_q.1)) (let less : length (without q.number (queued ys)) < length (queued ys) = short in omega arith))

-- how much there is to serve
abbrev pub load : PoolCore → ℕ
load t = length (numbers_where is_queued t.kept.requests) + length (ids_where is_available t.kept.connections)

-- the queue gets shorter with each request that leaves it
queue-falls : (t : PoolCore) (q : Request) (p : Phase) → candidate_now t ≡ Some q → is_queued p ≡ false → length (numbers_where is_queued (swap (λ r. r.number) (record q { phase = p }) t.kept.requests)) < length (numbers_where is_queued t.kept.requests)
queue-falls t q p e out =
    let i : In q t.kept.requests × ((is_queued q.phase && not (q.warm && blocked_now t)) ≡ true) = find-member (λ (r : Request). is_queued r.phase && not (r.warm && blocked_now t)) q t.kept.requests e in
    rw (where-swap_out (λ (r : Request). r.number) (λ r. is_queued r.phase) (record q { phase = p }) t.kept.requests out) (length-without_has q.number (numbers_where is_queued t.kept.requests) (member-has (λ (r : Request). r.number) (λ r. is_queued r.phase) q t.kept.requests i.0 (both-left (is_queued q.phase) (not (q.warm && blocked_now t)) i.1)))

-- and no more connections are available where one is put that is not
available-stays : (x : Connection) (xs : List Connection) → is_available x.place ≡ false → length (ids_where is_available (put (λ y. y.id) x xs)) ≤ length (ids_where is_available xs)
available-stays x xs e = rw (where-put_out (λ (y : Connection). y.id) (λ y. is_available y.place) x xs e) (length-without x.id (ids_where is_available xs))

-- the fact of the checkout has the moment of the kept request
pub checked_out-kept : (t : PoolCore) (zs : List PoolItem) (z : Fits t zs) (n c : ℕ) (q : Request) → request_at t q.number ≡ Some q → checked_out_fact t.pool t.address c (n - asked_at zs q.number) ≡ checked_out_fact t.pool t.address c (n - q.asked_at)
checked_out-kept t zs z n c q at_q = ap (λ k. checked_out_fact t.pool t.address c (n - k)) (z.matches.requests.asked_at q.number ∙ ap asked_at_of at_q)

-- the turns as the code makes them
pub turn-meet-to : (s t u : PoolCore) (home : SameHome s t) (n : ℕ) (before after facts : List Fact) (xs : List PoolItem) (q : Request) (x : Connection) → Progress s t n before after xs → is_ready_now t.kept.status ≡ true → candidate_now t ≡ Some q → q.warm ≡ false → last_available t ≡ Some x → u ≡ meeting t n x q → facts ≡ after ++ meeting_facts t n x q → Progress s u n before facts xs
turn-meet-to s t u home n before after facts xs q x g r e cold f new added = on (perished_now t n x) refl
  where
    on : (o : Option ConnectionClosedReason) → perished_now t n x ≡ o → Progress s u n before facts xs
    on (Some why) old = rw (new, added, old) (turn-discard s t home n before after xs g q x why (ready-status t.kept.status r) e cold f old)
    on None fresh =
        let at_q : (request_at t q.number ≡ Some q) × (q.phase ≡ Queued) = candidate-at t (after_facts s.pool n g.done xs) g.fits.matches q e in
        rw (new, added, fresh, ← checked_out-kept t (after_facts s.pool n g.done xs) g.fits n x.id q at_q.0) (turn-grant s t home n before after xs g q x (ready-status t.kept.status r) e cold f fresh)

pub turn-create-to : (s t u : PoolCore) (home : SameHome s t) (n : ℕ) (before after facts : List Fact) (xs : List PoolItem) (q : Request) → Progress s t n before after xs → is_ready_now t.kept.status ≡ true → candidate_now t ≡ Some q → q.warm ≡ false → last_available t ≡ None → has_room t ≡ true → u ≡ creating t n q → facts ≡ after ++ created_fact t.pool t.address (t.kept.created + 1) ∷ Granted q.number t.pool (t.kept.created + 1) ∷ [] → Progress s u n before facts xs
turn-create-to s t u home n before after facts xs q g r e cold f room new added = rw (new, added) (turn-create s t home n before after xs g q (ready-status t.kept.status r) e cold f room)

smaller-grant : (t : PoolCore) (q : Request) (x : Connection) → candidate_now t ≡ Some q → load (granting t x q) < load t
smaller-grant t q x e =
    let a : length (numbers_where is_queued (granting t x q).kept.requests) < length (numbers_where is_queued t.kept.requests) = queue-falls t q (Given x.id) e refl in
    let b : length (ids_where is_available (granting t x q).kept.connections) ≤ length (ids_where is_available t.kept.connections) = rw (where-swap_out (λ (y : Connection). y.id) (λ y. is_available y.place) (handed t x q.number) t.kept.connections refl) (length-without x.id (ids_where is_available t.kept.connections)) in
    omega arith

pub smaller-create : (t u : PoolCore) (n : ℕ) (q : Request) → candidate_now t ≡ Some q → u ≡ creating t n q → load u < load t
smaller-create t u n q e f =
    let a : length (numbers_where is_queued (creating t n q).kept.requests) < length (numbers_where is_queued t.kept.requests) = queue-falls t q (Given (t.kept.created + 1)) e refl in
    let b : length (ids_where is_available (creating t n q).kept.connections) ≤ length (ids_where is_available t.kept.connections) = available-stays (record { id = t.kept.created + 1; created_at = n; place = Pending; party = Some q.number; holder = Some q.number; service = None; wire = None; since = n; pins = 0; used = Ok; errored = false; timeouts = timeouts_in t.kept.clears }) t.kept.connections refl in
    rw f (omega arith)

-- one that is available goes with each discard
smaller-discard : (t : PoolCore) (x : Connection) → last_available t ≡ Some x → load (discarding t x) < load t
smaller-discard t x e =
    let i : last_of (ids_where is_available t.kept.connections) ≡ Some x.id = sym (or_else-none (last_of (ids_where is_available t.kept.connections))) ∙ (sym (last-id None t.kept.connections) ∙ ap (λ o. id_or o None) e) in
    let a : length (without x.id (ids_where is_available t.kept.connections)) < length (ids_where is_available t.kept.connections) = length-without_has x.id (ids_where is_available t.kept.connections) (last_of-has x.id (ids_where is_available t.kept.connections) i) in
    rw (map-filter-others (λ (y : Connection). y.id) (λ y. is_available y.place) x.id t.kept.connections) (omega arith)

pub smaller-meet : (t u : PoolCore) (n : ℕ) (q : Request) (x : Connection) → candidate_now t ≡ Some q → last_available t ≡ Some x → u ≡ meeting t n x q → load u < load t
smaller-meet t u n q x e f new = on (perished_now t n x) refl
  where
    on : (o : Option ConnectionClosedReason) → perished_now t n x ≡ o → load u < load t
    on (Some why) old = rw (new, old) (smaller-discard t x f)
    on None fresh = rw (new, fresh) (smaller-grant t q x e)

pub turn-warm-to : (s t u : PoolCore) (home : SameHome s t) (n : ℕ) (before after facts : List Fact) (xs : List PoolItem) (q : Request) → Progress s t n before after xs → is_ready_now t.kept.status ≡ true → candidate_now t ≡ Some q → q.warm ≡ true → u ≡ warming t n q → facts ≡ after ++ warming_facts t q → Progress s u n before facts xs
turn-warm-to s t u home n before after facts xs q g r e hot new added = rw (new, added) (turn-warm s t home n before after xs g q (ready-status t.kept.status r) e hot)

pub smaller-warm : (t u : PoolCore) (n : ℕ) (q : Request) → candidate_now t ≡ Some q → u ≡ warming t n q → load u < load t
smaller-warm t u n q e new = on (wants_now t) refl
  where
    on : (b : Bool) → wants_now t ≡ b → load u < load t
    on true w = smaller-create t u n q e (new ∙ rw w refl)
    on false w =
        let a : length (numbers_where is_queued (ending t q Warmed).kept.requests) < length (numbers_where is_queued t.kept.requests) = queue-falls t q (EndedPhase Warmed) e refl in
        rw (new, w) (omega arith)

-- what the warming leaves as it was
pub warming-keeps : (t u : PoolCore) (n : ℕ) (q : Request) → u ≡ warming t n q → (u.kept.last ≡ t.kept.last) × SameHome t u × SameNotes t u
warming-keeps t u n q new = on (wants_now t) refl
  where
    on : (b : Bool) → wants_now t ≡ b → (u.kept.last ≡ t.kept.last) × SameHome t u × SameNotes t u
    on true w = rw (new, w) (refl, stays-home refl refl refl refl, record { settled = refl; claimed = refl; status = refl })
    on false w = rw (new, w) (refl, stays-home refl refl refl refl, record { settled = refl; claimed = refl; status = refl })

-- a pool that isn't ready is not served
pub serves-nothing : (s : PoolCore) (n : ℕ) (facts : List Fact) (xs : List PoolItem) → Fits s xs → is_ready_now s.kept.status ≡ false → Serves s s n facts facts xs
serves-nothing s n facts xs z e =
    let idle : serving s.pool s.address s.options n xs ≡ [] = serve-nothing s.pool s.address s.options n (length (queued xs) + length (available_list xs)) xs (not-ready s xs z n e) in
    record {
      facts = sym (ap (λ k. facts ++ k) idle ∙ append-nil facts);
      fits = subst (λ k. Fits s (after_facts s.pool n k xs)) (sym idle) z;
    }

-- what the meeting leaves as it was
pub meeting-keeps : (t u : PoolCore) (n : ℕ) (x : Connection) (q : Request) → u ≡ meeting t n x q → (u.kept.last ≡ t.kept.last) × SameHome t u × SameNotes t u
meeting-keeps t u n x q new = on (perished_now t n x) refl
  where
    on : (o : Option ConnectionClosedReason) → perished_now t n x ≡ o → (u.kept.last ≡ t.kept.last) × SameHome t u × SameNotes t u
    on (Some why) e = rw (new, e) (refl, stays-home refl refl refl refl, record { settled = refl; claimed = refl; status = refl })
    on None e = rw (new, e) (refl, stays-home refl refl refl refl, record { settled = refl; claimed = refl; status = refl })
