-- What a pool answers keeps its limits.
use Rattle.std.proofs.Common.{ℕ, zero, suc, ◌≡◌, ◌<◌, Bool, true, false, ◌&&◌, ◌==◌, List, [], ◌∷◌, ◌++◌, length, map, filter, Option, Some, None, refl, sym, ◌∙◌, ap, subst, arith, if◌then◌else◌, length-append}
use Rattle.std.specs.Prelude.{max, is_some, nat_lt}
use Rattle.std.proofs.lemmas.Bool.{ltb-true, and_parts}
use Rattle.mdb_base.specs.declared.address.ServerAddress.{ServerAddress}
use Rattle.mdb_base.specs.declared.object_id.ObjectId.{ObjectId}
use Rattle.mdb_base.specs.declared.error.Error.{Error}
use Rattle.mdb_events.specs.declared.reasons.ConnectionClosedReason.{ConnectionClosedReason}
use Rattle.mdb_events.specs.declared.cmap.CmapEvent.TheVariants as event
use Rattle.mdb_events.specs.declared.end.End.{End}
use Rattle.mdb_events.specs.declared.end.End.TheVariants.{Closed, GaveUp}
use Rattle.mdb_events.specs.declared.reasons.ConnectionClosedReason.TheVariants.{Error as ErrorReason, PoolClosed as PoolClosedReason}
use Rattle.mdb_events.specs.declared.fact.Fact.{Fact}
use Rattle.mdb_events.specs.declared.fact.Fact.TheVariants as fact
use Rattle.mdb_log.specs.declared.options.PoolOptions.{PoolOptions}
use Rattle.mdb_log.specs.declared.step.Step.{Step}
use Rattle.mdb_log.specs.declared.step.Act.{Act}
use Rattle.mdb_log.specs.declared.step.Act.TheVariants as act
use Rattle.mdb_log.specs.declared.step.FailedAt.TheVariants as at
use Rattle.mdb_log.specs.declared.reply.Reply.{Reply}
use Rattle.mdb_log.specs.declared.reply.Reply.TheVariants as reply
use Rattle.mdb_log.specs.declared.reply.Refused.{Refused}
use Rattle.mdb_log.specs.History.{Item, did, PoolItem, asked, warmed, gave_up, returned, pinned_by, established, failed, replicated, taken, unpinned, created, closed, checked_in, granted, ended, raised, pool_created, pool_ready, pool_closed, if_so, after_act, after_fact, after_facts, of_pool, open_pool, with_answer, is_number, given, has_asked, with_act}
use Rattle.mdb_log.specs.Connections.{has, live_total, created_total, pending_list, available_list, holding, pins, is_pinned, granted_to, known_service}
use Rattle.mdb_log.specs.Own.{IsAccepted}
use Rattle.mdb_log.proofs.Later.{with_answer-accepted, of_pool-with_facts}
use Rattle.mdb_log.specs.Requests.{outcome_of, is_claimed, requests, queued, is_warm, end_of, is_unserved}
use Rattle.mdb_log.specs.State.{State, is_new, is_ready, is_paused, is_closed, state_of, ready, min_size, max_size, max_connecting, may_create}
use Rattle.mdb_pool_rules.specs.Facts.{closed_fact, closes, check_in, come_back, hand_over, fail_requester, sweep, fill, clear_facts, close_facts, turned_away, readied, act_facts, end_facts, all_ends, overdue, close_reason, perished}
use Rattle.mdb_pool_rules.specs.Serving.{last_of, is_blocked, candidate, next_move, serve, wants_connection}
use Rattle.mdb_pool_rules.specs.Refusal.{refusal_of}
use Rattle.mdb_pool_rules.specs.Answer.{first_job, reply_of, all_facts, answer}
use Rattle.mdb_log.specs.Limits.{IsWithin, WithinLimits}
use Rattle.mdb_pool_rules.proofs.Listed.Values.{length-without}

-- there is room for one more connection
record HasRoom (o : PoolOptions) (xs : List PoolItem) : Type 0 where
  pending : length (pending_list xs) < max_connecting o
  live : live_total xs < max (max_size o) (min_size o)

abbrev creates : PoolItem → Bool
creates (created c m) = true
creates _ = false

-- only a creation can pass a limit
item-kept : (o : PoolOptions) (x : PoolItem) (xs : List PoolItem) → creates x ≡ false → IsWithin o xs → IsWithin o (x ∷ xs)
item-kept o (created c m) xs e i = absurd (cc)
item-kept o (established c service m) xs e i = record { pending = omega (arith, i.pending, length-without c (pending_list xs)); live = i.live }
item-kept o (failed c service) xs e i = record { pending = omega (arith, i.pending, length-without c (pending_list xs)); live = i.live }
item-kept o (closed c) xs e i = record { pending = omega (arith, i.pending, length-without c (pending_list xs)); live = omega (arith, i.live) }
item-kept o (asked r m) xs e i = record { pending = i.pending; live = i.live }
item-kept o (warmed r m) xs e i = record { pending = i.pending; live = i.live }
item-kept o (gave_up r) xs e i = record { pending = i.pending; live = i.live }
item-kept o (returned r used) xs e i = record { pending = i.pending; live = i.live }
item-kept o (pinned_by r) xs e i = record { pending = i.pending; live = i.live }
item-kept o (replicated c) xs e i = record { pending = i.pending; live = i.live }
item-kept o (taken r c) xs e i = record { pending = i.pending; live = i.live }
item-kept o (unpinned c) xs e i = record { pending = i.pending; live = i.live }
item-kept o (checked_in c m) xs e i = record { pending = i.pending; live = i.live }
item-kept o (granted r c) xs e i = record { pending = i.pending; live = i.live }
item-kept o (ended r end) xs e i = record { pending = i.pending; live = i.live }
item-kept o (raised service error) xs e i = record { pending = i.pending; live = i.live }
item-kept o pool_created xs e i = record { pending = i.pending; live = i.live }
item-kept o pool_ready xs e i = record { pending = i.pending; live = i.live }
item-kept o pool_closed xs e i = record { pending = i.pending; live = i.live }

pub within-now : (o : PoolOptions) (xs : List PoolItem) → WithinLimits o xs → IsWithin o xs
within-now o [] i = i
within-now o (x ∷ xs) i = i.0

kept-if : (o : PoolOptions) (b : Bool) (x : PoolItem) (xs : List PoolItem) → creates x ≡ false → WithinLimits o xs → WithinLimits o (if_so b x xs)
kept-if o true x xs e i = (item-kept o x xs e (within-now o xs i), i)
kept-if o false x xs e i = i

-- an act alone creates no connection
pub act-kept : (o : PoolOptions) (p : ℕ) (here : ServerAddress → Option ℕ) (m : ℕ) (does : Act) (xs : List PoolItem) → WithinLimits o xs → WithinLimits o (after_act p here m does xs)
act-kept o p here m (act.Request r a) xs i = kept-if o (is_number (here a) p) (asked r m) xs refl i
act-kept o p here m (act.Warm r a) xs i = kept-if o (is_number (here a) p) (warmed r m) xs refl i
act-kept o p here m (act.GiveUp r) xs i = kept-if o (has_asked xs r) (gave_up r) xs refl i
act-kept o p here m (act.Established q c how) xs i = kept-if o (q == p) (established c how m) xs refl i
act-kept o p here m (act.Failed q c at.Pre error) xs i = kept-if o (q == p) (failed c None) xs refl i
act-kept o p here m (act.Failed q c (at.Post service) error) xs i = kept-if o (q == p) (failed c service) xs refl i
act-kept o p here m (act.Return r used) xs i = kept-if o (is_some (given xs r)) (returned r used) xs refl i
act-kept o p here m (act.Pin r) xs i = kept-if o (is_some (given xs r)) (pinned_by r) xs refl i
act-kept o p here m (act.Replicate q c) xs i = kept-if o (q == p) (replicated c) xs refl i
act-kept o p here m (act.Take r q c) xs i = kept-if o (q == p) (taken r c) xs refl i
act-kept o p here m (act.Unpin q c) xs i = kept-if o (q == p) (unpinned c) xs refl i
act-kept o p here m (act.Open options) xs i = i
act-kept o p here m (act.Collect r) xs i = i
act-kept o p here m act.Claim xs i = i
act-kept o p here m (act.Maintain a) xs i = i
act-kept o p here m (act.Expire a) xs i = i
act-kept o p here m (act.Ready q) xs i = i
act-kept o p here m (act.Clear q service error) xs i = i
act-kept o p here m (act.Close q) xs i = i
act-kept o p here m (act.Error r error) xs i = i
act-kept o p here m (act.Hello b q came) xs i = i
act-kept o p here m (act.Beat b q) xs i = i
act-kept o p here m (act.Beaten b q d came) xs i = i
act-kept o p here m (act.Rtt b q d) xs i = i
act-kept o p here m (act.Hosts hosts) xs i = i
act-kept o p here m (act.ClusterTime t) xs i = i
act-kept o p here m (act.Want w) xs i = i
act-kept o p here m (act.Unwant w) xs i = i
act-kept o p here m act.Stop xs i = i

-- a connection is created only where there is room
abbrev Roomy : PoolOptions → List PoolItem → Fact → Type 0
Roomy o xs (fact.Pool q (event.ConnectionCreated e)) = HasRoom o xs
Roomy o xs _ = Unit {0}

abbrev AllRoomy : PoolOptions → ℕ → ℕ → List PoolItem → List Fact → Type 0
AllRoomy o p m xs [] = Unit {0}
AllRoomy o p m xs (f ∷ fs) = Roomy o xs f × AllRoomy o p m (after_fact p m f xs) fs

one-more : (o : PoolOptions) (c m : ℕ) (xs : List PoolItem) → HasRoom o xs → IsWithin o (created c m ∷ xs)
one-more o c m xs h = record { pending = omega (arith, h.pending, length-append (pending_list xs) (c ∷ [])); live = omega (arith, h.live) }

created-if : (o : PoolOptions) (b : Bool) (c m : ℕ) (xs : List PoolItem) → HasRoom o xs → WithinLimits o xs → WithinLimits o (if_so b (created c m) xs)
created-if o true c m xs h i = (one-more o c m xs h, i)
created-if o false c m xs h i = i

fact-kept : (o : PoolOptions) (p m : ℕ) (f : Fact) (xs : List PoolItem) → Roomy o xs f → WithinLimits o xs → WithinLimits o (after_fact p m f xs)
fact-kept o p m (fact.Pool q (event.PoolCreated e)) xs h i = kept-if o (q == p) pool_created xs refl i
fact-kept o p m (fact.Pool q (event.PoolReady e)) xs h i = kept-if o (q == p) pool_ready xs refl i
fact-kept o p m (fact.Pool q (event.PoolClosed e)) xs h i = kept-if o (q == p) pool_closed xs refl i
fact-kept o p m (fact.Pool q (event.PoolCleared e)) xs h i = i
fact-kept o p m (fact.Pool q (event.ConnectionCreated e)) xs h i = created-if o (q == p) e.connection_id m xs h i
fact-kept o p m (fact.Pool q (event.ConnectionReady e)) xs h i = i
fact-kept o p m (fact.Pool q (event.ConnectionClosed e)) xs h i = kept-if o (q == p) (closed e.connection_id) xs refl i
fact-kept o p m (fact.Pool q (event.ConnectionCheckoutStarted e)) xs h i = i
fact-kept o p m (fact.Pool q (event.ConnectionCheckoutFailed e)) xs h i = i
fact-kept o p m (fact.Pool q (event.ConnectionCheckedOut e)) xs h i = i
fact-kept o p m (fact.Pool q (event.ConnectionCheckedIn e)) xs h i = kept-if o (q == p) (checked_in e.connection_id m) xs refl i
fact-kept o p m (fact.Granted r q c) xs h i = kept-if o (q == p) (granted r c) xs refl i
fact-kept o p m (fact.Ended r end) xs h i = kept-if o (has_asked xs r) (ended r end) xs refl i
fact-kept o p m (fact.Raised q service error) xs h i = kept-if o (q == p) (raised service error) xs refl i
fact-kept o p m (fact.Opened q a) xs h i = i
fact-kept o p m (fact.CheckNow a) xs h i = i
fact-kept o p m (fact.Cancel a) xs h i = i
fact-kept o p m (fact.Sdam e) xs h i = i

facts-kept : (o : PoolOptions) (p m : ℕ) (fs : List Fact) (xs : List PoolItem) → AllRoomy o p m xs fs → WithinLimits o xs → WithinLimits o (after_facts p m fs xs)
facts-kept o p m [] xs h i = i
facts-kept o p m (f ∷ fs) xs h i = facts-kept o p m fs (after_fact p m f xs) h.1 (fact-kept o p m f xs h.0 i)

roomy-append : (o : PoolOptions) (p m : ℕ) (fs gs : List Fact) (xs : List PoolItem) → AllRoomy o p m xs fs → AllRoomy o p m (after_facts p m fs xs) gs → AllRoomy o p m xs (fs ++ gs)
roomy-append o p m [] gs xs h k = k
roomy-append o p m (f ∷ fs) gs xs h k = (h.0, roomy-append o p m fs gs (after_fact p m f xs) h.1 k)

-- facts none of which creates a connection
abbrev IsQuiet : Fact → Type 0
IsQuiet (fact.Pool q (event.ConnectionCreated e)) = ⊥
IsQuiet _ = Unit {0}

abbrev AreQuiet : List Fact → Type 0
AreQuiet [] = Unit {0}
AreQuiet (f ∷ fs) = IsQuiet f × AreQuiet fs

quiet-append : (fs gs : List Fact) → AreQuiet fs → AreQuiet gs → AreQuiet (fs ++ gs)
quiet-append [] gs h k = k
quiet-append (f ∷ fs) gs h k = (h.0, quiet-append fs gs h.1 k)

quiet-roomy-one : (o : PoolOptions) (xs : List PoolItem) (f : Fact) → IsQuiet f → Roomy o xs f
quiet-roomy-one o xs (fact.Pool q (event.ConnectionCreated e)) h = absurd h
quiet-roomy-one o xs (fact.Pool q (event.PoolCreated e)) h = tt
quiet-roomy-one o xs (fact.Pool q (event.PoolReady e)) h = tt
quiet-roomy-one o xs (fact.Pool q (event.PoolClosed e)) h = tt
quiet-roomy-one o xs (fact.Pool q (event.PoolCleared e)) h = tt
quiet-roomy-one o xs (fact.Pool q (event.ConnectionReady e)) h = tt
quiet-roomy-one o xs (fact.Pool q (event.ConnectionClosed e)) h = tt
quiet-roomy-one o xs (fact.Pool q (event.ConnectionCheckoutStarted e)) h = tt
quiet-roomy-one o xs (fact.Pool q (event.ConnectionCheckoutFailed e)) h = tt
quiet-roomy-one o xs (fact.Pool q (event.ConnectionCheckedOut e)) h = tt
quiet-roomy-one o xs (fact.Pool q (event.ConnectionCheckedIn e)) h = tt
quiet-roomy-one o xs (fact.Granted r q c) h = tt
quiet-roomy-one o xs (fact.Ended r end) h = tt
quiet-roomy-one o xs (fact.Raised q service error) h = tt
quiet-roomy-one o xs (fact.Opened q a) h = tt
quiet-roomy-one o xs (fact.CheckNow a) h = tt
quiet-roomy-one o xs (fact.Cancel a) h = tt
quiet-roomy-one o xs (fact.Sdam e) h = tt

quiet-roomy : (o : PoolOptions) (p m : ℕ) (fs : List Fact) (xs : List PoolItem) → AreQuiet fs → AllRoomy o p m xs fs
quiet-roomy o p m [] xs h = tt
quiet-roomy o p m (f ∷ fs) xs h = (quiet-roomy-one o xs f h.0, quiet-roomy o p m fs (after_fact p m f xs) h.1)

quiet-if : (b : Bool) (fs gs : List Fact) → AreQuiet fs → AreQuiet gs → AreQuiet (if b then fs else gs)
quiet-if true fs gs h k = h
quiet-if false fs gs h k = k

-- the facts of acts, but for those of maintenance, create no connection
module _ (p : ℕ) (a : ServerAddress) (o : PoolOptions) (m : ℕ) where
  closes-quiet : (xs : List PoolItem) (c : ℕ) (why : Option ConnectionClosedReason) → AreQuiet (closes p a xs c why)
  closes-quiet xs c None = tt
  closes-quiet xs c (Some why) = (tt, tt)

  check_in-quiet : (xs : List PoolItem) (c : ℕ) → AreQuiet (check_in p a o xs c)
  check_in-quiet xs c = on (state_of o xs) refl
    where
      on : (s : State) → state_of o xs ≡ s → AreQuiet (check_in p a o xs c)
      on is_new e = rw e (tt, closes-quiet xs c (close_reason o xs c))
      on is_ready e = rw e (tt, closes-quiet xs c (close_reason o xs c))
      on (is_paused error) e = rw e (tt, closes-quiet xs c (close_reason o xs c))
      on is_closed e = rw e (tt, tt)

  come_back-quiet : (xs : List PoolItem) (k : Option ℕ) → AreQuiet (come_back p a o xs k)
  come_back-quiet xs None = tt
  come_back-quiet xs (Some c) = quiet-if (nat_lt 0 (pins xs c)) [] (check_in p a o xs c) tt (check_in-quiet xs c)

  end-quiet : (xs : List PoolItem) (r : ℕ) (end : End) → AreQuiet (end_facts p a m xs r end)
  end-quiet xs r end = on (is_warm xs r) refl
    where
      on : (b : Bool) → is_warm xs r ≡ b → AreQuiet (end_facts p a m xs r end)
      on true e = rw e (tt, tt)
      on false e = rw e (tt, (tt, tt))

  ends-quiet : (xs : List PoolItem) (end : End) (rs : List ℕ) → AreQuiet (all_ends p a m xs end rs)
  ends-quiet xs end [] = tt
  ends-quiet xs end (r ∷ rs) = quiet-append (end_facts p a m xs r end) (all_ends p a m xs end rs) (end-quiet xs r end) (ends-quiet xs end rs)

  hand-quiet : (xs : List PoolItem) (c : ℕ) (k : Option ℕ) → AreQuiet (hand_over p a o m xs c k)
  hand-quiet xs c None = tt
  hand-quiet xs c (Some r) = on (is_some (end_of xs r)) (is_warm xs r) refl refl
    where
      on : (b d : Bool) → is_some (end_of xs r) ≡ b → is_warm xs r ≡ d → AreQuiet (hand_over p a o m xs c (Some r))
      on true d e f = rw e (check_in-quiet xs c)
      on false true e f = rw (e, f) (quiet-append (check_in p a o xs c) _ (check_in-quiet xs c) (tt, tt))
      on false false e f = rw (e, f) (tt, tt)

  fail-quiet : (xs : List PoolItem) (error : Error) (k : Option ℕ) → AreQuiet (fail_requester p a o m xs error k)
  fail-quiet xs error None = tt
  fail-quiet xs error (Some r) = on (is_some (end_of xs r)) refl
    where
      on : (b : Bool) → is_some (end_of xs r) ≡ b → AreQuiet (fail_requester p a o m xs error (Some r))
      on true e = rw e tt
      on false e = rw e (end-quiet xs r _)

  sweep-quiet : (xs : List PoolItem) (cs : List ℕ) → AreQuiet (sweep p a o m xs cs)
  sweep-quiet xs [] = tt
  sweep-quiet xs (c ∷ cs) = quiet-append (closes p a xs c (perished o m xs c)) (sweep p a o m xs cs) (closes-quiet xs c (perished o m xs c)) (sweep-quiet xs cs)

  away-quiet : (xs : List PoolItem) (r : ℕ) → AreQuiet (turned_away p a o m xs r)
  away-quiet xs r = on (state_of o xs) refl
    where
      on : (s : State) → state_of o xs ≡ s → AreQuiet (turned_away p a o m xs r)
      on is_new e = rw e (end-quiet xs r _)
      on is_ready e = rw e tt
      on (is_paused error) e = rw e (end-quiet xs r _)
      on is_closed e = rw e tt

  readied-quiet : (xs : List PoolItem) → AreQuiet (readied p a o m xs)
  readied-quiet xs = on (state_of o xs) refl
    where
      on : (s : State) → state_of o xs ≡ s → AreQuiet (readied p a o m xs)
      on is_new e = rw e (tt, tt)
      on is_ready e = rw e tt
      on (is_paused error) e = rw e (tt, tt)
      on is_closed e = rw e tt

  clear-quiet : (xs : List PoolItem) (service : Option ObjectId) (error : Error) → AreQuiet (clear_facts p a o m xs service error)
  clear-quiet xs service error = on (state_of o xs) service refl
    where
      on : (s : State) (service : Option ObjectId) → state_of o xs ≡ s → AreQuiet (clear_facts p a o m xs service error)
      on is_new None e = rw e (tt, tt)
      on is_new (Some t) e = rw e (tt, (tt, tt))
      on is_ready None e = rw e (tt, (tt, ends-quiet xs _ (queued xs)))
      on is_ready (Some t) e = rw e (tt, (tt, tt))
      on (is_paused cause) None e = rw e (tt, tt)
      on (is_paused cause) (Some t) e = rw e (tt, (tt, tt))
      on is_closed service e = rw e tt

  map-quiet : (xs : List PoolItem) (why : ConnectionClosedReason) (cs : List ℕ) → AreQuiet (map (λ c. closed_fact p a c why (known_service xs c)) cs)
  map-quiet xs why [] = tt
  map-quiet xs why (c ∷ cs) = (tt, map-quiet xs why cs)

  close-quiet : (xs : List PoolItem) → AreQuiet (close_facts p a o m xs)
  close-quiet xs = on (state_of o xs) refl
    where
      shut : (s : State) → AreQuiet (map (λ c. closed_fact p a c PoolClosedReason (known_service xs c)) (available_list xs ++ pending_list xs) ++ all_ends p a m xs Closed (filter (is_unserved xs) (requests xs)) ++ fact.Pool p (event.PoolClosed (record { address = a })) ∷ [])
      shut s = quiet-append (map (λ c. closed_fact p a c PoolClosedReason (known_service xs c)) (available_list xs ++ pending_list xs) ++ all_ends p a m xs Closed (filter (is_unserved xs) (requests xs))) _
          (quiet-append _ _ (map-quiet xs PoolClosedReason (available_list xs ++ pending_list xs)) (ends-quiet xs Closed (filter (is_unserved xs) (requests xs)))) (tt, tt)

      on : (s : State) → state_of o xs ≡ s → AreQuiet (close_facts p a o m xs)
      on is_new e = rw e (shut is_new)
      on is_ready e = rw e (shut is_ready)
      on (is_paused error) e = rw e (shut is_new)
      on is_closed e = rw e tt

  -- maintenance creates connections only where there is room
  fill-roomy : (n : ℕ) (xs : List PoolItem) → AllRoomy o p m xs (fill p a o m n xs)
  fill-roomy zero xs = tt
  fill-roomy (suc n) xs = on (ready (state_of o xs) && (nat_lt (live_total xs) (min_size o) && (nat_lt (length (pending_list xs)) (max_connecting o) && nat_lt (created_total xs) o.limit_id))) refl (fill-roomy n)
    where
      on : (b : Bool) → (ready (state_of o xs) && (nat_lt (live_total xs) (min_size o) && (nat_lt (length (pending_list xs)) (max_connecting o) && nat_lt (created_total xs) o.limit_id))) ≡ b → ((ys : List PoolItem) → AllRoomy o p m ys (fill p a o m n ys)) → AllRoomy o p m xs (fill p a o m (suc n) xs)
      on false e more = rw e tt
      on true e more =
          let p1 = and_parts (ready (state_of o xs)) _ e in
          let p2 = and_parts (nat_lt (live_total xs) (min_size o)) _ p1.1 in
          let p3 = and_parts (nat_lt (length (pending_list xs)) (max_connecting o)) _ p2.1 in
          let live : live_total xs < min_size o = ltb-true (live_total xs) (min_size o) p2.0 in
          let room : HasRoom o xs = record { pending = ltb-true (length (pending_list xs)) (max_connecting o) p3.0; live = omega (arith, live) } in
          rw e (room, more _)

  act-roomy : (xs ys : List PoolItem) (does : Act) → AllRoomy o p m ys (act_facts p a o m xs ys does)
  act-roomy xs ys (act.Request r b) = (tt, quiet-roomy o p m (turned_away p a o m ys r) ys (away-quiet ys r))
  act-roomy xs ys (act.Warm r b) = quiet-roomy o p m _ ys (away-quiet ys r)
  act-roomy xs ys (act.GiveUp r) = quiet-roomy o p m _ ys (quiet-if (is_some (end_of xs r)) [] (fact.Ended r GaveUp ∷ come_back p a o ys (holding xs r)) tt (tt, come_back-quiet ys (holding xs r)))
  act-roomy xs ys (act.Established q c how) = (tt, quiet-roomy o p m (hand_over p a o m ys c (granted_to ys c)) ys (hand-quiet ys c (granted_to ys c)))
  act-roomy xs ys (act.Failed q c at error) = quiet-roomy o p m (closed_fact p a c ErrorReason (known_service ys c) ∷ fail_requester p a o m ys error (granted_to ys c)) ys (tt, fail-quiet ys error (granted_to ys c))
  act-roomy xs ys (act.Return r used) = quiet-roomy o p m _ ys (come_back-quiet ys (holding xs r))
  act-roomy xs ys (act.Unpin q c) = quiet-roomy o p m _ ys (quiet-if (is_pinned xs c && (pins ys c == 0)) (check_in p a o ys c) [] (check_in-quiet ys c) tt)
  act-roomy xs ys (act.Maintain b) =
      roomy-append o p m (sweep p a o m ys (available_list ys)) _ ys (quiet-roomy o p m _ ys (sweep-quiet ys (available_list ys))) (fill-roomy (min_size o) (after_facts p m (sweep p a o m ys (available_list ys)) ys))
  act-roomy xs ys (act.Expire b) = quiet-roomy o p m _ ys (ends-quiet ys _ (overdue o m ys))
  act-roomy xs ys (act.Ready q) = quiet-roomy o p m _ ys (readied-quiet ys)
  act-roomy xs ys (act.Clear q service error) = quiet-roomy o p m _ ys (clear-quiet ys service error)
  act-roomy xs ys (act.Close q) = quiet-roomy o p m _ ys (close-quiet ys)
  act-roomy xs ys (act.Open options) = tt
  act-roomy xs ys (act.Collect r) = tt
  act-roomy xs ys act.Claim = tt
  act-roomy xs ys (act.Pin r) = tt
  act-roomy xs ys (act.Replicate q c) = tt
  act-roomy xs ys (act.Take r q c) = tt
  act-roomy xs ys (act.Error r error) = tt
  act-roomy xs ys (act.Hello b q came) = tt
  act-roomy xs ys (act.Beat b q) = tt
  act-roomy xs ys (act.Beaten b q d came) = tt
  act-roomy xs ys (act.Rtt b q d) = tt
  act-roomy xs ys (act.Hosts hosts) = tt
  act-roomy xs ys (act.ClusterTime t) = tt
  act-roomy xs ys (act.Want w) = tt
  act-roomy xs ys (act.Unwant w) = tt
  act-roomy xs ys act.Stop = tt

  -- serving creates connections only where there is room
  candidate-free : (xs : List PoolItem) (r : ℕ) (rs : List ℕ) → candidate o xs rs ≡ Some r → is_blocked o xs r ≡ false
  candidate-free xs r [] e = absurd (cc)
  candidate-free xs r (q ∷ rs) e = on (is_blocked o xs q) refl (candidate-free xs r rs)
    where
      on : (b : Bool) → is_blocked o xs q ≡ b → (candidate o xs rs ≡ Some r → is_blocked o xs r ≡ false) → is_blocked o xs r ≡ false
      on true f deeper = deeper (subst (λ b. (if b then candidate o xs rs else Some q) ≡ Some r) f e)
      on false f deeper = let g : ◌≡◌ {A = Option ℕ} (Some q) (Some r) = subst (λ b. (if b then candidate o xs rs else Some q) ≡ Some r) f e in let k : q ≡ r = cc in subst (λ q. is_blocked o xs q ≡ false) k f

  room-of : (xs : List PoolItem) → may_create o xs ≡ true → HasRoom o xs
  room-of xs e =
      let p1 = and_parts (nat_lt (created_total xs) o.limit_id) _ e in
      let p2 = and_parts (nat_lt (live_total xs) (max_size o)) _ p1.1 in
      let live : live_total xs < max_size o = ltb-true (live_total xs) (max_size o) p2.0 in
      record { pending = ltb-true (length (pending_list xs)) (max_connecting o) p2.1; live = omega (arith, live) }

  -- a warm request that is no blocked one and wants a connection finds room
  warm-room : (xs : List PoolItem) (r : ℕ) → is_warm xs r ≡ true → wants_connection o xs ≡ true → is_blocked o xs r ≡ false → HasRoom o xs
  warm-room xs r w e free =
      let p1 = and_parts (nat_lt (live_total xs) (min_size o)) _ e in
      let live : live_total xs < min_size o = ltb-true (live_total xs) (min_size o) p1.0 in
      on (nat_lt (length (pending_list xs)) (max_connecting o)) refl live
    where
      on : (b : Bool) → nat_lt (length (pending_list xs)) (max_connecting o) ≡ b → live_total xs < min_size o → HasRoom o xs
      on true f live = record { pending = ltb-true (length (pending_list xs)) (max_connecting o) f; live = omega (arith, live) }
      on false f live = let g : is_blocked o xs r ≡ true = rw (w, e, f) refl in absurd (cc)

  move-roomy : (xs : List PoolItem) → AllRoomy o p m xs (next_move p a o m xs)
  move-roomy xs = at_status (ready (state_of o xs)) refl
    where
      at_room : (b : Bool) (r : ℕ) → may_create o xs ≡ b → ready (state_of o xs) ≡ true → candidate o xs (queued xs) ≡ Some r → is_warm xs r ≡ false → last_of (available_list xs) ≡ None → AllRoomy o p m xs (next_move p a o m xs)
      at_room true r room e f w l = rw (e, f, w, l, room) (room-of xs room, (tt, tt))
      at_room false r room e f w l = rw (e, f, w, l, room) tt

      at_meet : (why : Option ConnectionClosedReason) (r c : ℕ) → perished o m xs c ≡ why → ready (state_of o xs) ≡ true → candidate o xs (queued xs) ≡ Some r → is_warm xs r ≡ false → last_of (available_list xs) ≡ Some c → AllRoomy o p m xs (next_move p a o m xs)
      at_meet None r c k e f w l = rw (e, f, w, l, k) (tt, (tt, tt))
      at_meet (Some why) r c k e f w l = rw (e, f, w, l, k) (tt, tt)

      at_last : (k : Option ℕ) (r : ℕ) → last_of (available_list xs) ≡ k → ready (state_of o xs) ≡ true → candidate o xs (queued xs) ≡ Some r → is_warm xs r ≡ false → AllRoomy o p m xs (next_move p a o m xs)
      at_last None r l e f w = at_room (may_create o xs) r refl e f w l
      at_last (Some c) r l e f w = at_meet (perished o m xs c) r c refl e f w l

      at_wants : (b : Bool) (r : ℕ) → wants_connection o xs ≡ b → ready (state_of o xs) ≡ true → candidate o xs (queued xs) ≡ Some r → is_warm xs r ≡ true → AllRoomy o p m xs (next_move p a o m xs)
      at_wants true r v e f w = let room = warm-room xs r w v (candidate-free xs r (queued xs) f) in rw (e, f, w, v) (room, (tt, tt))
      at_wants false r v e f w = rw (e, f, w, v) (tt, tt)

      at_warm : (b : Bool) (r : ℕ) → is_warm xs r ≡ b → ready (state_of o xs) ≡ true → candidate o xs (queued xs) ≡ Some r → AllRoomy o p m xs (next_move p a o m xs)
      at_warm true r w e f = at_wants (wants_connection o xs) r refl e f w
      at_warm false r w e f = at_last (last_of (available_list xs)) r refl e f w

      at_candidate : (k : Option ℕ) → candidate o xs (queued xs) ≡ k → ready (state_of o xs) ≡ true → AllRoomy o p m xs (next_move p a o m xs)
      at_candidate None f e = rw (e, f) tt
      at_candidate (Some r) f e = at_warm (is_warm xs r) r refl e f

      at_status : (b : Bool) → ready (state_of o xs) ≡ b → AllRoomy o p m xs (next_move p a o m xs)
      at_status true e = at_candidate (candidate o xs (queued xs)) refl e
      at_status false e = rw e tt

  serve-roomy : (k : ℕ) (xs : List PoolItem) → AllRoomy o p m xs (serve p a o m k xs)
  serve-roomy zero xs = tt
  serve-roomy (suc k) xs = roomy-append o p m (next_move p a o m xs) (serve p a o m k (after_facts p m (next_move p a o m xs) xs)) xs (move-roomy xs) (serve-roomy k (after_facts p m (next_move p a o m xs) xs))

  all-roomy : (xs ys : List PoolItem) (does : Act) → AllRoomy o p m ys (all_facts p a o m xs ys does)
  all-roomy xs ys does = roomy-append o p m (act_facts p a o m xs ys does) _ ys (act-roomy xs ys does) (serve-roomy _ (after_facts p m (act_facts p a o m xs ys does) ys))

-- the facts of an accepted act keep the limits
pub accepted-within : (p : ℕ) (a : ServerAddress) (o : PoolOptions) (m : ℕ) (xs ys : List PoolItem) (does : Act) → WithinLimits o ys → WithinLimits o (after_facts p m (all_facts p a o m xs ys does) ys)
accepted-within p a o m xs ys does i = facts-kept o p m (all_facts p a o m xs ys does) ys (all-roomy p a o m xs ys does) i

-- the reply to an accepted act is no refusal
outcome-accepted : (p : ℕ) (xs : List PoolItem) (r : ℕ) → IsAccepted (outcome_of p xs r)
outcome-accepted p xs r = on (end_of xs r) (given xs r) refl refl
  where
    held : (c : ℕ) (b : Bool) → has c (pending_list xs) ≡ b → end_of xs r ≡ None → given xs r ≡ Some c → IsAccepted (outcome_of p xs r)
    held c true k e f = rw (e, f, k) tt
    held c false k e f = rw (e, f, k) tt

    on : (end : Option End) (c : Option ℕ) → end_of xs r ≡ end → given xs r ≡ c → IsAccepted (outcome_of p xs r)
    on (Some end) c e f = rw e tt
    on None None e f = rw (e, f) tt
    on None (Some c) e f = held c (has c (pending_list xs)) refl e f

job-accepted : (p : ℕ) (claimed : ℕ → Bool) (cs : List ℕ) → IsAccepted (first_job p claimed cs)
job-accepted p claimed [] = tt
job-accepted p claimed (c ∷ cs) = on (claimed c) refl (job-accepted p claimed cs)
  where
    on : (b : Bool) → claimed c ≡ b → IsAccepted (first_job p claimed cs) → IsAccepted (first_job p claimed (c ∷ cs))
    on true e more = rw e more
    on false e more = rw e tt

left-accepted : (p : ℕ) (xs : List PoolItem) (r : ℕ) (b : Bool) → IsAccepted (if b then outcome_of p xs r else reply.Done)
left-accepted p xs r true = outcome-accepted p xs r
left-accepted p xs r false = tt

pub reply-accepted : (p : ℕ) (claimed : ℕ → Bool) (xs zs : List PoolItem) (does : Act) → IsAccepted (reply_of p claimed xs zs does)
reply-accepted p claimed xs zs (act.Request r b) = outcome-accepted p zs r
reply-accepted p claimed xs zs (act.Warm r b) = outcome-accepted p zs r
reply-accepted p claimed xs zs (act.Collect r) = outcome-accepted p zs r
reply-accepted p claimed xs zs act.Claim = job-accepted p claimed (pending_list xs)
reply-accepted p claimed xs zs (act.GiveUp r) = left-accepted p xs r (is_some (end_of xs r))
reply-accepted p claimed xs zs (act.Take r q c) = tt
reply-accepted p claimed xs zs (act.Established q c how) = tt
reply-accepted p claimed xs zs (act.Failed q c at error) = tt
reply-accepted p claimed xs zs (act.Return r used) = tt
reply-accepted p claimed xs zs (act.Unpin q c) = tt
reply-accepted p claimed xs zs (act.Maintain b) = tt
reply-accepted p claimed xs zs (act.Expire b) = tt
reply-accepted p claimed xs zs (act.Ready q) = tt
reply-accepted p claimed xs zs (act.Clear q service error) = tt
reply-accepted p claimed xs zs (act.Close q) = tt
reply-accepted p claimed xs zs (act.Open options) = tt
reply-accepted p claimed xs zs (act.Pin r) = tt
reply-accepted p claimed xs zs (act.Replicate q c) = tt
reply-accepted p claimed xs zs (act.Error r error) = tt
reply-accepted p claimed xs zs (act.Hello b q came) = tt
reply-accepted p claimed xs zs (act.Beat b q) = tt
reply-accepted p claimed xs zs (act.Beaten b q d came) = tt
reply-accepted p claimed xs zs (act.Rtt b q d) = tt
reply-accepted p claimed xs zs (act.Hosts hosts) = tt
reply-accepted p claimed xs zs (act.ClusterTime t) = tt
reply-accepted p claimed xs zs (act.Want w) = tt
reply-accepted p claimed xs zs (act.Unwant w) = tt
reply-accepted p claimed xs zs act.Stop = tt

-- what the pool answers to a step keeps its limits
pub answer-within : (p : ℕ) (a : ServerAddress) (o : PoolOptions) (h : List Item) (step : Step) → WithinLimits o (of_pool p h) → WithinLimits o (of_pool p (with_answer step (answer p a o h step).reply (answer p a o h step).facts h))
answer-within p a o h step i = on (refusal_of p o h step) refl
  where
    accepted : (facts : List Fact) (says : Reply) → facts ≡ all_facts p a o step.moment (of_pool p h) (with_act p h step) step.act → IsAccepted says → WithinLimits o (of_pool p (with_answer step says facts h))
    accepted facts says e k =
        let same : of_pool p (with_answer step says facts h) ≡ after_facts p step.moment facts (with_act p h step) = ap (of_pool p) (with_answer-accepted step says facts h k) ∙ of_pool-with_facts p step.moment facts (did step says ∷ h) in
        let roomy : AllRoomy o p step.moment (with_act p h step) facts = subst (AllRoomy o p step.moment (with_act p h step)) (sym e) (all-roomy p a o step.moment (of_pool p h) (with_act p h step) step.act) in
        let kept = facts-kept o p step.moment facts (with_act p h step) roomy (act-kept o p (open_pool h) step.moment step.act (of_pool p h) i) in
        subst (WithinLimits o) (sym same) kept

    on : (why : Option Refused) → refusal_of p o h step ≡ why → WithinLimits o (of_pool p (with_answer step (answer p a o h step).reply (answer p a o h step).facts h))
    on (Some why) e = rw e i
    on None e =
        let facts : List Fact = all_facts p a o step.moment (of_pool p h) (with_act p h step) step.act in
        let zs : List PoolItem = after_facts p step.moment facts (with_act p h step) in
        rw e (accepted facts (reply_of p (is_claimed h p) (of_pool p h) zs step.act) refl (reply-accepted p (is_claimed h p) (of_pool p h) zs step.act))
