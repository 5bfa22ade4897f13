-- What a pool answers grants only fresh connections.
use Rattle.std.proofs.Common.{ℕ, zero, suc, ◌≡◌, ◌+◌, ◌<◌, ◌≤◌, Bool, true, false, ◌==◌, List, [], ◌∷◌, ◌++◌, Option, Some, None, refl, arith}
use Rattle.std.specs.Prelude.{is_some}
use Rattle.std.proofs.lemmas.Grind.{common_steps}
use Rattle.mdb_base.specs.declared.address.ServerAddress.{ServerAddress}
use Rattle.mdb_events.specs.declared.reasons.ConnectionClosedReason.{ConnectionClosedReason}
use Rattle.mdb_events.specs.declared.reasons.ConnectionClosedReason.TheVariants.{Stale, Idle}
use Rattle.mdb_events.specs.declared.end.End.TheVariants.{Warmed}
use Rattle.mdb_events.specs.declared.cmap.CmapEvent.TheVariants as event
use Rattle.mdb_events.specs.declared.fact.Fact.{Fact}
use Rattle.mdb_events.specs.declared.fact.Fact.TheVariants as fact
use Rattle.mdb_log.specs.declared.options.PoolOptions.{PoolOptions}
use Rattle.mdb_log.specs.declared.step.Act.{Act}
use Rattle.mdb_log.specs.declared.step.Act.TheVariants as act
use Rattle.mdb_log.specs.declared.step.FailedAt.TheVariants as at
use Rattle.mdb_log.specs.declared.step.Established.{Established as Establishment}
use Rattle.mdb_log.specs.declared.reply.Refused.{Refused}
use Rattle.mdb_log.specs.History.{PoolItem, asked, warmed, gave_up, returned, pinned_by, established, failed, replicated, taken, unpinned, created, closed, checked_in, granted, ended, raised, pool_created, pool_ready, pool_closed, if_so, after_act, after_fact, after_facts, without, is_number, given, has_asked}
use Rattle.mdb_log.specs.Connections.{has, created_total, available_list, granted_to}
use Rattle.mdb_log.specs.Requests.{queued, is_warm}
use Rattle.mdb_log.specs.State.{state_of, ready, is_stale, is_idle, may_create}
use Rattle.mdb_pool_rules.specs.Facts.{perished}
use Rattle.mdb_pool_rules.specs.Serving.{last_of, candidate, next_move, serve, creation, wants_connection}
use Rattle.mdb_pool_rules.specs.Refusal.{first_row}
use Rattle.mdb_log.specs.Fresh.{IsFresh, GrantsFresh, AllGrantFresh}
use Rattle.mdb_log.proofs.Numbers.{has-append, same-number}
use Rattle.mdb_pool_rules.proofs.FactsGrantNothing.{IsCalm, AreCalm, IsBound}

-- no connection is available that was not created
pub record AllCreated (xs : List PoolItem) : Type 0 where
  pub past : (c : ℕ) → created_total xs < c → has c (available_list xs) ≡ false

without-has : (c d : ℕ) (cs : List ℕ) → has c cs ≡ false → has c (without d cs) ≡ false
without-has c d [] e = refl
without-has c d (k ∷ cs) e = grind (arith, common_steps, without-has c d cs)

-- one more at the end, whose number is less
last-less : (c d : ℕ) (cs : List ℕ) → d < c → has c cs ≡ false → has c (without d cs ++ d ∷ []) ≡ false
last-less c d cs l e = let f : has c (without d cs) ≡ false = without-has c d cs e in grind (arith, has-append c d (without d cs))

-- each item keeps that, if what it makes available was created
module _ (xs : List PoolItem) (i : AllCreated xs) where
  leave-kept : (c : ℕ) (x : PoolItem) → created_total xs ≤ created_total (x ∷ xs) → available_list (x ∷ xs) ≡ without c (available_list xs) → AllCreated (x ∷ xs)
  leave-kept c x l e = record { past = λ d k. rw e (without-has d c (available_list xs) (i.past d (omega (arith, l, k)))) }

  stay-kept : (x : PoolItem) → created_total xs ≤ created_total (x ∷ xs) → available_list (x ∷ xs) ≡ available_list xs → AllCreated (x ∷ xs)
  stay-kept x l e = record { past = λ d k. rw e (i.past d (omega (arith, l, k))) }

  join-kept : (c : ℕ) (x : PoolItem) → created_total xs ≤ created_total (x ∷ xs) → c ≤ created_total xs → available_list (x ∷ xs) ≡ without c (available_list xs) ++ c ∷ [] → AllCreated (x ∷ xs)
  join-kept c x l b e = record { past = λ d k. rw e (last-less d c (available_list xs) (omega (arith, l, k, b)) (i.past d (omega (arith, l, k)))) }

  up-kept : (c m : ℕ) (how : Establishment) → c ≤ created_total xs → AllCreated (established c how m ∷ xs)
  up-kept c m how b = on (is_some (granted_to xs c)) refl
    where
      on : (k : Bool) → is_some (granted_to xs c) ≡ k → AllCreated (established c how m ∷ xs)
      on true e = stay-kept (established c how m) (omega arith) (rw e refl)
      on false e = join-kept c (established c how m) (omega arith) b (rw e refl)

  if-kept : (b : Bool) (x : PoolItem) → AllCreated (x ∷ xs) → AllCreated (if_so b x xs)
  if-kept true x k = k
  if-kept false x k = i

  stays : (x : PoolItem) → created_total (x ∷ xs) ≡ created_total xs → available_list (x ∷ xs) ≡ available_list xs → (b : Bool) → AllCreated (if_so b x xs)
  stays x e f b = if-kept b x (stay-kept x (omega (arith, e)) f)

-- so do an act and each calm fact
module _ (p m : ℕ) (here : ServerAddress → Option ℕ) (xs : List PoolItem) (i : AllCreated xs) where
  pub act-kept : (does : Act) → IsBound (created_total xs) xs does → AllCreated (after_act p here m does xs)
  act-kept (act.Request r a) b = stays xs i (asked r m) refl refl (is_number (here a) p)
  act-kept (act.Warm r a) b = stays xs i (warmed r m) refl refl (is_number (here a) p)
  act-kept (act.GiveUp r) b = stays xs i (gave_up r) refl refl (has_asked xs r)
  act-kept (act.Established q c how) b = if-kept xs i (q == p) (established c how m) (up-kept xs i c m how b)
  act-kept (act.Failed q c at.Pre error) b = stays xs i (failed c None) refl refl (q == p)
  act-kept (act.Failed q c (at.Post service) error) b = stays xs i (failed c service) refl refl (q == p)
  act-kept (act.Return r used) b = stays xs i (returned r used) refl refl (is_some (given xs r))
  act-kept (act.Pin r) b = stays xs i (pinned_by r) refl refl (is_some (given xs r))
  act-kept (act.Replicate q c) b = stays xs i (replicated c) refl refl (q == p)
  act-kept (act.Take r q c) b = stays xs i (taken r c) refl refl (q == p)
  act-kept (act.Unpin q c) b = stays xs i (unpinned c) refl refl (q == p)
  act-kept (act.Open options) b = i
  act-kept (act.Collect r) b = i
  act-kept act.Claim b = i
  act-kept (act.Maintain a) b = i
  act-kept (act.Expire a) b = i
  act-kept (act.Ready q) b = i
  act-kept (act.Clear q service error) b = i
  act-kept (act.Close q) b = i
  act-kept (act.Error r error) b = i
  act-kept (act.Hello a q came) b = i
  act-kept (act.Beat a q) b = i
  act-kept (act.Beaten a q d came) b = i
  act-kept (act.Rtt a q d) b = i
  act-kept (act.Hosts hosts) b = i
  act-kept (act.ClusterTime t) b = i
  act-kept (act.Want w) b = i
  act-kept (act.Unwant w) b = i
  act-kept act.Stop b = i

module _ (p m : ℕ) (xs : List PoolItem) (i : AllCreated xs) where
  fact-kept : (n : ℕ) (f : Fact) → IsCalm n f → n ≤ created_total xs → AllCreated (after_fact p m f xs)
  fact-kept n (fact.Pool q (event.PoolCreated e)) h l = stays xs i pool_created refl refl (q == p)
  fact-kept n (fact.Pool q (event.PoolReady e)) h l = stays xs i pool_ready refl refl (q == p)
  fact-kept n (fact.Pool q (event.PoolClosed e)) h l = stays xs i pool_closed refl refl (q == p)
  fact-kept n (fact.Pool q (event.PoolCleared e)) h l = i
  fact-kept n (fact.Pool q (event.ConnectionCreated e)) h l = if-kept xs i (q == p) (created e.connection_id m) (stay-kept xs i (created e.connection_id m) (omega arith) refl)
  fact-kept n (fact.Pool q (event.ConnectionReady e)) h l = i
  fact-kept n (fact.Pool q (event.ConnectionClosed e)) h l = if-kept xs i (q == p) (closed e.connection_id) (leave-kept xs i e.connection_id (closed e.connection_id) (omega arith) refl)
  fact-kept n (fact.Pool q (event.ConnectionCheckoutStarted e)) h l = i
  fact-kept n (fact.Pool q (event.ConnectionCheckoutFailed e)) h l = i
  fact-kept n (fact.Pool q (event.ConnectionCheckedOut e)) h l = i
  fact-kept n (fact.Pool q (event.ConnectionCheckedIn e)) h l = if-kept xs i (q == p) (checked_in e.connection_id m) (join-kept xs i e.connection_id (checked_in e.connection_id m) (omega arith) (omega (arith, h, l)) refl)
  fact-kept n (fact.Granted r q c) h l = absurd h
  fact-kept n (fact.Ended r end) h l = stays xs i (ended r end) refl refl (has_asked xs r)
  fact-kept n (fact.Raised q service error) h l = stays xs i (raised service error) refl refl (q == p)
  fact-kept n (fact.Opened q a) h l = i
  fact-kept n (fact.CheckNow a) h l = i
  fact-kept n (fact.Cancel a) h l = i
  fact-kept n (fact.Sdam e) h l = i

-- connections are created only
if-grows : (b : Bool) (x : PoolItem) (xs : List PoolItem) → created_total xs ≤ created_total (x ∷ xs) → created_total xs ≤ created_total (if_so b x xs)
if-grows true x xs l = l
if-grows false x xs l = omega arith

pub act-grows : (p m : ℕ) (here : ServerAddress → Option ℕ) (xs : List PoolItem) (does : Act) → created_total xs ≤ created_total (after_act p here m does xs)
act-grows p m here xs (act.Request r a) = if-grows (is_number (here a) p) (asked r m) xs (omega arith)
act-grows p m here xs (act.Warm r a) = if-grows (is_number (here a) p) (warmed r m) xs (omega arith)
act-grows p m here xs (act.GiveUp r) = if-grows (has_asked xs r) (gave_up r) xs (omega arith)
act-grows p m here xs (act.Established q c how) = if-grows (q == p) (established c how m) xs (omega arith)
act-grows p m here xs (act.Failed q c at.Pre error) = if-grows (q == p) (failed c None) xs (omega arith)
act-grows p m here xs (act.Failed q c (at.Post service) error) = if-grows (q == p) (failed c service) xs (omega arith)
act-grows p m here xs (act.Return r used) = if-grows (is_some (given xs r)) (returned r used) xs (omega arith)
act-grows p m here xs (act.Pin r) = if-grows (is_some (given xs r)) (pinned_by r) xs (omega arith)
act-grows p m here xs (act.Replicate q c) = if-grows (q == p) (replicated c) xs (omega arith)
act-grows p m here xs (act.Take r q c) = if-grows (q == p) (taken r c) xs (omega arith)
act-grows p m here xs (act.Unpin q c) = if-grows (q == p) (unpinned c) xs (omega arith)
act-grows p m here xs (act.Open options) = omega arith
act-grows p m here xs (act.Collect r) = omega arith
act-grows p m here xs act.Claim = omega arith
act-grows p m here xs (act.Maintain a) = omega arith
act-grows p m here xs (act.Expire a) = omega arith
act-grows p m here xs (act.Ready q) = omega arith
act-grows p m here xs (act.Clear q service error) = omega arith
act-grows p m here xs (act.Close q) = omega arith
act-grows p m here xs (act.Error r error) = omega arith
act-grows p m here xs (act.Hello b q came) = omega arith
act-grows p m here xs (act.Beat b q) = omega arith
act-grows p m here xs (act.Beaten b q d came) = omega arith
act-grows p m here xs (act.Rtt b q d) = omega arith
act-grows p m here xs (act.Hosts hosts) = omega arith
act-grows p m here xs (act.ClusterTime t) = omega arith
act-grows p m here xs (act.Want w) = omega arith
act-grows p m here xs (act.Unwant w) = omega arith
act-grows p m here xs act.Stop = omega arith

fact-grows : (p m : ℕ) (f : Fact) (xs : List PoolItem) → created_total xs ≤ created_total (after_fact p m f xs)
fact-grows p m (fact.Pool q (event.PoolCreated e)) xs = if-grows (q == p) pool_created xs (omega arith)
fact-grows p m (fact.Pool q (event.PoolReady e)) xs = if-grows (q == p) pool_ready xs (omega arith)
fact-grows p m (fact.Pool q (event.PoolClosed e)) xs = if-grows (q == p) pool_closed xs (omega arith)
fact-grows p m (fact.Pool q (event.PoolCleared e)) xs = omega arith
fact-grows p m (fact.Pool q (event.ConnectionCreated e)) xs = if-grows (q == p) (created e.connection_id m) xs (omega arith)
fact-grows p m (fact.Pool q (event.ConnectionReady e)) xs = omega arith
fact-grows p m (fact.Pool q (event.ConnectionClosed e)) xs = if-grows (q == p) (closed e.connection_id) xs (omega arith)
fact-grows p m (fact.Pool q (event.ConnectionCheckoutStarted e)) xs = omega arith
fact-grows p m (fact.Pool q (event.ConnectionCheckoutFailed e)) xs = omega arith
fact-grows p m (fact.Pool q (event.ConnectionCheckedOut e)) xs = omega arith
fact-grows p m (fact.Pool q (event.ConnectionCheckedIn e)) xs = if-grows (q == p) (checked_in e.connection_id m) xs (omega arith)
fact-grows p m (fact.Granted r q c) xs = if-grows (q == p) (granted r c) xs (omega arith)
fact-grows p m (fact.Ended r end) xs = if-grows (has_asked xs r) (ended r end) xs (omega arith)
fact-grows p m (fact.Raised q service error) xs = if-grows (q == p) (raised service error) xs (omega arith)
fact-grows p m (fact.Opened q a) xs = omega arith
fact-grows p m (fact.CheckNow a) xs = omega arith
fact-grows p m (fact.Cancel a) xs = omega arith
fact-grows p m (fact.Sdam e) xs = omega arith

pub facts-kept : (p m n : ℕ) (fs : List Fact) (xs : List PoolItem) → AreCalm n fs → n ≤ created_total xs → AllCreated xs → AllCreated (after_facts p m fs xs)
facts-kept p m n [] xs h l i = i
facts-kept p m n (f ∷ fs) xs h l i = let g : created_total xs ≤ created_total (after_fact p m f xs) = fact-grows p m f xs in facts-kept p m n fs (after_fact p m f xs) h.1 (omega (arith, g, l)) (fact-kept p m xs i n f h.0 l)

-- calm facts grant nothing
calm-fresh-one : (n : ℕ) (o : PoolOptions) (m : ℕ) (xs : List PoolItem) (f : Fact) → IsCalm n f → GrantsFresh o m xs f
calm-fresh-one n o m xs (fact.Granted r q c) h = absurd h
calm-fresh-one n o m xs (fact.Pool q e) h = tt
calm-fresh-one n o m xs (fact.Ended r end) h = tt
calm-fresh-one n o m xs (fact.Raised q service error) h = tt
calm-fresh-one n o m xs (fact.Opened q a) h = tt
calm-fresh-one n o m xs (fact.CheckNow a) h = tt
calm-fresh-one n o m xs (fact.Cancel a) h = tt
calm-fresh-one n o m xs (fact.Sdam e) h = tt

pub calm-fresh : (n p : ℕ) (o : PoolOptions) (m : ℕ) (fs : List Fact) (xs : List PoolItem) → AreCalm n fs → AllGrantFresh p o m xs fs
calm-fresh n p o m [] xs h = tt
calm-fresh n p o m (f ∷ fs) xs h = (calm-fresh-one n o m xs f h.0, calm-fresh n p o m fs (after_fact p m f xs) h.1)

pub fresh-append : (p : ℕ) (o : PoolOptions) (m : ℕ) (fs gs : List Fact) (xs : List PoolItem) → AllGrantFresh p o m xs fs → AllGrantFresh p o m (after_facts p m fs xs) gs → AllGrantFresh p o m xs (fs ++ gs)
fresh-append p o m [] gs xs h k = k
fresh-append p o m (f ∷ fs) gs xs h k = (h.0, fresh-append p o m fs gs (after_fact p m f xs) h.1 k)

-- the serving grants fresh connections
module _ (p : ℕ) (a : ServerAddress) (o : PoolOptions) (m : ℕ) where
  perished-not : (xs : List PoolItem) (c : ℕ) → perished o m xs c ≡ None → IsFresh o m xs c
  perished-not xs c k = on (is_stale o xs c) (is_idle o m xs c) refl refl
    where
      on : (b d : Bool) → is_stale o xs c ≡ b → is_idle o m xs c ≡ d → IsFresh o m xs c
      on true d e f = let g : perished o m xs c ≡ Some Stale = rw e refl in absurd (cc)
      on false true e f = let g : perished o m xs c ≡ Some Idle = rw (e, f) refl in absurd (cc)
      on false false e f = record { current = e; recent = f }

  module _ (xs : List PoolItem) (i : AllCreated xs) where
    creation-fresh : (r : ℕ) → AllGrantFresh p o m xs (creation p a xs r)
    creation-fresh r =
        let f : has (created_total xs + 1) (available_list xs) ≡ false = i.past (created_total xs + 1) (omega arith) in
        rw (same-number p) (tt, ((λ h. absurd (cc)), tt))

    creation-kept : (r : ℕ) → AllCreated (after_facts p m (creation p a xs r) xs)
    creation-kept r =
        let c : ℕ = created_total xs + 1 in
        let j : AllCreated (if_so (p == p) (created c m) xs) = if-kept xs i (p == p) (created c m) (stay-kept xs i (created c m) (omega arith) refl) in
        if-kept (if_so (p == p) (created c m) xs) j (p == p) (granted r c) (leave-kept (if_so (p == p) (created c m) xs) j c (granted r c) (omega arith) refl)

    move-fresh : AllGrantFresh p o m xs (next_move p a o m xs) × AllCreated (after_facts p m (next_move p a o m xs) xs)
    move-fresh = at_status (ready (state_of o xs)) refl
      where
        at_room : (b : Bool) (r : ℕ) → may_create o xs ≡ b → ready (state_of o xs) ≡ true → candidate o xs (queued xs) ≡ Some r → is_warm xs r ≡ false → last_of (available_list xs) ≡ None → AllGrantFresh p o m xs (next_move p a o m xs) × AllCreated (after_facts p m (next_move p a o m xs) xs)
        at_room true r room e f w l = rw (e, f, w, l, room) (creation-fresh r, creation-kept r)
        at_room false r room e f w l = rw (e, f, w, l, room) (tt, i)

        at_meet : (why : Option ConnectionClosedReason) (r c : ℕ) → perished o m xs c ≡ why → ready (state_of o xs) ≡ true → candidate o xs (queued xs) ≡ Some r → is_warm xs r ≡ false → last_of (available_list xs) ≡ Some c → AllGrantFresh p o m xs (next_move p a o m xs) × AllCreated (after_facts p m (next_move p a o m xs) xs)
        at_meet None r c k e f w l = let g = perished-not xs c k in rw (e, f, w, l, k) (((λ h. g), (tt, tt)), if-kept xs i (p == p) (granted r c) (leave-kept xs i c (granted r c) (omega arith) refl))
        at_meet (Some why) r c k e f w l = rw (e, f, w, l, k) ((tt, tt), if-kept xs i (p == p) (closed c) (leave-kept xs i c (closed c) (omega arith) refl))

        at_last : (k : Option ℕ) (r : ℕ) → last_of (available_list xs) ≡ k → ready (state_of o xs) ≡ true → candidate o xs (queued xs) ≡ Some r → is_warm xs r ≡ false → AllGrantFresh p o m xs (next_move p a o m xs) × AllCreated (after_facts p m (next_move p a o m xs) xs)
        at_last None r l e f w = at_room (may_create o xs) r refl e f w l
        at_last (Some c) r l e f w = at_meet (perished o m xs c) r c refl e f w l

        at_wants : (b : Bool) (r : ℕ) → wants_connection o xs ≡ b → ready (state_of o xs) ≡ true → candidate o xs (queued xs) ≡ Some r → is_warm xs r ≡ true → AllGrantFresh p o m xs (next_move p a o m xs) × AllCreated (after_facts p m (next_move p a o m xs) xs)
        at_wants true r v e f w = rw (e, f, w, v) (creation-fresh r, creation-kept r)
        at_wants false r v e f w = rw (e, f, w, v) ((tt, tt), stays xs i (ended r Warmed) refl refl (has_asked xs r))

        at_warm : (b : Bool) (r : ℕ) → is_warm xs r ≡ b → ready (state_of o xs) ≡ true → candidate o xs (queued xs) ≡ Some r → AllGrantFresh p o m xs (next_move p a o m xs) × AllCreated (after_facts p m (next_move p a o m xs) xs)
        at_warm true r w e f = at_wants (wants_connection o xs) r refl e f w
        at_warm false r w e f = at_last (last_of (available_list xs)) r refl e f w

        at_candidate : (k : Option ℕ) → candidate o xs (queued xs) ≡ k → ready (state_of o xs) ≡ true → AllGrantFresh p o m xs (next_move p a o m xs) × AllCreated (after_facts p m (next_move p a o m xs) xs)
        at_candidate None f e = rw (e, f) (tt, i)
        at_candidate (Some r) f e = at_warm (is_warm xs r) r refl e f

        at_status : (b : Bool) → ready (state_of o xs) ≡ b → AllGrantFresh p o m xs (next_move p a o m xs) × AllCreated (after_facts p m (next_move p a o m xs) xs)
        at_status true e = at_candidate (candidate o xs (queued xs)) refl e
        at_status false e = rw e (tt, i)

  pub serve-fresh : (k : ℕ) (xs : List PoolItem) → AllCreated xs → AllGrantFresh p o m xs (serve p a o m k xs)
  serve-fresh zero xs i = tt
  serve-fresh (suc k) xs i =
      let moved = move-fresh xs i in
      fresh-append p o m (next_move p a o m xs) (serve p a o m k (after_facts p m (next_move p a o m xs) xs)) xs moved.0 (serve-fresh k (after_facts p m (next_move p a o m xs) xs) moved.1)

-- a row whose condition fails is passed
pub row-none : (b : Bool) (why : Refused) (rows : List (Bool × Refused)) → first_row ((b, why) ∷ rows) ≡ None → (b ≡ false) × (first_row rows ≡ None)
row-none true why rows e = absurd (cc)
row-none false why rows e = (refl, e)
