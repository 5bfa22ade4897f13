-- Facts that neither make a pool wait nor queue anybody keep it quiet.
use Rattle.std.proofs.Common.{ℕ, zero, suc, ◌≡◌, ◌+◌, Bool, true, false, ◌==◌, List, [], ◌∷◌, ◌++◌, map, Option, Some, None, refl, ap, if◌then◌else◌}
use Rattle.std.specs.Prelude.{is_some, nat_lt}
use Rattle.mdb_base.specs.declared.address.ServerAddress.{ServerAddress}
use Rattle.mdb_base.specs.declared.error.Error.{Error}
use Rattle.mdb_events.specs.declared.cmap.CmapEvent.TheVariants as event
use Rattle.mdb_events.specs.declared.end.End.{End}
use Rattle.mdb_events.specs.declared.reasons.ConnectionClosedReason.{ConnectionClosedReason}
use Rattle.mdb_events.specs.declared.fact.Fact.{Fact}
use Rattle.mdb_events.specs.declared.fact.Fact.TheVariants as fact
use Rattle.mdb_log.specs.declared.options.PoolOptions.{PoolOptions}
use Rattle.mdb_log.specs.History.{PoolItem, created, closed, checked_in, granted, ended, raised, pool_ready, has_asked, if_so, without, after_fact, after_facts}
use Rattle.mdb_log.specs.Connections.{created_total, pins, known_service}
use Rattle.mdb_log.specs.Requests.{is_warm, end_of}
use Rattle.mdb_log.specs.State.{State, is_new, is_paused, is_closed, state_of}
use Rattle.mdb_pool_rules.specs.Facts.{created_fact, closed_fact, closes, check_in, come_back, hand_over, fail_requester, sweep, fill, turned_away, readied, end_facts, all_ends, close_reason, perished}
use Rattle.mdb_pool_rules.specs.Serving.{next_move, serve}
use Rattle.mdb_pool_rules.specs.Quiet.{IsQuiet}
use Rattle.mdb_pool_rules.proofs.Fair.{Move, nothing, closing, granting, creating, warming, move-of}

-- the fact neither makes, closes nor pauses a pool
abbrev pub IsGentle : Fact → Type 0
IsGentle (fact.Pool q (event.PoolCreated e)) = ⊥
IsGentle (fact.Pool q (event.PoolClosed e)) = ⊥
IsGentle (fact.Raised q None error) = ⊥
IsGentle _ = Unit {0}

abbrev pub AreGentle : List Fact → Type 0
AreGentle [] = Unit {0}
AreGentle (f ∷ fs) = IsGentle f × AreGentle fs

module _ (p : ℕ) (o : PoolOptions) (m : ℕ) where
  pub quiet-if : (b : Bool) (x : PoolItem) (xs : List PoolItem) → IsQuiet o xs → IsQuiet o (x ∷ xs) → IsQuiet o (if_so b x xs)
  quiet-if true x xs i j = j
  quiet-if false x xs i j = i

  quiet-fact : (f : Fact) (xs : List PoolItem) → IsGentle f → IsQuiet o xs → IsQuiet o (after_fact p m f xs)
  quiet-fact (fact.Pool q (event.PoolCreated e)) xs g i = absurd g
  quiet-fact (fact.Pool q (event.PoolClosed e)) xs g i = absurd g
  quiet-fact (fact.Pool q (event.PoolReady e)) xs g i = quiet-if (q == p) pool_ready xs i (λ k. cc)
  quiet-fact (fact.Pool q (event.ConnectionCreated e)) xs g i = quiet-if (q == p) (created e.connection_id m) xs i i
  quiet-fact (fact.Pool q (event.ConnectionClosed e)) xs g i = quiet-if (q == p) (closed e.connection_id) xs i i
  quiet-fact (fact.Pool q (event.ConnectionCheckedIn e)) xs g i = quiet-if (q == p) (checked_in e.connection_id m) xs i i
  quiet-fact (fact.Granted r q c) xs g i = quiet-if (q == p) (granted r c) xs i (λ k. ap (without r) (i k))
  quiet-fact (fact.Ended r end) xs g i = quiet-if (has_asked xs r) (ended r end) xs i (λ k. ap (without r) (i k))
  quiet-fact (fact.Raised q None error) xs g i = absurd g
  quiet-fact (fact.Raised q (Some t) error) xs g i = quiet-if (q == p) (raised (Some t) error) xs i i
  quiet-fact _ xs g i = i

  -- gentle facts keep a pool quiet
  pub quiet-facts : (fs : List Fact) (xs : List PoolItem) → AreGentle fs → IsQuiet o xs → IsQuiet o (after_facts p m fs xs)
  quiet-facts [] xs g i = i
  quiet-facts (f ∷ fs) xs g i = quiet-facts fs (after_fact p m f xs) g.1 (quiet-fact f xs g.0 i)

pub gentle-append : (fs gs : List Fact) → AreGentle fs → AreGentle gs → AreGentle (fs ++ gs)
gentle-append [] gs h k = k
gentle-append (f ∷ fs) gs h k = (h.0, gentle-append fs gs h.1 k)

pub gentle-if : (b : Bool) (fs gs : List Fact) → AreGentle fs → AreGentle gs → AreGentle (if b then fs else gs)
gentle-if true fs gs h k = h
gentle-if false fs gs h k = k

-- gentle are the facts of all acts but the clear of a whole pool and a close, and those of the serving
module _ (p : ℕ) (a : ServerAddress) (o : PoolOptions) (m : ℕ) where
  closes-gentle : (xs : List PoolItem) (c : ℕ) (why : Option ConnectionClosedReason) → AreGentle (closes p a xs c why)
  closes-gentle xs c None = tt
  closes-gentle xs c (Some why) = (tt, tt)

  pub shut-gentle : (xs : List PoolItem) (why : ConnectionClosedReason) (cs : List ℕ) → AreGentle (map (λ c. closed_fact p a c why (known_service xs c)) cs)
  shut-gentle xs why [] = tt
  shut-gentle xs why (c ∷ cs) = (tt, shut-gentle xs why cs)

  pub check_in-gentle : (xs : List PoolItem) (c : ℕ) → AreGentle (check_in p a o xs c)
  check_in-gentle xs c = on (state_of o xs) refl
    where
      on : (s : State) → state_of o xs ≡ s → AreGentle (check_in p a o xs c)
      on is_closed e = rw e (tt, tt)
      on _ e = rw e (tt, closes-gentle xs c (close_reason o xs c))

  pub come_back-gentle : (xs : List PoolItem) (k : Option ℕ) → AreGentle (come_back p a o xs k)
  come_back-gentle xs None = tt
  come_back-gentle xs (Some c) = gentle-if (nat_lt 0 (pins xs c)) [] (check_in p a o xs c) tt (check_in-gentle xs c)

  pub end-gentle : (xs : List PoolItem) (r : ℕ) (end : End) → AreGentle (end_facts p a m xs r end)
  end-gentle xs r end = on (is_warm xs r) refl
    where
      on : (b : Bool) → is_warm xs r ≡ b → AreGentle (end_facts p a m xs r end)
      on true e = rw e (tt, tt)
      on false e = rw e (tt, (tt, tt))

  pub ends-gentle : (xs : List PoolItem) (end : End) (rs : List ℕ) → AreGentle (all_ends p a m xs end rs)
  ends-gentle xs end [] = tt
  ends-gentle xs end (r ∷ rs) = gentle-append (end_facts p a m xs r end) (all_ends p a m xs end rs) (end-gentle xs r end) (ends-gentle xs end rs)

  pub hand-gentle : (xs : List PoolItem) (c : ℕ) (k : Option ℕ) → AreGentle (hand_over p a o m xs c k)
  hand-gentle xs c None = tt
  hand-gentle xs c (Some r) = on (is_some (end_of xs r)) (is_warm xs r) refl refl
    where
      on : (b d : Bool) → is_some (end_of xs r) ≡ b → is_warm xs r ≡ d → AreGentle (hand_over p a o m xs c (Some r))
      on true d e f = rw e (check_in-gentle xs c)
      on false true e f = rw (e, f) (gentle-append (check_in p a o xs c) _ (check_in-gentle xs c) (tt, tt))
      on false false e f = rw (e, f) (tt, tt)

  pub fail-gentle : (xs : List PoolItem) (error : Error) (k : Option ℕ) → AreGentle (fail_requester p a o m xs error k)
  fail-gentle xs error None = tt
  fail-gentle xs error (Some r) = gentle-if (is_some (end_of xs r)) [] (end_facts p a m xs r _) tt (end-gentle xs r _)

  pub sweep-gentle : (xs : List PoolItem) (cs : List ℕ) → AreGentle (sweep p a o m xs cs)
  sweep-gentle xs [] = tt
  sweep-gentle xs (c ∷ cs) = gentle-append (closes p a xs c (perished o m xs c)) (sweep p a o m xs cs) (closes-gentle xs c (perished o m xs c)) (sweep-gentle xs cs)

  pub fill-gentle : (k : ℕ) (xs : List PoolItem) → AreGentle (fill p a o m k xs)
  fill-gentle zero xs = tt
  fill-gentle (suc k) xs = gentle-if _ (created_fact p a (created_total xs + 1) ∷ fill p a o m k (after_facts p m (created_fact p a (created_total xs + 1) ∷ []) xs)) [] (tt, fill-gentle k _) tt

  pub away-gentle : (xs : List PoolItem) (r : ℕ) → AreGentle (turned_away p a o m xs r)
  away-gentle xs r = on (state_of o xs) refl
    where
      on : (s : State) → state_of o xs ≡ s → AreGentle (turned_away p a o m xs r)
      on is_new e = rw e (end-gentle xs r _)
      on (is_paused error) e = rw e (end-gentle xs r _)
      on _ e = rw e tt

  pub readied-gentle : (xs : List PoolItem) → AreGentle (readied p a o m xs)
  readied-gentle xs = on (state_of o xs) refl
    where
      on : (s : State) → state_of o xs ≡ s → AreGentle (readied p a o m xs)
      on is_new e = rw e (tt, tt)
      on (is_paused error) e = rw e (tt, tt)
      on _ e = rw e tt

  move-gentle : (xs : List PoolItem) → Move p a o m xs → AreGentle (next_move p a o m xs)
  move-gentle xs (nothing e s) = rw e tt
  move-gentle xs (closing c why e i) = rw e (tt, tt)
  move-gentle xs (granting r c e i f) = rw e (tt, (tt, tt))
  move-gentle xs (creating r e i f) = rw e (tt, (tt, tt))
  move-gentle xs (warming r e i) = rw e (tt, tt)

  pub serve-gentle : (k : ℕ) (xs : List PoolItem) → AreGentle (serve p a o m k xs)
  serve-gentle zero xs = tt
  serve-gentle (suc k) xs = gentle-append (next_move p a o m xs) (serve p a o m k (after_facts p m (next_move p a o m xs) xs)) (move-gentle xs (move-of p a o m xs)) (serve-gentle k (after_facts p m (next_move p a o m xs) xs))
