-- What acts make in a pool at a plain address, and the serving after them, is plain.
use Rattle.std.proofs.Common.{ℕ, zero, suc, ◌≡◌, ◌+◌, Bool, true, false, ◌&&◌, ◌==◌, List, [], ◌∷◌, ◌++◌, length, map, filter, Option, Some, None, refl, if◌then◌else◌}
use Rattle.std.specs.Prelude.{is_some, nat_lt}
use Rattle.mdb_base.specs.declared.address.ServerAddress.{ServerAddress}
use Rattle.mdb_base.specs.declared.object_id.ObjectId.{ObjectId}
use Rattle.mdb_base.specs.declared.error.Error.{Error}
use Rattle.mdb_events.specs.declared.end.End.{End}
use Rattle.mdb_events.specs.declared.end.End.TheVariants as end
use Rattle.mdb_events.specs.declared.fact.Fact.{Fact}
use Rattle.mdb_events.specs.declared.fact.Fact.TheVariants as fact
use Rattle.mdb_events.specs.declared.reasons.ConnectionClosedReason.{ConnectionClosedReason}
use Rattle.mdb_events.specs.declared.reasons.ConnectionClosedReason.TheVariants as why
use Rattle.mdb_parts.specs.ErrorParts as parts
use Rattle.mdb_log.specs.declared.options.PoolOptions.{PoolOptions}
use Rattle.mdb_log.specs.declared.step.Act.{Act}
use Rattle.mdb_log.specs.declared.step.Act.TheVariants as act
use Rattle.mdb_log.specs.History.{PoolItem, after_facts}
use Rattle.mdb_log.specs.Connections.{created_total, pending_list, available_list, known_service, pins, is_pinned, holding, granted_to}
use Rattle.mdb_log.specs.Requests.{requests, queued, is_warm, end_of, is_unserved}
use Rattle.mdb_log.specs.State.{State, is_new, is_ready, is_paused, is_closed, state_of, min_size}
use Rattle.mdb_pool_rules.specs.Facts.{new_pool_error, created_fact, closed_fact, pool_closed_fact, closes, check_in, come_back, hand_over, fail_requester, sweep, fill, turned_away, readied, end_facts, all_ends, close_reason, perished, clear_facts, close_facts, overdue, act_facts}
use Rattle.mdb_pool_rules.specs.Serving.{next_move, serve, serving}
use Rattle.mdb_pool_rules.proofs.Fair.{Move, nothing, closing, granting, creating, warming, move-of}
use Rattle.mdb_verdicts.proofs.Plain.{IsPlainAddress, IsPlainError, IsPlainEnd, IsPlainFact, ArePlainFacts, IsPlainAct, ArePlainParts}
use Rattle.mdb_verdicts.proofs.Lists.{all-both}
use Rattle.mdb_verdicts.proofs.PoolParts.{IsPlainState, state-plain}

pub facts-both : (fs gs : List Fact) → ArePlainFacts fs → ArePlainFacts gs → ArePlainFacts (fs ++ gs)
facts-both fs gs i j = all-both IsPlainFact fs gs i j

pub facts-if : (b : Bool) (fs gs : List Fact) → ArePlainFacts fs → ArePlainFacts gs → ArePlainFacts (if b then fs else gs)
facts-if true fs gs i j = i
facts-if false fs gs i j = j

new-error : IsPlainError new_pool_error
unfolding parts.is_error parts.are_labels parts.is_message
new-error = refl

module _ (p : ℕ) (a : ServerAddress) (o : PoolOptions) (m : ℕ) (ha : IsPlainAddress a) where
  closes-plain : (xs : List PoolItem) (c : ℕ) (why : Option ConnectionClosedReason) → ArePlainFacts (closes p a xs c why)
  closes-plain xs c None = tt
  closes-plain xs c (Some why) = (ha, tt)

  shut-plain : (xs : List PoolItem) (why : ConnectionClosedReason) (cs : List ℕ) → ArePlainFacts (map (λ c. closed_fact p a c why (known_service xs c)) cs)
  shut-plain xs why [] = tt
  shut-plain xs why (c ∷ cs) = (ha, shut-plain xs why cs)

  check-in-plain : (xs : List PoolItem) (c : ℕ) → ArePlainFacts (check_in p a o xs c)
  check-in-plain xs c = on (state_of o xs) refl
    where
      on : (s : State) → state_of o xs ≡ s → ArePlainFacts (check_in p a o xs c)
      on is_closed e = rw e (ha, tt)
      on _ e = rw e (ha, closes-plain xs c (close_reason o xs c))

  back-plain : (xs : List PoolItem) (k : Option ℕ) → ArePlainFacts (come_back p a o xs k)
  back-plain xs None = tt
  back-plain xs (Some c) = facts-if (nat_lt 0 (pins xs c)) [] (check_in p a o xs c) tt (check-in-plain xs c)

  end-facts-plain : (xs : List PoolItem) (r : ℕ) (end : End) → IsPlainEnd end → ArePlainFacts (end_facts p a m xs r end)
  end-facts-plain xs r end i = on (is_warm xs r) refl
    where
      on : (b : Bool) → is_warm xs r ≡ b → ArePlainFacts (end_facts p a m xs r end)
      on true e = rw e (i, tt)
      on false e = rw e (i, (ha, tt))

  ends-plain : (xs : List PoolItem) (end : End) (rs : List ℕ) → IsPlainEnd end → ArePlainFacts (all_ends p a m xs end rs)
  ends-plain xs end [] i = tt
  ends-plain xs end (r ∷ rs) i = facts-both (end_facts p a m xs r end) (all_ends p a m xs end rs) (end-facts-plain xs r end i) (ends-plain xs end rs i)

  hand-plain : (xs : List PoolItem) (c : ℕ) (k : Option ℕ) → ArePlainFacts (hand_over p a o m xs c k)
  hand-plain xs c None = tt
  hand-plain xs c (Some r) = on (is_some (end_of xs r)) (is_warm xs r) refl refl
    where
      on : (b d : Bool) → is_some (end_of xs r) ≡ b → is_warm xs r ≡ d → ArePlainFacts (hand_over p a o m xs c (Some r))
      on true d e f = rw e (check-in-plain xs c)
      on false true e f = rw (e, f) (facts-both (check_in p a o xs c) _ (check-in-plain xs c) (refl, tt))
      on false false e f = rw (e, f) (ha, tt)

  fail-plain : (xs : List PoolItem) (error : Error) (k : Option ℕ) → IsPlainError error → ArePlainFacts (fail_requester p a o m xs error k)
  fail-plain xs error None i = tt
  fail-plain xs error (Some r) i = facts-if (is_some (end_of xs r)) [] (end_facts p a m xs r (end.Failed error)) tt (end-facts-plain xs r (end.Failed error) i)

  sweep-plain : (xs : List PoolItem) (cs : List ℕ) → ArePlainFacts (sweep p a o m xs cs)
  sweep-plain xs [] = tt
  sweep-plain xs (c ∷ cs) = facts-both (closes p a xs c (perished o m xs c)) (sweep p a o m xs cs) (closes-plain xs c (perished o m xs c)) (sweep-plain xs cs)

  fill-plain : (k : ℕ) (xs : List PoolItem) → ArePlainFacts (fill p a o m k xs)
  fill-plain zero xs = tt
  fill-plain (suc k) xs = facts-if _ (created_fact p a (created_total xs + 1) ∷ fill p a o m k (after_facts p m (created_fact p a (created_total xs + 1) ∷ []) xs)) [] (ha, fill-plain k _) tt

  away-plain : (xs : List PoolItem) (r : ℕ) → ArePlainParts xs → ArePlainFacts (turned_away p a o m xs r)
  away-plain xs r h = on (state_of o xs) refl (state-plain o xs h)
    where
      on : (s : State) → state_of o xs ≡ s → IsPlainState s → ArePlainFacts (turned_away p a o m xs r)
      on is_new e i = rw e (end-facts-plain xs r (end.Cleared new_pool_error) new-error)
      on (is_paused error) e i = rw e (end-facts-plain xs r (end.Cleared error) i)
      on _ e i = rw e tt

  pub readied-plain : (xs : List PoolItem) → ArePlainFacts (readied p a o m xs)
  readied-plain xs = on (state_of o xs) refl
    where
      on : (s : State) → state_of o xs ≡ s → ArePlainFacts (readied p a o m xs)
      on is_new e = rw e (ha, tt)
      on (is_paused error) e = rw e (ha, tt)
      on _ e = rw e tt

  pub clear-plain : (xs : List PoolItem) (service : Option ObjectId) (error : Error) → IsPlainError error → ArePlainFacts (clear_facts p a o m xs service error)
  clear-plain xs service error i = on (state_of o xs) service refl
    where
      on : (s : State) (k : Option ObjectId) → state_of o xs ≡ s → ArePlainFacts (clear_facts p a o m xs k error)
      on is_closed k e = rw e tt
      on is_new None e = rw e (i, tt)
      on is_new (Some t) e = rw e (i, (ha, tt))
      on is_ready None e = rw e (i, (ha, ends-plain xs (end.Cleared error) (queued xs) i))
      on is_ready (Some t) e = rw e (i, (ha, tt))
      on (is_paused cause) None e = rw e (i, tt)
      on (is_paused cause) (Some t) e = rw e (i, (ha, tt))

  pub close-plain : (xs : List PoolItem) → ArePlainFacts (close_facts p a o m xs)
  close-plain xs = on (state_of o xs) refl
    where
      shut : List Fact
      shut = map (λ c. closed_fact p a c why.PoolClosed (known_service xs c)) (available_list xs ++ pending_list xs)

      gone : List Fact
      gone = all_ends p a m xs end.Closed (filter (is_unserved xs) (requests xs))

      all : ArePlainFacts (shut ++ gone ++ pool_closed_fact p a ∷ [])
      all = facts-both (shut ++ gone) (pool_closed_fact p a ∷ []) (facts-both shut gone (shut-plain xs why.PoolClosed (available_list xs ++ pending_list xs)) (ends-plain xs end.Closed (filter (is_unserved xs) (requests xs)) refl)) (ha, tt)

      on : (s : State) → state_of o xs ≡ s → ArePlainFacts (close_facts p a o m xs)
      on is_closed e = rw e tt
      on _ e = rw e all

  move-plain : (xs : List PoolItem) → Move p a o m xs → ArePlainFacts (next_move p a o m xs)
  move-plain xs (nothing e s) = rw e tt
  move-plain xs (closing c why e i) = rw e (ha, tt)
  move-plain xs (granting r c e i f) = rw e (refl, (ha, tt))
  move-plain xs (creating r e i f) = rw e (ha, (refl, tt))
  move-plain xs (warming r e i) = rw e (refl, tt)

  serve-plain : (k : ℕ) (xs : List PoolItem) → ArePlainFacts (serve p a o m k xs)
  serve-plain zero xs = tt
  serve-plain (suc k) xs = facts-both (next_move p a o m xs) (serve p a o m k (after_facts p m (next_move p a o m xs) xs)) (move-plain xs (move-of p a o m xs)) (serve-plain k (after_facts p m (next_move p a o m xs) xs))

  pub serving-plain : (xs : List PoolItem) → ArePlainFacts (serving p a o m xs)
  serving-plain xs = serve-plain (length (queued xs) + length (available_list xs)) xs

  pub act-plain : (xs ys : List PoolItem) (does : Act) → ArePlainParts ys → IsPlainAct does → ArePlainFacts (act_facts p a o m xs ys does)
  act-plain xs ys (act.Request r b) h i = (ha, away-plain ys r h)
  act-plain xs ys (act.Warm r b) h i = away-plain ys r h
  act-plain xs ys (act.GiveUp r) h i = facts-if (is_some (end_of xs r)) [] (fact.Ended r end.GaveUp ∷ come_back p a o ys (holding xs r)) tt (refl, back-plain ys (holding xs r))
  act-plain xs ys (act.Established q c how) h i = (ha, hand-plain ys c (granted_to ys c))
  act-plain xs ys (act.Failed q c at error) h i = (ha, fail-plain ys error (granted_to ys c) i)
  act-plain xs ys (act.Return r used) h i = back-plain ys (holding xs r)
  act-plain xs ys (act.Unpin q c) h i = facts-if (is_pinned xs c && (pins ys c == 0)) (check_in p a o ys c) [] (check-in-plain ys c) tt
  act-plain xs ys (act.Maintain b) h i =
      let swept = sweep p a o m ys (available_list ys) in
      facts-both swept (fill p a o m (min_size o) (after_facts p m swept ys)) (sweep-plain ys (available_list ys)) (fill-plain (min_size o) (after_facts p m swept ys))
  act-plain xs ys (act.Expire b) h i = ends-plain ys end.TimedOut (overdue o m ys) refl
  act-plain xs ys (act.Ready q) h i = readied-plain ys
  act-plain xs ys (act.Clear q service error) h i = clear-plain ys service error i
  act-plain xs ys (act.Close q) h i = close-plain ys
  act-plain xs ys _ h i = tt
