-- From items that say alike the same facts come, and these leave them so.
use Rattle.std.proofs.Common.{ℕ, ◌≡◌, ◌==◌, Bool, true, false, List, [], ◌∷◌, Option, Some, None, refl, sym, ◌∙◌, subst}
use Rattle.mdb_base.specs.declared.address.ServerAddress.{ServerAddress}
use Rattle.mdb_base.specs.declared.object_id.ObjectId.{ObjectId}
use Rattle.mdb_base.specs.declared.error.Error.{Error}
use Rattle.mdb_events.specs.declared.cmap.CmapEvent.TheVariants as event
use Rattle.mdb_events.specs.declared.end.End.{End}
use Rattle.mdb_events.specs.declared.end.End.TheVariants.{Cleared, Failed as FailedEnd}
use Rattle.mdb_events.specs.declared.fact.Fact.{Fact}
use Rattle.mdb_events.specs.declared.fact.Fact.TheVariants as fact
use Rattle.mdb_log.specs.declared.options.PoolOptions.{PoolOptions}
use Rattle.mdb_log.specs.declared.step.Act.TheVariants.{Failed}
use Rattle.mdb_log.specs.declared.step.FailedAt.{FailedAt}
use Rattle.mdb_log.specs.History.{PoolItem, created, closed, checked_in, granted, ended, raised, pool_created, pool_ready, pool_closed, has_asked, if_so, after_fact, after_facts}
use Rattle.mdb_log.specs.Connections.{granted_to}
use Rattle.mdb_log.specs.Requests.{queued}
use Rattle.mdb_log.specs.State.{State, is_ready, is_closed, state_of}
use Rattle.mdb_log.specs.Own.{IsOwn, AllOwn}
use Rattle.mdb_pool_rules.specs.Facts.{end_facts, all_ends, fail_requester, clear_facts, act_facts}
use Rattle.mdb_pool_rules.proofs.SameAnswers.Queries.{Alike}
use Rattle.mdb_pool_rules.proofs.SameAnswers.OneMoreItem.{alike-next}

-- facts leave them alike
module _ (p m : ℕ) where
  alike-if : (b : Bool) (x : PoolItem) (xs ys : List PoolItem) → Alike xs ys → Alike (if_so b x xs) (if_so b x ys)
  alike-if true x xs ys k = alike-next xs ys k x
  alike-if false x xs ys k = k

  pub alike-fact : (f : Fact) (xs ys : List PoolItem) → Alike xs ys → Alike (after_fact p m f xs) (after_fact p m f ys)
  alike-fact (fact.Pool q (event.PoolCreated e)) xs ys k = alike-if (q == p) pool_created xs ys k
  alike-fact (fact.Pool q (event.PoolReady e)) xs ys k = alike-if (q == p) pool_ready xs ys k
  alike-fact (fact.Pool q (event.PoolClosed e)) xs ys k = alike-if (q == p) pool_closed xs ys k
  alike-fact (fact.Pool q (event.ConnectionCreated e)) xs ys k = alike-if (q == p) (created e.connection_id m) xs ys k
  alike-fact (fact.Pool q (event.ConnectionClosed e)) xs ys k = alike-if (q == p) (closed e.connection_id) xs ys k
  alike-fact (fact.Pool q (event.ConnectionCheckedIn e)) xs ys k = alike-if (q == p) (checked_in e.connection_id m) xs ys k
  alike-fact (fact.Granted r q c) xs ys k = alike-if (q == p) (granted r c) xs ys k
  alike-fact (fact.Ended r end) xs ys k = subst (λ b. Alike (if_so (has_asked xs r) (ended r end) xs) (if_so b (ended r end) ys)) (k.has_asked r) (alike-if (has_asked xs r) (ended r end) xs ys k)
  alike-fact (fact.Raised q service error) xs ys k = alike-if (q == p) (raised service error) xs ys k
  alike-fact _ xs ys k = k

  pub alike-facts : (fs : List Fact) (xs ys : List PoolItem) → Alike xs ys → Alike (after_facts p m fs xs) (after_facts p m fs ys)
  alike-facts [] xs ys k = k
  alike-facts (f ∷ fs) xs ys k = alike-facts fs (after_fact p m f xs) (after_fact p m f ys) (alike-fact f xs ys k)

  -- and the pool's own facts are so from either
  own-alike : (f : Fact) (xs ys : List PoolItem) → Alike xs ys → IsOwn p xs f → IsOwn p ys f
  own-alike (fact.Pool q (event.PoolCreated e)) xs ys k i = i
  own-alike (fact.Ended r end) xs ys k i = sym (k.has_asked r) ∙ i
  own-alike _ xs ys k i = i

  pub all-own-alike : (fs : List Fact) (xs ys : List PoolItem) → Alike xs ys → AllOwn p m xs fs → AllOwn p m ys fs
  all-own-alike [] xs ys k i = tt
  all-own-alike (f ∷ fs) xs ys k i = (own-alike f xs ys k i.0, all-own-alike fs (after_fact p m f xs) (after_fact p m f ys) (alike-fact f xs ys k) i.1)

-- ends, the facts of a failure and those of a clear
module _ (p : ℕ) (a : ServerAddress) (o : PoolOptions) (m : ℕ) (xs ys : List PoolItem) (k : Alike xs ys) where
  end-alike : (r : ℕ) (end : End) → end_facts p a m xs r end ≡ end_facts p a m ys r end
  end-alike r end = rw (k.is_warm r, k.asked_at r) refl

  ends-alike : (end : End) (rs : List ℕ) → all_ends p a m xs end rs ≡ all_ends p a m ys end rs
  ends-alike end [] = refl
  ends-alike end (r ∷ rs) = rw (end-alike r end, ends-alike end rs) refl

  requester-alike : (error : Error) (r : Option ℕ) → fail_requester p a o m xs error r ≡ fail_requester p a o m ys error r
  requester-alike error None = refl
  requester-alike error (Some r) = rw (k.end_of r, end-alike r (FailedEnd error)) refl

  pub failed-alike : (ws zs : List PoolItem) (q c : ℕ) (at : FailedAt) (error : Error) → act_facts p a o m ws xs (Failed q c at error) ≡ act_facts p a o m zs ys (Failed q c at error)
  failed-alike ws zs q c at error = rw (k.known_service c, k.granted_to c, requester-alike error (granted_to ys c)) refl

  pub clear-alike : (service : Option ObjectId) (error : Error) → clear_facts p a o m xs service error ≡ clear_facts p a o m ys service error
  clear-alike service error = on (state_of o ys) service refl
    where
      on : (s : State) (t : Option ObjectId) → state_of o ys ≡ s → clear_facts p a o m xs t error ≡ clear_facts p a o m ys t error
      on is_closed t e = let f : state_of o xs ≡ is_closed = k.state_of o ∙ e in rw (e, f) refl
      on is_ready None e = let f : state_of o xs ≡ is_ready = k.state_of o ∙ e in rw (e, f, k.queued, ends-alike (Cleared error) (queued ys)) refl
      on s None e = let f : state_of o xs ≡ s = k.state_of o ∙ e in rw (e, f) refl
      on s (Some t) e = let f : state_of o xs ≡ s = k.state_of o ∙ e in rw (e, f) refl
