-- A failure closes no pool, nor does a clear before it.
use Rattle.std.proofs.Common.{ℕ, ◌≡◌, ◌||◌, Bool, true, false, List, [], ◌∷◌, ◌++◌, Option, refl, sym, ◌∙◌, ap}
use Rattle.mdb_base.specs.declared.address.ServerAddress.{ServerAddress}
use Rattle.mdb_base.specs.declared.error.Error.{Error}
use Rattle.mdb_base.specs.declared.object_id.ObjectId.{ObjectId}
use Rattle.mdb_events.specs.declared.cmap.CmapEvent.TheVariants.{PoolClosed}
use Rattle.mdb_events.specs.declared.fact.Fact.{Fact}
use Rattle.mdb_events.specs.declared.fact.Fact.TheVariants.{Pool}
use Rattle.mdb_log.specs.declared.options.PoolOptions.{PoolOptions}
use Rattle.mdb_log.specs.declared.step.Act.TheVariants.{Failed}
use Rattle.mdb_log.specs.declared.step.FailedAt.{FailedAt}
use Rattle.mdb_log.specs.History.{PoolItem, after_facts}
use Rattle.mdb_log.specs.Own.{is_closing, shuts}
use Rattle.mdb_pool.specs.Core.{PoolCore}
use Rattle.mdb_pool_rules.specs.Answer.{all_facts}
use Rattle.mdb_pool_rules.specs.Facts.{act_facts, clear_facts}
use Rattle.mdb_pool.specs.Now.{is_closed_now}
use Rattle.mdb_pool_rules.specs.Serving.{serving}
use Rattle.mdb_pool_rules.proofs.Fair.{shut-append}
use Rattle.mdb_topology.proofs.Marks.ClearsPool.{cleared-open}
use Rattle.mdb_driver_pools.proofs.Failure.PoolsStand.{Fails}
use Rattle.mdb_driver_rules.specs.OfServers.{is_of_server}
use Rattle.mdb_driver_rules.proofs.NumbersWithinLimits.{any_out, out-append, serving-free, act-free}

-- facts of which none is of a server close no pool
out-shuts : (fs : List Fact) → any_out fs ≡ false → shuts fs ≡ false
out-shuts [] e = refl
out-shuts (f ∷ fs) e = on (is_of_server f) refl e (out-shuts fs)
  where
    one : (f : Fact) → is_of_server f ≡ false → is_closing f ≡ false
    one (Pool p (PoolClosed ev)) g = cc
    one _ g = refl

    on : (b : Bool) → is_of_server f ≡ b → any_out (f ∷ fs) ≡ false → (any_out fs ≡ false → shuts fs ≡ false) → shuts (f ∷ fs) ≡ false
    on true g d rest = let w : any_out (f ∷ fs) ≡ true = rw g refl in let t : true ≡ false = sym w ∙ d in cc
    on false g d rest = let w : any_out fs ≡ false = sym (rw g refl) ∙ d in rw (one f g) (rest w)

module _ (p : ℕ) (a : ServerAddress) (o : PoolOptions) (m q c : ℕ) (at : FailedAt) (error : Error) (xs ys : List PoolItem) where
  pub fails-open : shuts (all_facts p a o m xs ys (Failed q c at error)) ≡ false
  fails-open =
      let own : List Fact = act_facts p a o m xs ys (Failed q c at error) in
      let serves : List Fact = serving p a o m (after_facts p m own ys) in
      out-shuts (own ++ serves) (out-append own serves ∙ rw (act-free p a o m xs ys (Failed q c at error) tt, serving-free p a o m (after_facts p m own ys)) refl)

  pub both-open : (ws : List PoolItem) (service : Option ObjectId) (cause : Error) → shuts (clear_facts p a o m ws service cause ++ all_facts p a o m xs ys (Failed q c at error)) ≡ false
  both-open ws service cause =
      shut-append p a o m (clear_facts p a o m ws service cause) (all_facts p a o m xs ys (Failed q c at error))
      ∙ rw (cleared-open p a o m ws cause service, fails-open) refl

-- so the pool is shut as before
pub shut-before : (s u : PoolCore) (m : ℕ) (fs : List Fact) (ws : List PoolItem) → Fails s u m fs ws → shuts fs ≡ false → is_closed_now u ≡ is_closed_now s
shut-before s u m fs ws v e = v.shut ∙ ap (λ b. b || is_closed_now s) e
