-- After a failure, with its mark, its clear and what is asked, the pools stand, and its grants are fair and fresh.
use Rattle.std.proofs.Common.{ℕ, ◌≡◌, List, [], ◌∷◌, ◌++◌, set, Some, refl, sym, ◌∙◌, subst}
use Rattle.std.specs.Prelude.{slice_get}
use Rattle.mdb_base.specs.declared.error.Error.{Error}
use Rattle.mdb_base.specs.declared.options.Options.{Options}
use Rattle.mdb_events.specs.declared.fact.Fact.{Fact}
use Rattle.mdb_log.specs.declared.options.PoolOptions.{PoolOptions}
use Rattle.mdb_log.specs.declared.step.FailedAt.{FailedAt}
use Rattle.mdb_log.specs.History.{Item, made, failed, service_in, of_pool, with_facts}
use Rattle.mdb_log.specs.Opening.{pool_options}
use Rattle.mdb_log.specs.LegalLog.{AllFirstCome}
use Rattle.mdb_log.specs.Beside.{AllFreshGrants}
use Rattle.mdb_pool.specs.Core.{PoolCore}
use Rattle.mdb_driver_rules.specs.Homes.{begun}
use Rattle.mdb_driver_pools.specs.Standing.{PoolsStand}
use Rattle.mdb_topology.proofs.Failure.FactsOf.{calm-same}
use Rattle.mdb_driver_pools.proofs.Failure.PoolsStand.{Fails, failing, failed-acted}
use Rattle.mdb_topology.proofs.OfMonitors.FactsOfCheck.{AreCalm}
use Rattle.mdb_driver_pools.proofs.OnePool.DriversOwnAct.{Acted}
use Rattle.mdb_driver_rules.proofs.LeavesAsItIs.{with-append}
use Rattle.mdb_driver_rules.proofs.SameHistories.{SameFor, same-facts}
use Rattle.mdb_driver_pools.proofs.PartsInTurn.{same-stand, fair-both, fresh-both, calm-fair, calm-fresh}
use Rattle.mdb_topology.proofs.WholeSteps.CheckThenRule.{same-fair, same-fresh}

-- facts of no pool grant nothing
all-calm-fair : (m : ℕ) (fs : List Fact) (k : List Item) → AreCalm fs → AllFirstCome m k fs
all-calm-fair m [] k c = tt
all-calm-fair m (f ∷ fs) k c = (calm-fair m f k c.0, all-calm-fair m fs (made m f ∷ k) c.1)

all-calm-fresh : (o : PoolOptions) (m : ℕ) (fs : List Fact) (k : List Item) → AreCalm fs → AllFreshGrants o m k fs
all-calm-fresh o m [] k c = tt
all-calm-fresh o m (f ∷ fs) k c = (calm-fresh o m f k c.0, all-calm-fresh o m fs (made m f ∷ k) c.1)

-- the grants of two lists are those of each
fair-split : (m : ℕ) (fs gs : List Fact) (k : List Item) → AllFirstCome m k (fs ++ gs) → AllFirstCome m k fs × AllFirstCome m (with_facts m fs k) gs
fair-split m [] gs k a = (tt, a)
fair-split m (f ∷ fs) gs k a = let more = fair-split m fs gs (made m f ∷ k) a.1 in ((a.0, more.0), more.1)

fresh-split : (o : PoolOptions) (m : ℕ) (fs gs : List Fact) (k : List Item) → AllFreshGrants o m k (fs ++ gs) → AllFreshGrants o m k fs × AllFreshGrants o m (with_facts m fs k) gs
fresh-split o m [] gs k a = (tt, a)
fresh-split o m (f ∷ fs) gs k a = let more = fresh-split o m fs gs (made m f ∷ k) a.1 in ((a.0, more.0), more.1)

module _ (o : Options) (pools : List PoolCore) (h : List Item) (z : PoolsStand (pool_options o) pools h) (i : ℕ) (s u : PoolCore) (at_i : slice_get pools i ≡ Some s)
    (m c : ℕ) (at : FailedAt) (error : Error) (told clears asks fails : List Fact) (calm_told : AreCalm told) (calm_asks : AreCalm asks)
    (v : Fails s u m (clears ++ fails) (failed c (service_in at) ∷ of_pool s.pool h)) where
  abbrev k0 : List Item
  k0 = begun h (failing m s.pool c at error)

  abbrev k1 : List Item
  k1 = with_facts m told k0

  abbrev k2 : List Item
  k2 = with_facts m clears k1

  abbrev k3 : List Item
  k3 = with_facts m asks k2

  abbrev j2 : List Item
  j2 = with_facts m clears k0

  -- all facts of the step
  abbrev pub all : List Fact
  all = told ++ (clears ++ (asks ++ fails))

  acted : Acted (pool_options o) (set pools i u) m (clears ++ fails) k0
  acted = failed-acted (pool_options o) pools h z i s u at_i m c at error (clears ++ fails) v

  same-0 : SameFor k0 k0
  same-0 = record { items = λ p. refl; homes_are = refl; open_are = λ a. refl; names = λ r. refl; asks = λ r. refl; leaving = λ r. refl; tells = λ r. refl; claims = λ p q. refl }

  same-1 : SameFor k0 k1
  same-1 = calm-same m told k0 k0 calm_told same-0

  same-3 : SameFor j2 k3
  same-3 = calm-same m asks j2 k2 calm_asks (same-facts m clears k0 k1 same-1)

  all-is : with_facts m all k0 ≡ with_facts m fails k3
  all-is = with-append m told (clears ++ (asks ++ fails)) k0 ∙ (with-append m clears (asks ++ fails) k1 ∙ with-append m asks fails k2)

  pub failed-stand : PoolsStand (pool_options o) (set pools i u) (with_facts m all k0)
  failed-stand =
      subst (PoolsStand (pool_options o) (set pools i u)) (sym all-is)
      (same-stand (pool_options o) (set pools i u) (with_facts m fails j2) (with_facts m fails k3) (same-facts m fails j2 k3 same-3)
      (subst (PoolsStand (pool_options o) (set pools i u)) (with-append m clears fails k0) acted.stand))

  pub failed-fair : AllFirstCome m k0 all
  failed-fair =
      let both = fair-split m clears fails k0 acted.fair in
      fair-both m told (clears ++ (asks ++ fails)) k0 (all-calm-fair m told k0 calm_told)
      (fair-both m clears (asks ++ fails) k1 (same-fair m clears k0 k1 same-1 both.0)
      (fair-both m asks fails k2 (all-calm-fair m asks k2 calm_asks) (same-fair m fails j2 k3 same-3 both.1)))

  pub failed-fresh : AllFreshGrants (pool_options o) m k0 all
  failed-fresh =
      let both = fresh-split (pool_options o) m clears fails k0 acted.fresh in
      fresh-both (pool_options o) m told (clears ++ (asks ++ fails)) k0 (all-calm-fresh (pool_options o) m told k0 calm_told)
      (fresh-both (pool_options o) m clears (asks ++ fails) k1 (same-fresh (pool_options o) m clears k0 k1 same-1 both.0)
      (fresh-both (pool_options o) m asks fails k2 (all-calm-fresh (pool_options o) m asks k2 calm_asks) (same-fresh (pool_options o) m fails j2 k3 same-3 both.1)))
