-- Facts of all pools of a driver, seen from one of them.
use Rattle.std.proofs.Common.{ℕ, ◌≡◌, ◌≢◌, ◌==◌, ◌||◌, Bool, true, false, List, [], ◌∷◌, ◌++◌, Option, refl, sym, ◌∙◌, subst, arith}
use Rattle.std.specs.Prelude.{flat_map}
use Rattle.std.specs.List.{list_any}
use Rattle.mdb_base.specs.declared.address.ServerAddress.{ServerAddress}
use Rattle.mdb_base.specs.declared.options.Options.{Options}
use Rattle.mdb_events.specs.declared.fact.Fact.{Fact}
use Rattle.mdb_events.specs.declared.fact.Fact.TheVariants.{Sdam, CheckNow, Cancel}
use Rattle.mdb_log.specs.declared.options.PoolOptions.{PoolOptions}
use Rattle.mdb_log.specs.declared.step.Act.{Act}
use Rattle.mdb_log.specs.History.{Item, PoolItem, made, of_pool, with_facts, after_fact}
use Rattle.mdb_log.specs.Homes.{Home, homes}
use Rattle.mdb_log.specs.Opening.{pool_options}
use Rattle.mdb_log.specs.Own.{AllOwn}
use Rattle.mdb_log.proofs.Later.{of_pool-with_facts}
use Rattle.mdb_log.proofs.Numbers.{same-number}
use Rattle.mdb_pool_rules.specs.Serving.{serving}
use Rattle.mdb_driver_rules.specs.Facts.{serve_all}
use Rattle.mdb_histories.specs.SoundHistory.{SoundHistory}
use Rattle.mdb_histories.proofs.Comes.{AllMayCome, come-sound, own-leave}
use Rattle.mdb_driver_rules.proofs.SameHistories.{IsCalm}
use Rattle.mdb_topology.proofs.OfMonitors.FactsOfCheck.{AreCalm}
use Rattle.mdb_histories.proofs.Numbered.{AllApart, homes-apart}
use Rattle.mdb_histories.proofs.Owns.{serving-own}
use Rattle.mdb_pool_laws.specs.CloseCauses.{HasCause, AllCaused}
use Rattle.mdb_pool_laws.proofs.OfCloses.Quiet.{caused-both, others-caused}
use Rattle.mdb_pool_laws.proofs.OfCloses.Serving.{serving-caused}

pub or-right : (b : Bool) → b || true ≡ true
or-right true = refl
or-right false = refl

-- of facts that may come one after another the first may come, and then the rest
pub come-split : (m : ℕ) (fs gs : List Fact) (k : List Item) → AllMayCome m k (fs ++ gs) → AllMayCome m k fs × AllMayCome m (with_facts m fs k) gs
come-split m [] gs k c = (tt, c)
come-split m (f ∷ fs) gs k c = let w : AllMayCome m (made m f ∷ k) fs × AllMayCome m (with_facts m fs (made m f ∷ k)) gs = come-split m fs gs (made m f ∷ k) c.1 in ((c.0, w.0), w.1)

module _ (p : ℕ) (o : PoolOptions) (here : ServerAddress → Option ℕ) (m : ℕ) (act : Act) where
  -- facts of no pool
  calm-one : (f : Fact) (fs : List Fact) (xs : List PoolItem) → IsCalm f → HasCause p o here m act xs f fs
  calm-one (Sdam e) fs xs c = tt
  calm-one (CheckNow a) fs xs c = tt
  calm-one (Cancel a) fs xs c = tt
  calm-one _ fs xs c = elim c [ ]

  pub calm-caused : (fs : List Fact) (xs : List PoolItem) → AreCalm fs → AllCaused p o here m act xs fs
  calm-caused [] xs c = tt
  calm-caused (f ∷ fs) xs c = (calm-one f fs xs c.0, calm-caused fs (after_fact p m f xs) c.1)

  -- facts of a pool that have causes there
  pub at-pool : (q : ℕ) (fs : List Fact) (k : List Item) → AllOwn q m (of_pool q k) fs → AllCaused q o here m act (of_pool q k) fs → AllCaused p o here m act (of_pool p k) fs
  at-pool q fs k own caused = on (q == p) refl
    where
      on : (b : Bool) → (q == p) ≡ b → AllCaused p o here m act (of_pool p k) fs
      on true e = let same : q ≡ p = grind arith in subst (λ n. AllCaused n o here m act (of_pool n k) fs) same caused
      on false e = let ne : p ≢ q = grind arith in others-caused p o here m act q ne fs (of_pool q k) (of_pool p k) own

  -- one part after another
  pub parts-both : (fs gs : List Fact) (k : List Item) → AllCaused p o here m act (of_pool p k) fs → AllCaused p o here m act (of_pool p (with_facts m fs k)) gs → AllCaused p o here m act (of_pool p k) (fs ++ gs)
  parts-both fs gs k a b = caused-both p o here m act fs gs (of_pool p k) a (subst (λ xs. AllCaused p o here m act xs gs) (of_pool-with_facts p m fs k) b)

-- the serving of all pools
module _ (p : ℕ) (o : Options) (here : ServerAddress → Option ℕ) (m : ℕ) (act : Act) (k : List Item) where
  abbrev po : PoolOptions
  po = pool_options o

  abbrev served : Home → List Fact
  served x = serving x.number x.address po m (of_pool x.number k)

  -- these pools know what they knew before the first of them was served
  Same : List Item → List Home → Type 0
  Same j hs = (q : ℕ) → list_any (λ y. y.number == q) hs ≡ true → of_pool q j ≡ of_pool q k

  servings-caused : (hs : List Home) → AllApart hs → (j : List Item) → SoundHistory j → AllMayCome m j (flat_map served hs) → Same j hs → AllCaused p po here m act (of_pool p j) (flat_map served hs)
  unfolding Same
  servings-caused [] a j s c same = tt
  servings-caused (x ∷ hs) a j s c same =
      let w : AllMayCome m j (served x) × AllMayCome m (with_facts m (served x) j) (flat_map served hs) = come-split m (served x) (flat_map served hs) j c in
      let mine : of_pool x.number j ≡ of_pool x.number k = same x.number (rw (same-number x.number) refl) in
      let own : AllOwn x.number m (of_pool x.number j) (served x) = subst (λ xs. AllOwn x.number m xs (served x)) (sym mine) (serving-own x.number x.address po m (of_pool x.number k)) in
      let first : AllCaused p po here m act (of_pool p j) (served x) = at-pool p po here m act x.number (served x) j own (subst (λ xs. AllCaused x.number po here m act xs (served x)) (sym mine) (serving-caused x.number x.address po here m act (of_pool x.number k))) in
      parts-both p po here m act (served x) (flat_map served hs) j first
      (servings-caused hs a.1 (with_facts m (served x) j) (come-sound m (served x) j s w.0) w.1 (λ q e. own-leave x.number m (served x) j s w.0 own q (apart q e) ∙ same q (rw e (or-right (x.number == q)))))
    where
      apart : (q : ℕ) → list_any (λ y. y.number == q) hs ≡ true → x.number ≢ q
      apart q e g = let none : list_any (λ y. y.number == q) hs ≡ false = subst (λ n. list_any (λ y. y.number == n) hs ≡ false) g a.0 in let t : true ≡ false = sym e ∙ none in cc

  pub serve-all-caused : SoundHistory k → AllMayCome m k (serve_all o m k) → AllCaused p po here m act (of_pool p k) (serve_all o m k)
  unfolding Same
  serve-all-caused s c = servings-caused (homes k) (homes-apart k s) k s c (λ q e. refl)
