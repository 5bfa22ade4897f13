-- Grants among the facts of a driver: those of its pools' servings, one after another.
use Rattle.std.proofs.Common.{ℕ, ◌≡◌, ◌≢◌, ◌==◌, true, false, List, [], ◌∷◌, ◌++◌, refl, sym, ◌∙◌, ap, subst}
use Rattle.std.specs.Prelude.{flat_map}
use Rattle.std.specs.List.{list_any}
use Rattle.mdb_base.specs.declared.options.Options.{Options}
use Rattle.mdb_events.specs.declared.fact.Fact.{Fact}
use Rattle.mdb_events.specs.declared.fact.Fact.TheVariants.{Granted}
use Rattle.mdb_log.specs.declared.options.PoolOptions.{PoolOptions}
use Rattle.mdb_log.specs.History.{Item, made, of_pool, with_facts, after_fact}
use Rattle.mdb_log.specs.Homes.{Home, homes}
use Rattle.mdb_log.specs.Opening.{pool_options}
use Rattle.mdb_log.specs.Own.{IsOwn, AllOwn}
use Rattle.mdb_log.proofs.Numbers.{same-number}
use Rattle.mdb_pool_rules.specs.Serving.{serving}
use Rattle.mdb_pool_rules.proofs.FactsGrantNothing.{IsCalm, AreCalm}
use Rattle.mdb_driver_rules.specs.Facts.{serve_all}
use Rattle.mdb_histories.specs.SoundHistory.{SoundHistory}
use Rattle.mdb_histories.proofs.Comes.{AllMayCome, come-sound, own-leave}
use Rattle.mdb_histories.proofs.Numbered.{AllApart, homes-apart}
use Rattle.mdb_histories.proofs.Owns.{serving-own}
use Rattle.mdb_pool_laws.specs.Searches.{GetsLast, GrantsLast, AllGrantLast}
use Rattle.mdb_pool_laws.proofs.OfSearches.Serving.{serving-last}
use Rattle.mdb_laws.specs.Searches.{LastGrant, AllLastGrants}
use Rattle.mdb_laws.proofs.OfCloses.Pools.{or-right, come-split}
use Rattle.mdb_laws.proofs.OfNames.Plain.{IsPlain, ArePlain}

module _ (m : ℕ) where
  pub last-both : (fs gs : List Fact) (k : List Item) → AllLastGrants m k fs → AllLastGrants m (with_facts m fs k) gs → AllLastGrants m k (fs ++ gs)
  last-both [] gs k a b = b
  last-both (f ∷ fs) gs k a b = (a.0, last-both fs gs (made m f ∷ k) a.1 b)

  -- facts that grant nothing
  plain-one : (f : Fact) (k : List Item) → IsPlain f → LastGrant k f
  plain-one (Granted r q c) k i = absurd i
  plain-one _ k i = tt

  pub plain-last : (fs : List Fact) (k : List Item) → ArePlain fs → AllLastGrants m k fs
  plain-last [] k i = tt
  plain-last (f ∷ fs) k i = (plain-one f k i.0, plain-last fs (made m f ∷ k) i.1)

  calm-one : (n : ℕ) (f : Fact) (k : List Item) → IsCalm n f → LastGrant k f
  calm-one n (Granted r q c) k i = absurd i
  calm-one n _ k i = tt

  pub calm-last : (n : ℕ) (fs : List Fact) (k : List Item) → AreCalm n fs → AllLastGrants m k fs
  calm-last n [] k i = tt
  calm-last n (f ∷ fs) k i = (calm-one n f k i.0, calm-last n fs (made m f ∷ k) i.1)

  -- what is so in a pool is so among all
  of-one : (p : ℕ) (f : Fact) (k : List Item) → IsOwn p (of_pool p k) f → GrantsLast (of_pool p k) f → LastGrant k f
  of-one p (Granted r q c) k own last = subst (λ n. GetsLast (of_pool n k) r c) (sym own) last
  of-one p _ k own last = tt

  pub of-pool : (p : ℕ) (fs : List Fact) (k : List Item) → AllOwn p m (of_pool p k) fs → AllGrantLast p m (of_pool p k) fs → AllLastGrants m k fs
  of-pool p [] k own last = tt
  of-pool p (f ∷ fs) k own last = (of-one p f k own.0 last.0, of-pool p fs (made m f ∷ k) own.1 last.1)

  -- histories that tell the same of each pool
  same-one : (f : Fact) (k j : List Item) → ((p : ℕ) → of_pool p j ≡ of_pool p k) → LastGrant k f → LastGrant j f
  same-one (Granted r q c) k j e last = subst (λ xs. GetsLast xs r c) (sym (e q)) last
  same-one _ k j e last = tt

  pub same-last : (fs : List Fact) (k j : List Item) → ((p : ℕ) → of_pool p j ≡ of_pool p k) → AllLastGrants m k fs → AllLastGrants m j fs
  same-last [] k j e last = tt
  same-last (f ∷ fs) k j e last = (same-one f k j e last.0, same-last fs (made m f ∷ k) (made m f ∷ j) (λ p. ap (after_fact p m f) (e p)) last.1)

-- the serving of all pools
module _ (o : Options) (m : ℕ) (k : List Item) where
  abbrev po : PoolOptions
  po = pool_options o

  abbrev served : Home → List Fact
  served x = serving x.number x.address po m (of_pool x.number k)

  -- these pools know what they knew before the first of them was served
  Same : List Item → List Home → Type 0
  Same j hs = (q : ℕ) → list_any (λ y. y.number == q) hs ≡ true → of_pool q j ≡ of_pool q k

  servings-last : (hs : List Home) → AllApart hs → (j : List Item) → SoundHistory j → AllMayCome m j (flat_map served hs) → Same j hs → AllLastGrants m j (flat_map served hs)
  unfolding Same
  servings-last [] a j s c same = tt
  servings-last (x ∷ hs) a j s c same =
      let w : AllMayCome m j (served x) × AllMayCome m (with_facts m (served x) j) (flat_map served hs) = come-split m (served x) (flat_map served hs) j c in
      let mine : of_pool x.number j ≡ of_pool x.number k = same x.number (rw (same-number x.number) refl) in
      let own : AllOwn x.number m (of_pool x.number j) (served x) = subst (λ xs. AllOwn x.number m xs (served x)) (sym mine) (serving-own x.number x.address po m (of_pool x.number k)) in
      let last : AllGrantLast x.number m (of_pool x.number j) (served x) = subst (λ xs. AllGrantLast x.number m xs (served x)) (sym mine) (serving-last x.number x.address po m (of_pool x.number k)) in
      last-both m (served x) (flat_map served hs) j (of-pool m x.number (served x) j own last)
      (servings-last hs a.1 (with_facts m (served x) j) (come-sound m (served x) j s w.0) w.1 (λ q e. own-leave x.number m (served x) j s w.0 own q (apart q e) ∙ same q (rw e (or-right (x.number == q)))))
    where
      apart : (q : ℕ) → list_any (λ y. y.number == q) hs ≡ true → x.number ≢ q
      apart q e g = let none : list_any (λ y. y.number == q) hs ≡ false = subst (λ n. list_any (λ y. y.number == n) hs ≡ false) g a.0 in let t : true ≡ false = sym e ∙ none in cc

  pub serve-all-last : SoundHistory k → AllMayCome m k (serve_all o m k) → AllLastGrants m k (serve_all o m k)
  unfolding Same
  serve-all-last s c = servings-last (homes k) (homes-apart k s) k s c (λ q e. refl)
