-- The serving of all pools may come after a sound history.
use Rattle.std.proofs.Common.{ℕ, ◌≡◌, ◌≢◌, ◌==◌, ◌||◌, Bool, true, false, List, [], ◌∷◌, refl, sym, ◌∙◌, subst, arith}
use Rattle.std.specs.Prelude.{⊤, flat_map}
use Rattle.std.specs.List.{list_any}
use Rattle.mdb_base.specs.declared.options.Options.{Options}
use Rattle.mdb_events.specs.declared.fact.Fact.{Fact}
use Rattle.mdb_log.specs.History.{Item, made, of_pool, with_facts, after_facts}
use Rattle.mdb_log.specs.Homes.{Home, homes}
use Rattle.mdb_log.specs.Opening.{pool_options}
use Rattle.mdb_log.specs.Own.{AllOwn}
use Rattle.mdb_log.proofs.Numbers.{same-number}
use Rattle.mdb_pool_rules.specs.Serving.{serving}
use Rattle.mdb_sound.specs.Sound.{Sound}
use Rattle.mdb_sound.proofs.Served.{Fine, serving-sound}
use Rattle.mdb_driver_rules.specs.Facts.{serve_all}
use Rattle.mdb_histories.specs.SoundHistory.{SoundHistory, was_opened}
use Rattle.mdb_histories.proofs.Comes.{AllMayCome, come-sound, come-both, own-come, own-leave}
use Rattle.mdb_histories.proofs.Numbered.{AllApart, homes-apart}
use Rattle.mdb_histories.proofs.Opened.{still-opened}
use Rattle.mdb_histories.proofs.Owns.{serving-own}

pub opened-facts : (m p : ℕ) (fs : List Fact) (h : List Item) → was_opened h p ≡ true → was_opened (with_facts m fs h) p ≡ true
opened-facts m p [] h e = e
opened-facts m p (f ∷ fs) h e = opened-facts m p fs (made m f ∷ h) (still-opened m p f h e)

module _ (o : Options) (m : ℕ) (k : List Item) (fine : (p : ℕ) → Fine (of_pool p k)) where
  abbrev served : Home → List Fact
  served x = serving x.number x.address (pool_options o) m (of_pool x.number k)

  -- these pools know what they knew before the first of them was served
  AllSame : List Item → List Home → Type 0
  AllSame j [] = ⊤
  AllSame j (x ∷ hs) = (of_pool x.number j ≡ of_pool x.number k) × (was_opened j x.number ≡ true) × AllSame j hs

  others-same : (hs : List Home) (j : List Item) (fs : List Fact) (p : ℕ) → SoundHistory j → AllMayCome m j fs → AllOwn p m (of_pool p j) fs → list_any (λ y. y.number == p) hs ≡ false → AllSame j hs → AllSame (with_facts m fs j) hs
  unfolding AllSame
  others-same [] j fs p s c i e a = tt
  others-same (x ∷ hs) j fs p s c i e a =
      let d : ((x.number == p) ≡ false) × (list_any (λ y. y.number == p) hs ≡ false) = split (x.number == p) (list_any (λ y. y.number == p) hs) e in
      let ne : p ≢ x.number = λ g. (let w : (x.number == p) ≡ true = grind arith in let v : (x.number == p) ≡ false = d.0 in cc) in
      (own-leave p m fs j s c i x.number ne ∙ a.0, opened-facts m x.number fs j a.1, others-same hs j fs p s c i d.1 a.2)
    where
      split : (b c : Bool) → b || c ≡ false → (b ≡ false) × (c ≡ false)
      split true c f = cc
      split false c f = (refl, f)

  servings-come : (hs : List Home) → AllApart hs → (j : List Item) → SoundHistory j → AllSame j hs → AllMayCome m j (flat_map served hs)
  unfolding AllSame
  servings-come [] a j s z = tt
  servings-come (x ∷ hs) a j s z =
      let own : AllOwn x.number m (of_pool x.number j) (served x) = subst (λ xs. AllOwn x.number m xs (served x)) (sym z.0) (serving-own x.number x.address (pool_options o) m (of_pool x.number k)) in
      let left : Fine (after_facts x.number m (served x) (of_pool x.number k)) = serving-sound x.number x.address (pool_options o) m (of_pool x.number k) (fine x.number) in
      let sound : Sound (after_facts x.number m (served x) (of_pool x.number j)) = subst (λ xs. Sound (after_facts x.number m (served x) xs)) (sym z.0) left.0 in
      let one : AllMayCome m j (served x) = own-come x.number m (served x) j s z.1 own sound in
      come-both m (served x) (flat_map served hs) j one
      (servings-come hs a.1 (with_facts m (served x) j) (come-sound m (served x) j s one) (others-same hs j (served x) x.number s one own a.0 z.2))

  same-first : (hs : List Home) → ((p : ℕ) → list_any (λ y. y.number == p) hs ≡ true → was_opened k p ≡ true) → AllSame k hs
  unfolding AllSame
  same-first [] all = tt
  same-first (x ∷ hs) all =
      let mine : list_any (λ y. y.number == x.number) (x ∷ hs) ≡ true = rw (same-number x.number) refl in
      (refl, all x.number mine, same-first hs (λ p e. all p (rw e (or-true (x.number == p)))))
    where
      or-true : (b : Bool) → b || true ≡ true
      or-true true = refl
      or-true false = refl

  pub serve-all-come : SoundHistory k → AllMayCome m k (serve_all o m k)
  serve-all-come s = servings-come (homes k) (homes-apart k s) k s (same-first (homes k) (λ p e. e))
