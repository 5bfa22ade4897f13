-- Facts that may come after a sound history, one after another.
use Rattle.std.proofs.Common.{ℕ, ◌≡◌, ◌≢◌, ◌==◌, Bool, true, false, List, [], ◌∷◌, ◌++◌, refl, sym, ◌∙◌, subst, arith}
use Rattle.std.specs.Prelude.{⊤}
use Rattle.mdb_events.specs.declared.cmap.CmapEvent.TheVariants.{PoolCreated, PoolReady, PoolCleared, PoolClosed, ConnectionCreated, ConnectionReady, ConnectionClosed, ConnectionCheckoutStarted, ConnectionCheckoutFailed, ConnectionCheckedOut, ConnectionCheckedIn}
use Rattle.mdb_events.specs.declared.fact.Fact.{Fact}
use Rattle.mdb_events.specs.declared.fact.Fact.TheVariants.{Opened, Pool, Granted, Ended, Raised, Sdam, CheckNow, Cancel}
use Rattle.mdb_log.specs.History.{Item, made, PoolItem, if_so, of_pool, after_fact, after_facts, with_facts, has_asked}
use Rattle.mdb_log.specs.Own.{IsOwn, AllOwn}
use Rattle.mdb_log.proofs.Frame.{other-fact}
use Rattle.mdb_sound.specs.Sound.{Sound}
use Rattle.mdb_driver_rules.proofs.SameHistories.{IsCalm}
use Rattle.mdb_topology.proofs.OfMonitors.FactsOfCheck.{AreCalm}
use Rattle.mdb_histories.specs.SoundHistory.{SoundHistory, MayCome, FactNames, was_opened}
use Rattle.mdb_histories.proofs.Parties.{each-sound, apart}
use Rattle.mdb_histories.proofs.Opened.{still-opened}

-- each of the facts may come, where those before it have come
abbrev pub AllMayCome : ℕ → List Item → List Fact → Type 0
AllMayCome m k [] = ⊤
AllMayCome m k (f ∷ fs) = MayCome k (made m f) × AllMayCome m (made m f ∷ k) fs

pub come-sound : (m : ℕ) (fs : List Fact) (k : List Item) → SoundHistory k → AllMayCome m k fs → SoundHistory (with_facts m fs k)
come-sound m [] k s c = s
come-sound m (f ∷ fs) k s c = come-sound m fs (made m f ∷ k) (c.0, s) c.1

pub come-both : (m : ℕ) (fs gs : List Fact) (k : List Item) → AllMayCome m k fs → AllMayCome m (with_facts m fs k) gs → AllMayCome m k (fs ++ gs)
come-both m [] gs k a b = b
come-both m (f ∷ fs) gs k a b = (a.0, come-both m fs gs (made m f ∷ k) a.1 b)

calm-comes : (m : ℕ) (f : Fact) (k : List Item) → SoundHistory k → IsCalm f → MayCome k (made m f)
calm-comes m (Sdam e) k s c = record { in_each = each-sound k s; names = tt }
calm-comes m (CheckNow a) k s c = record { in_each = each-sound k s; names = tt }
calm-comes m (Cancel a) k s c = record { in_each = each-sound k s; names = tt }
calm-comes m _ k s c = elim c [ ]

pub calm-come : (m : ℕ) (fs : List Fact) (k : List Item) → SoundHistory k → AreCalm fs → AllMayCome m k fs
calm-come m [] k s c = tt
calm-come m (f ∷ fs) k s c = let w : MayCome k (made m f) = calm-comes m f k s c.0 in (w, calm-come m fs (made m f ∷ k) (w, s) c.1)

-- one fact more leaves the items or adds one, so what is sound with it was sound without it
if-sound : (b : Bool) (x : PoolItem) (xs : List PoolItem) → Sound (if_so b x xs) → Sound xs
if-sound true x xs s = s.1
if-sound false x xs s = s

before-fact : (p m : ℕ) (f : Fact) (xs : List PoolItem) → Sound (after_fact p m f xs) → Sound xs
before-fact p m (Pool q (PoolCreated e)) xs s = if-sound (q == p) _ xs s
before-fact p m (Pool q (PoolReady e)) xs s = if-sound (q == p) _ xs s
before-fact p m (Pool q (PoolClosed e)) xs s = if-sound (q == p) _ xs s
before-fact p m (Pool q (ConnectionCreated e)) xs s = if-sound (q == p) _ xs s
before-fact p m (Pool q (ConnectionClosed e)) xs s = if-sound (q == p) _ xs s
before-fact p m (Pool q (ConnectionCheckedIn e)) xs s = if-sound (q == p) _ xs s
before-fact p m (Granted r q c) xs s = if-sound (q == p) _ xs s
before-fact p m (Ended r end) xs s = if-sound (has_asked xs r) _ xs s
before-fact p m (Raised q service error) xs s = if-sound (q == p) _ xs s
before-fact p m _ xs s = s

before-facts : (p m : ℕ) (fs : List Fact) (xs : List PoolItem) → Sound (after_facts p m fs xs) → Sound xs
before-facts p m [] xs s = s
before-facts p m (f ∷ fs) xs s = before-fact p m f xs (before-facts p m fs (after_fact p m f xs) s)

module _ (p m : ℕ) where
  -- whom and what a pool's own fact names
  own-names : (f : Fact) (k : List Item) → was_opened k p ≡ true → IsOwn p (of_pool p k) f → FactNames k f
  own-names (Opened q a) k w i = absurd i
  own-names (Pool q (PoolCreated e)) k w i = absurd i
  own-names (Pool q (PoolReady e)) k w i = subst (λ n. was_opened k n ≡ true) (sym i) w
  own-names (Pool q (PoolCleared e)) k w i = subst (λ n. was_opened k n ≡ true) (sym i) w
  own-names (Pool q (PoolClosed e)) k w i = subst (λ n. was_opened k n ≡ true) (sym i) w
  own-names (Pool q (ConnectionCreated e)) k w i = subst (λ n. was_opened k n ≡ true) (sym i) w
  own-names (Pool q (ConnectionReady e)) k w i = subst (λ n. was_opened k n ≡ true) (sym i) w
  own-names (Pool q (ConnectionClosed e)) k w i = subst (λ n. was_opened k n ≡ true) (sym i) w
  own-names (Pool q (ConnectionCheckoutStarted e)) k w i = subst (λ n. was_opened k n ≡ true) (sym i) w
  own-names (Pool q (ConnectionCheckoutFailed e)) k w i = subst (λ n. was_opened k n ≡ true) (sym i) w
  own-names (Pool q (ConnectionCheckedOut e)) k w i = subst (λ n. was_opened k n ≡ true) (sym i) w
  own-names (Pool q (ConnectionCheckedIn e)) k w i = subst (λ n. was_opened k n ≡ true) (sym i) w
  own-names (Granted r q c) k w i = subst (λ n. was_opened k n ≡ true) (sym i) w
  own-names (Ended r end) k w i = record { pool = p; asked = i }
  own-names (Raised q service error) k w i = subst (λ n. was_opened k n ≡ true) (sym i) w
  own-names (Sdam e) k w i = absurd i
  own-names (CheckNow a) k w i = absurd i
  own-names (Cancel a) k w i = absurd i

  -- the other pools know what they knew
  own-leaves : (f : Fact) (k : List Item) → SoundHistory k → IsOwn p (of_pool p k) f → (q : ℕ) → p ≢ q → of_pool q (made m f ∷ k) ≡ of_pool q k
  own-leaves f k s i q ne = other-fact p q m ne f (of_pool p k) (of_pool q k) (λ r e. apart k s r p q ne e) i

  own-comes : (f : Fact) (k : List Item) → SoundHistory k → was_opened k p ≡ true → IsOwn p (of_pool p k) f → Sound (after_fact p m f (of_pool p k)) → MayCome k (made m f)
  own-comes f k s w i here = record { in_each = λ q. on q (p == q) refl; names = own-names f k w i }
    where
      on : (q : ℕ) (b : Bool) → (p == q) ≡ b → Sound (of_pool q (made m f ∷ k))
      on q true e = let same : p ≡ q = grind arith in subst (λ n. Sound (of_pool n (made m f ∷ k))) same here
      on q false e = let ne : p ≢ q = grind arith in subst Sound (sym (own-leaves f k s i q ne)) (each-sound k s q)

  -- facts of one pool that leave it sound may come, and leave the other pools
  pub own-come : (fs : List Fact) (k : List Item) → SoundHistory k → was_opened k p ≡ true → AllOwn p m (of_pool p k) fs → Sound (after_facts p m fs (of_pool p k)) → AllMayCome m k fs
  own-come [] k s w i z = tt
  own-come (f ∷ fs) k s w i z =
      let one : MayCome k (made m f) = own-comes f k s w i.0 (before-facts p m fs (after_fact p m f (of_pool p k)) z) in
      (one, own-come fs (made m f ∷ k) (one, s) (still-opened m p f k w) i.1 z)

  pub own-leave : (fs : List Fact) (k : List Item) → SoundHistory k → AllMayCome m k fs → AllOwn p m (of_pool p k) fs → (q : ℕ) → p ≢ q → of_pool q (with_facts m fs k) ≡ of_pool q k
  own-leave [] k s c i q ne = refl
  own-leave (f ∷ fs) k s c i q ne = own-leave fs (made m f ∷ k) (c.0, s) c.1 i.1 q ne ∙ own-leaves f k s i.0 q ne
