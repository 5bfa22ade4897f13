-- Pins that stand for a history, and follow one more item, stand for the history with it.
use Rattle.std.proofs.Common.{ℕ, ◌≡◌, ◌≤◌, ◌==◌, Bool, true, false, ◌&&◌, if◌then◌else◌, nat_lt, List, [], ◌∷◌, Some, None, refl, sym, ap, subst, ◌∙◌}
use Rattle.mdb_events.specs.declared.cmap.CmapEvent.TheVariants.{PoolCreated, PoolReady, PoolClosed, ConnectionCreated, ConnectionClosed, ConnectionCheckedIn}
use Rattle.mdb_events.specs.declared.fact.Fact.{Fact}
use Rattle.mdb_events.specs.declared.fact.Fact.TheVariants.{Pool, Granted, Ended, Raised}
use Rattle.mdb_log.specs.declared.options.PoolOptions.{PoolOptions}
use Rattle.mdb_events.specs.declared.cmap.CmapEvent.{CmapEvent}
use Rattle.mdb_log.specs.History.{Item, PoolItem, made, of_pool, if_so, has_asked, created, closed, checked_in, ended, raised, pool_created, pool_ready, pool_closed}
use Rattle.mdb_log.specs.PlainHolders.{has_returned, pins_made, pins_dropped, is_pinned, has_pin, comes_back, is_taking}
use Rattle.mdb_tallies.specs.declared.occurrence.Occurrence.TheVariants as change
use Rattle.mdb_tallies.specs.declared.tables.Tables.{Tables}
use Rattle.mdb_tallies.specs.Tables.{at}
use Rattle.mdb_tallies.specs.Lists.{nth, len, listed}
use Rattle.mdb_tallies.specs.Standing.{gift_of}
use Rattle.mdb_tallies.proofs.Parties.{fact-gift}
use Rattle.mdb_pins.proofs.Granting.{grants-next}
use Rattle.mdb_tallies.specs.Reading.{of_fact, of_event}
use Rattle.mdb_tallies.specs.Kept.{Stands}
use Rattle.mdb_pins.specs.declared.doings.Doings.{Doings}
use Rattle.mdb_pins.specs.declared.pins.Pins.{Pins}
use Rattle.mdb_pins.specs.declared.story.PinStory.{PinStory}
use Rattle.mdb_pins.specs.Numbered.{of_number}
use Rattle.mdb_pins.specs.Following.{EachOnce, pins_after, doings_after, Grants, PinsFollow}
use Rattle.mdb_pins.specs.Standing.{weigh, PinsStand}
use Rattle.mdb_pins.proofs.Weights.{weigh-granted}
use Rattle.mdb_pins.proofs.Alone.{alone-weighs, nobody-weighs}
use Rattle.mdb_pins.proofs.Fitting.{Sole, fits-re, is-one, is-none}

-- a connection at its pin has one
pub pinned-again : (p : ℕ) (h : List Item) (c : ℕ) → is_pinned p h c && nat_lt (pins_dropped p h c) (pins_made p h c) ≡ is_pinned p h c
pinned-again p [] c = refl
pinned-again p (x ∷ h) c = twice (if comes_back p x h c then true else (if is_taking p x c then false else is_pinned p h c)) (has_pin p (x ∷ h) c)
  where
    twice : (a b : Bool) → (a && b) && b ≡ a && b
    twice true true = refl
    twice true false = refl
    twice false b = refl

-- what the one keeper pinned is what the keepers did together
pub sole : (doings : ℕ → Doings) (xs : List PoolItem) (gone : ℕ → Bool) (c : ℕ) → Sole doings (weigh (λ r. 1) xs gone c) (weigh (λ r. r) xs gone c) (weigh (λ r. (doings r).pins) xs gone c)
sole doings xs gone c = λ q. go q (weigh (λ r. 1) xs gone c == 1) refl
  where
    go : weigh (λ r. 1) xs gone c ≤ 1 → (b : Bool) → (weigh (λ r. 1) xs gone c == 1) ≡ b → weigh (λ r. (doings r).pins) xs gone c ≡ (if b then (doings (weigh (λ r. r) xs gone c)).pins else 0)
    go q true u = alone-weighs (λ r. (doings r).pins) xs gone c (is-one (weigh (λ r. 1) xs gone c) u)
    go q false u = nobody-weighs (λ r. (doings r).pins) xs gone c (is-none (weigh (λ r. 1) xs gone c) q u)

pub weigh-unsaid : (f : ℕ → ℕ) (b : Bool) (y : PoolItem) (xs : List PoolItem) (gone : ℕ → Bool) (c : ℕ) → weigh f (y ∷ xs) gone c ≡ weigh f xs gone c → weigh f (if_so b y xs) gone c ≡ weigh f xs gone c
weigh-unsaid f true y xs gone c e = e
weigh-unsaid f false y xs gone c e = refl

event-weighs : (f : ℕ → ℕ) (p m q : ℕ) (event : CmapEvent) (h : List Item) (c : ℕ) → weigh f (of_pool p (made m (Pool q event) ∷ h)) (has_returned h) c ≡ weigh f (of_pool p h) (has_returned h) c
event-weighs f p m q (PoolCreated e) h c = weigh-unsaid f (q == p) pool_created (of_pool p h) (has_returned h) c refl
event-weighs f p m q (PoolReady e) h c = weigh-unsaid f (q == p) pool_ready (of_pool p h) (has_returned h) c refl
event-weighs f p m q (PoolClosed e) h c = weigh-unsaid f (q == p) pool_closed (of_pool p h) (has_returned h) c refl
event-weighs f p m q (ConnectionCreated e) h c = weigh-unsaid f (q == p) (created e.connection_id m) (of_pool p h) (has_returned h) c refl
event-weighs f p m q (ConnectionClosed e) h c = weigh-unsaid f (q == p) (closed e.connection_id) (of_pool p h) (has_returned h) c refl
event-weighs f p m q (ConnectionCheckedIn e) h c = weigh-unsaid f (q == p) (checked_in e.connection_id m) (of_pool p h) (has_returned h) c refl
event-weighs f p m q event h c = refl

-- a fact says nothing of who keeps a connection
fact-weighs : (f : ℕ → ℕ) (p m : ℕ) (fact : Fact) (h : List Item) (c : ℕ) → weigh f (of_pool p (made m fact ∷ h)) (has_returned h) c ≡ weigh f (of_pool p h) (has_returned h) c
fact-weighs f p m (Pool q event) h c = event-weighs f p m q event h c
fact-weighs f p m (Granted s q d) h c = weigh-granted f (q == p) s d (of_pool p h) (has_returned h) c
fact-weighs f p m (Ended r end) h c = weigh-unsaid f (has_asked (of_pool p h) r) (ended r end) (of_pool p h) (has_returned h) c refl
fact-weighs f p m (Raised q service error) h c = weigh-unsaid f (q == p) (raised service error) (of_pool p h) (has_returned h) c refl
fact-weighs f p m fact h c = refl

event-pins : (q : ℕ) (event : CmapEvent) (t : Tables) (doings : ℕ → Doings) (p c : ℕ) (x : Pins) → pins_after (of_event q event) t doings p c x ≡ x
event-pins q (PoolCreated e) t doings p c x = refl
event-pins q (PoolReady e) t doings p c x = refl
event-pins q (PoolClosed e) t doings p c x = refl
event-pins q (ConnectionCreated e) t doings p c x = refl
event-pins q (ConnectionClosed e) t doings p c x = refl
event-pins q (ConnectionCheckedIn e) t doings p c x = refl
event-pins q event t doings p c x = refl

fact-pins : (fact : Fact) (t : Tables) (doings : ℕ → Doings) (p c : ℕ) (x : Pins) → pins_after (of_fact fact) t doings p c x ≡ x
fact-pins (Pool q event) t doings p c x = event-pins q event t doings p c x
fact-pins (Granted s q d) t doings p c x = refl
fact-pins (Ended r end) t doings p c x = refl
fact-pins (Raised q None error) t doings p c x = refl
fact-pins (Raised q (Some service) error) t doings p c x = refl
fact-pins fact t doings p c x = refl

event-doings : (q : ℕ) (event : CmapEvent) (r : ℕ) (d : Doings) → doings_after (of_event q event) r d ≡ d
event-doings q (PoolCreated e) r d = refl
event-doings q (PoolReady e) r d = refl
event-doings q (PoolClosed e) r d = refl
event-doings q (ConnectionCreated e) r d = refl
event-doings q (ConnectionClosed e) r d = refl
event-doings q (ConnectionCheckedIn e) r d = refl
event-doings q event r d = refl

fact-doings : (fact : Fact) (r : ℕ) (d : Doings) → doings_after (of_fact fact) r d ≡ d
fact-doings (Pool q event) r d = event-doings q event r d
fact-doings (Granted s q e) r d = refl
fact-doings (Ended s end) r d = refl
fact-doings (Raised q None error) r d = refl
fact-doings (Raised q (Some service) error) r d = refl
fact-doings fact r d = refl

-- the sum of what keepers pinned, by what each did
same-doings : (d e : ℕ → Doings) (xs : List PoolItem) (gone : ℕ → Bool) (c : ℕ) → ((n : ℕ) → e n ≡ d n) → weigh (λ r. (e r).pins) xs gone c ≡ weigh (λ r. (d r).pins) xs gone c
same-doings d e xs gone c u = (λ i. weigh (λ r. (u r i).pins) xs gone c)

-- One more fact.
pub stood-fact : (o : PoolOptions) (m : ℕ) (fact : Fact) (h : List Item) (t : Tables) (old new : PinStory) → Stands o h t → PinsStand h old → PinsFollow (of_fact fact) t old new → PinsStand (made m fact ∷ h) new
stood-fact o m fact h t old new s z f =
    let grants = grants-next (of_fact fact) t old.grants new.grants (gift_of h) s.gifts (z.grants, z.once) f.grants in
    record {
      fits = λ p c. fits-re (of_number old.doings) (of_number new.doings) (pins_made p h c) (pins_made p h c) (pins_dropped p h c) (pins_dropped p h c) (is_pinned p h c) _ _ _ _ _ _ _ (at old.pins p c 0) (at new.pins p c 0)
          (λ n. f.doings n ∙ fact-doings fact n (of_number old.doings n)) refl refl (pinned-again p h c) (fact-weighs (λ r. 1) p m fact h c) (fact-weighs (λ r. r) p m fact h c)
          (fact-weighs (λ r. (of_number new.doings r).pins) p m fact h c ∙ same-doings (of_number old.doings) (of_number new.doings) (of_pool p h) (has_returned h) c (λ n. f.doings n ∙ fact-doings fact n (of_number old.doings n)))
          (f.pins p c ∙ fact-pins fact t (of_number old.doings) p c (at old.pins p c 0)) (z.fits p c);
      grants = λ r p c. grants.0 r p c ∙ ap (λ g. g.is_granted) (sym (fact-gift m fact h r p c));
      once = grants.1;
    }

-- the lists of grants are those of the tables
pub grants-of : (o : PoolOptions) (h : List Item) (t : Tables) (s : PinStory) → Stands o h t → PinsStand h s → Grants t s.grants
grants-of o h t s y z = record { all = λ r p c. z.grants r p c ∙ ap (λ g. g.is_granted) (sym (y.gifts r p c)); once = z.once }

-- Nothing was said of pins.
pub stood-same : (h : List Item) (t : Tables) (old new : PinStory) → PinsStand h old → PinsFollow change.Nothing t old new → PinsStand h new
stood-same h t old new z f = record {
  fits = λ p c. fits-re (of_number old.doings) (of_number new.doings) (pins_made p h c) (pins_made p h c) (pins_dropped p h c) (pins_dropped p h c) (is_pinned p h c) (is_pinned p h c) _ _ _ _ _ _ (at old.pins p c 0) (at new.pins p c 0) f.doings refl refl refl refl refl (same-doings (of_number old.doings) (of_number new.doings) (of_pool p h) (has_returned h) c f.doings) (f.pins p c) (z.fits p c);
  grants = λ r p c. ap (λ l. listed (len l r) (nth l r) p c) f.grants ∙ z.grants r p c;
  once = λ r. subst (λ l. EachOnce l r) (sym f.grants) (z.once r);
}
