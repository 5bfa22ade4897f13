-- What the keepings say of a history.
use Rattle.std.proofs.Common.{ℕ, ◌+◌, ◌≡◌, ◌≤◌, ◌==◌, Bool, true, false, not, ◌&&◌, ◌||◌, if◌then◌else◌, nat_lt, nat_le, List, [], ◌∷◌, None, Some, Option, refl, sym, ap, subst, ◌∙◌, arith}
use Rattle.std.proofs.lemmas.Grind.{common_steps}
use Rattle.mdb_base.specs.declared.address.ServerAddress.{ServerAddress}
use Rattle.mdb_events.specs.declared.cmap.CmapEvent.{CmapEvent}
use Rattle.mdb_events.specs.declared.cmap.CmapEvent.TheVariants.{PoolCreated, PoolReady, PoolClosed, ConnectionCreated, ConnectionClosed, ConnectionCheckedIn}
use Rattle.mdb_events.specs.declared.fact.Fact.{Fact}
use Rattle.mdb_events.specs.declared.fact.Fact.TheVariants.{Pool, Granted, Ended, Raised, Opened}
use Rattle.mdb_log.specs.declared.options.PoolOptions.{PoolOptions}
use Rattle.mdb_log.specs.declared.reply.Reply.{Reply}
use Rattle.mdb_log.specs.declared.step.Act.{Act}
use Rattle.mdb_log.specs.declared.step.Act.TheVariants.{Request, Warm, GiveUp, Established, Failed, Return, Pin, Replicate, Take, Unpin}
use Rattle.mdb_log.specs.History.{Item, PoolItem, did, of_pool}
use Rattle.mdb_log.specs.Connections.{has, one_if}
use Rattle.mdb_log.specs.PlainHolders.{has_returned, parties, holds, pins_made, pins_dropped, is_pinned}
use Rattle.mdb_log.specs.PlainRequests.{is_ended}
use Rattle.mdb_log.specs.PlainLegal.{OnePlace}
use Rattle.mdb_log.proofs.Bools.{both-left, both-right}
use Rattle.mdb_tallies.specs.declared.connection.Connection.{Connection}
use Rattle.mdb_tallies.specs.declared.tables.Tables.{Tables}
use Rattle.mdb_tallies.specs.Tables.{at}
use Rattle.mdb_tallies.specs.Totals.{total, count}
use Rattle.mdb_tallies.specs.Lists.{in_list}
use Rattle.mdb_tallies.specs.Standing.{keeps as keeps_in, borrows, connection_of}
use Rattle.mdb_tallies.specs.Changes.{kept_now, lent_now, pending_now}
use Rattle.mdb_tallies.specs.Verdicts.{in_place_now, places_now}
use Rattle.mdb_tallies.specs.Reading.{of_act, of_fact, of_event}
use Rattle.mdb_tallies.specs.Kept.{Stands}
use Rattle.mdb_tallies.proofs.Counted.{in-place-not}
use Rattle.mdb_tallies.proofs.Given.{keeps-none, borrows-none}
use Rattle.mdb_tallies.proofs.Placed.{same}
use Rattle.mdb_tallies.proofs.PartyDoings.{left-false, right-false}
use Rattle.mdb_pins.specs.declared.doings.Doings.{Doings}
use Rattle.mdb_pins.specs.declared.keepings.Keepings.{Keepings}
use Rattle.mdb_pins.specs.declared.pins.Pins.{Pins}
use Rattle.mdb_pins.specs.declared.story.PinStory.{PinStory}
use Rattle.mdb_pins.specs.Numbered.{of_number}
use Rattle.mdb_pins.specs.Counts.{nobody, is_above, is_at_pin}
use Rattle.mdb_pins.specs.Following.{lends, keeps}
use Rattle.mdb_pins.specs.Standing.{weigh, PinsStand}
use Rattle.mdb_pins.specs.Keeping.{is_alone, is_settled, has_pinned, recalls, KeepingsStand}
use Rattle.mdb_pins.proofs.Alone.{alone-is, alone-weighs}
use Rattle.mdb_pins.proofs.Fitting.{is-one, above}
use Rattle.mdb_pins.proofs.Following.{unlent, back-lent, back-kept}
use Rattle.mdb_pins.proofs.KeepingsNext.{Allows, alone-keeper}
use Rattle.mdb_pins.proofs.Stood.{pinned-again, grants-of}
use Rattle.mdb_pins.proofs.StoodSteps.{kept-is, keeps-is, lends-is, holds-is, still-pinned}
use Rattle.mdb_pins.proofs.Weights.{weigh-counted}

-- who passes and is there is counted
count-one : (test : ℕ → Bool) (r : ℕ) (ks : List ℕ) → test r ≡ true → has r ks ≡ true → 1 ≤ count test ks
count-one test r [] e h = cc
count-one test r (k ∷ ks) e h = by (count-one test r ks e) (k == r) refl
  where
    by : (has r ks ≡ true → 1 ≤ count test ks) → (b : Bool) → (k == r) ≡ b → 1 ≤ count test ks + one_if (test k)
    by rest true u = let one : one_if (test k) ≡ 1 = ap one_if (ap test (same k r u) ∙ e) in omega (arith, one)
    by rest false u = let more = rest (rw u at h) in omega (arith, more)

there-kept : (xs : List PoolItem) (gone : ℕ → Bool) (c r : ℕ) → keeps_in xs gone c r ≡ true → has r (parties xs c) ≡ true
there-kept xs gone c r e = by (has r (parties xs c)) refl
  where
    by : (b : Bool) → has r (parties xs c) ≡ b → b ≡ true
    by true u = refl
    by false u = sym (keeps-none xs gone c r u) ∙ e

there-lent : (xs : List PoolItem) (gone over : ℕ → Bool) (c r : ℕ) → borrows xs gone over c r ≡ true → has r (parties xs c) ≡ true
there-lent xs gone over c r e = by (has r (parties xs c)) refl
  where
    by : (b : Bool) → has r (parties xs c) ≡ b → b ≡ true
    by true u = refl
    by false u = sym (borrows-none xs gone over c r u) ∙ e

few-places : (n k l m : ℕ) → nat_le (n + (k + l) + m) 1 ≡ true → k + l ≤ 1
few-places n k l m e = grind (arith, common_steps)

-- one at most holds a created connection that is in place
pub few : (x : Connection) (b : Bool) → in_place_now x b ≡ true → nat_lt 0 x.creations ≡ true → x.kept + (if pending_now x then 0 else x.lent) ≤ 1
few x b e u =
    let whole : (places_now x b + x.closings == x.creations) && nat_le (places_now x b) 1 ≡ true = sym (ap (λ t. if t then ((places_now x b + x.closings == x.creations) && nat_le (places_now x b) 1) else (x.closings == 0)) u) ∙ e in
    few-places (one_if (pending_now x) + one_if x.is_available) x.kept (if pending_now x then 0 else x.lent) (one_if b) (both-right (places_now x b + x.closings == x.creations) (nat_le (places_now x b) 1) whole)

-- by the history
few-hold : (h : List Item) (p c : ℕ) → OnePlace h → nat_lt 0 (connection_of h p c).creations ≡ true → (connection_of h p c).kept + (if pending_now (connection_of h p c) then 0 else (connection_of h p c).lent) ≤ 1
few-hold h p c one u = few (connection_of h p c) (is_pinned p h c) (in-place-not p h c (one p c)) u

pub first-part : (k l : ℕ) → k + l ≤ 1 → k ≤ 1
first-part k l e = omega (arith, e)

-- who was lent a created connection in place, which nobody but one keeps, was not
unlent-alone : (o : PoolOptions) (h : List Item) (t : Tables) (r p c : ℕ) → Stands o h t → OnePlace h → is_alone (at t.connections p c 0) ≡ true → lends t r p c ≡ false
unlent-alone o h t r p c s one e = by (lends t r p c) refl
  where
    alone : is_alone (connection_of h p c) ≡ true
    alone = ap is_alone (sym (s.connections p c)) ∙ e

    kept : (connection_of h p c).kept ≡ 1
    kept = is-one (connection_of h p c).kept (both-right (nat_lt 0 (connection_of h p c).creations) ((connection_of h p c).kept == 1) alone)

    holds-few : (connection_of h p c).kept + (if pending_now (connection_of h p c) then 0 else (connection_of h p c).lent) ≤ 1
    holds-few = few-hold h p c one (both-left (nat_lt 0 (connection_of h p c).creations) ((connection_of h p c).kept == 1) alone)

    idle : (b : Bool) → not b ≡ true → b ≡ false
    idle true u = cc
    idle false u = refl

    by : (b : Bool) → lends t r p c ≡ b → b ≡ false
    by false u = refl
    by true u =
        let both : borrows (of_pool p h) (has_returned h) (is_ended h) c r && not (pending_now (connection_of h p c)) ≡ true = sym (lends-is o h t r p c s) ∙ u in
        let lent : borrows (of_pool p h) (has_returned h) (is_ended h) c r ≡ true = both-left (borrows (of_pool p h) (has_returned h) (is_ended h) c r) (not (pending_now (connection_of h p c))) both in
        let ready : pending_now (connection_of h p c) ≡ false = idle (pending_now (connection_of h p c)) (both-right (borrows (of_pool p h) (has_returned h) (is_ended h) c r) (not (pending_now (connection_of h p c))) both) in
        let some : 1 ≤ (connection_of h p c).lent = count-one (borrows (of_pool p h) (has_returned h) (is_ended h) c) r (parties (of_pool p h) c) lent (there-lent (of_pool p h) (has_returned h) (is_ended h) c r lent) in
        let all : (connection_of h p c).kept + (connection_of h p c).lent ≤ 1 = subst (λ b. (connection_of h p c).kept + (if b then 0 else (connection_of h p c).lent) ≤ 1) ready holds-few in
        absurd (omega (arith, kept, some, all))

-- What a step does after a history in which each connection has its one place.
pub allows-step : (o : PoolOptions) (h : List Item) (t : Tables) (here : ServerAddress → Option ℕ) (act : Act) → Stands o h t → OnePlace h → Allows (of_act here act) t
allows-step o h t here (Pin r) s one = λ p c e. unlent-alone o h t r p c s one e
allows-step o h t here (Return r used) s one = λ p c e. ap-le (s.connections p c) (first-part (connection_of h p c).kept _ (few-hold h p c one (ap (λ x. nat_lt 0 x.creations) (sym (s.connections p c)) ∙ e)))
  where
    ap-le : {x y : Connection} → x ≡ y → y.kept ≤ 1 → x.kept ≤ 1
    ap-le is l = subst (λ z. z.kept ≤ 1) (sym is) l
allows-step o h t here (Request r a) s one = tt
allows-step o h t here (Warm r a) s one = tt
allows-step o h t here (GiveUp r) s one = tt
allows-step o h t here (Established q c how) s one = tt
allows-step o h t here (Failed q c at error) s one = tt
allows-step o h t here (Replicate q c) s one = tt
allows-step o h t here (Take r q c) s one = tt
allows-step o h t here (Unpin q c) s one = tt
allows-step o h t here act s one = tt

allows-event : (q : ℕ) (event : CmapEvent) (t : Tables) → Allows (of_event q event) t
allows-event q (PoolCreated e) t = tt
allows-event q (PoolReady e) t = tt
allows-event q (PoolClosed e) t = tt
allows-event q (ConnectionCreated e) t = tt
allows-event q (ConnectionClosed e) t = tt
allows-event q (ConnectionCheckedIn e) t = tt
allows-event q event t = tt

-- A fact neither pins nor returns.
pub allows-fact : (fact : Fact) (t : Tables) → Allows (of_fact fact) t
allows-fact (Opened q a) t = tt
allows-fact (Pool q event) t = allows-event q event t
allows-fact (Granted r q c) t = tt
allows-fact (Ended r end) t = tt
allows-fact (Raised q None error) t = tt
allows-fact (Raised q (Some service) error) t = tt
allows-fact fact t = tt

-- the keeper of a connection heard no more give-ups than it made
pub heard-of : (o : PoolOptions) (h : List Item) (t : Tables) (s : PinStory) → Stands o h t → PinsStand h s → (p c : ℕ) → is_alone (at t.connections p c 0) ≡ true → (at s.pins p c 0).heard ≤ (of_number s.doings (at s.pins p c 0).keepers).give_ups
heard-of o h t s y z p c e = (z.fits p c).heard_is (sym (kept-is o h t p c y) ∙ is-one (at t.connections p c 0).kept (both-right (nat_lt 0 (at t.connections p c 0).creations) ((at t.connections p c 0).kept == 1) e))

-- Nobody keeps anything at first.
pub keepings-none : (o : PoolOptions) (t : Tables) (s : PinStory) (k : Keepings) → Stands o [] t → ((r : ℕ) → of_number s.doings r ≡ nobody) → ((p c : ℕ) → at k.written p c 0 ≡ None) → KeepingsStand t s k
keepings-none o t s k y n w = record {
  all = λ p c e. nothing p c e;
  fresh = λ p c e. nothing p c e;
  written = λ p c r e. unwritten (sym (w p c) ∙ e);
  ordered = λ r. subst (λ d. d.pins_then ≤ d.pins) (sym (n r)) zero-zero;
}
  where
    nothing : {A : Type 0} (p c : ℕ) → is_alone (at t.connections p c 0) ≡ true → A
    nothing p c e = let no : is_alone (connection_of [] p c) ≡ true = ap is_alone (sym (y.connections p c)) ∙ e in cc

    unwritten : {A : Type 0} {r : ℕ} → None ≡ Some r → A
    unwritten e = cc

    zero-zero : 0 ≤ 0
    zero-zero = omega arith

-- A give-up that does not look at a created connection, which one at most keeps, leaves it at its pin, or not there.
pub give_up-pin : (o : PoolOptions) (m r : ℕ) (reply : Reply) (h : List Item) (t : Tables) (s : PinStory) (k : Keepings) (p c : ℕ) → Stands o h t → PinsStand h s → KeepingsStand t s k → recalls t s k r p c ≡ false → nat_lt 0 (connection_of h p c).creations ≡ true → (connection_of h p c).kept ≤ 1 → is_pinned p (did (record { moment = m; act = GiveUp r }) reply ∷ h) c ≡ is_pinned p h c
give_up-pin o m r reply h t s k p c y z w e created kept = by (holds p h r c) refl
  where
    away : (u : Bool) → (at t.parties r 0 0).is_returned ≡ u → keeps t r p c || lends t r p c ≡ true → u ≡ false
    away false u held = refl
    away true u held =
        let none : keeps t r p c || lends t r p c ≡ false = (λ i. ((at t.gifts r p c).is_taken && not (u i)) || (lent-by (u i))) ∙ (λ i. back-kept (at t.gifts r p c).is_taken i || back-lent (at t.gifts r p c).is_granted (at t.gifts r p c).is_taken (at t.parties r 0 0).is_ended (not (pending_now (at t.connections p c 0))) i) in
        cc
      where
        lent-by : Bool → Bool
        lent-by g = lent_now (at t.gifts r p c) (record (at t.parties r 0 0) { is_returned = g }) && not (pending_now (at t.connections p c 0))

    -- of who keeps it
    kept-so : keeps t r p c ≡ true → in_list s.grants r p c || (in_list k.fresh r p c || (has_pinned (of_number s.doings r) && in_list k.all r p c)) ≡ false → nat_lt (pins_dropped p h c) (pins_made p h c) ≡ is_pinned p h c
    kept-so keep apart = settled (is_at_pin (of_number s.doings r) (at s.pins p c 0)) (is_above (at s.pins p c 0) (of_number s.doings r).pins) want pin-is above-is
      where
        keep-in : keeps_in (of_pool p h) (has_returned h) c r ≡ true
        keep-in = sym (keeps-is o h t r p c y) ∙ keep

        some : 1 ≤ (connection_of h p c).kept
        some = count-one (keeps_in (of_pool p h) (has_returned h) c) r (parties (of_pool p h) c) keep-in (there-kept (of_pool p h) (has_returned h) c r keep-in)

        one-here : (connection_of h p c).kept ≡ 1
        one-here = omega (arith, some, kept)

        weighs-one : weigh (λ r. 1) (of_pool p h) (has_returned h) c ≡ 1
        weighs-one = sym (weigh-counted (of_pool p h) (has_returned h) c) ∙ one-here

        names-is : weigh (λ r. r) (of_pool p h) (has_returned h) c ≡ r
        names-is = sym (same r (weigh (λ r. r) (of_pool p h) (has_returned h) c) (alone-is (of_pool p h) (has_returned h) c r weighs-one ∙ keep-in))

        keeper-is : (at s.pins p c 0).keepers ≡ r
        keeper-is = (z.fits p c).keepers_are ∙ names-is

        alone : is_alone (at t.connections p c 0) ≡ true
        alone = ap is_alone (y.connections p c) ∙ (λ i. created i && (one-here i == 1))

        listed-all : in_list k.all r p c ≡ true
        listed-all = ap (λ n. in_list k.all n p c) (sym keeper-is) ∙ w.all p c alone

        rest : in_list k.fresh r p c || (has_pinned (of_number s.doings r) && in_list k.all r p c) ≡ false
        rest = right-false (in_list s.grants r p c) _ apart

        unpinned : has_pinned (of_number s.doings r) ≡ false
        unpinned = first (has_pinned (of_number s.doings r)) (ap (λ b. has_pinned (of_number s.doings r) && b) (sym listed-all) ∙ right-false (in_list k.fresh r p c) _ rest)
          where
            first : (b : Bool) → b && true ≡ false → b ≡ false
            first true u = cc
            first false u = refl

        want : is_settled (of_number s.doings r) (at s.pins p c 0) ≡ true
        want = last (is_settled (of_number s.doings r) (at s.pins p c 0)) (in_list k.fresh r p c) (has_pinned (of_number s.doings r)) (left-false (in_list k.fresh r p c) _ rest) unpinned (subst (λ n. is_settled (of_number s.doings n) (at s.pins p c 0) || (in_list k.fresh n p c || has_pinned (of_number s.doings n)) ≡ true) keeper-is (w.fresh p c alone))
          where
            last : (a f g : Bool) → f ≡ false → g ≡ false → a || (f || g) ≡ true → a ≡ true
            last true f g u v x = refl
            last false true g u v x = cc
            last false false true u v x = cc
            last false false false u v x = x

        pin-is : is_at_pin (of_number s.doings r) (at s.pins p c 0) ≡ is_pinned p h c
        pin-is = ap (λ n. is_at_pin (of_number s.doings n) (at s.pins p c 0)) (sym keeper-is) ∙ ap (λ f. is_at_pin f (at s.pins p c 0)) (sym (alone-keeper (connection_of h p c) (of_number s.doings) (at s.pins p c 0) (λ i. created i && (one-here i == 1)))) ∙ ap (λ n. is_at_pin (if n == 1 then of_number s.doings (at s.pins p c 0).keepers else nobody) (at s.pins p c 0)) (weigh-counted (of_pool p h) (has_returned h) c) ∙ (z.fits p c).pinned_is (at-one weighs-one)
          where
            at-one : {n : ℕ} → n ≡ 1 → n ≤ 1
            at-one u = omega (arith, u)

        above-is : is_above (at s.pins p c 0) (of_number s.doings r).pins ≡ nat_lt (pins_dropped p h c) (pins_made p h c)
        above-is = above (pins_made p h c) (pins_dropped p h c) (weigh (λ n. (of_number s.doings n).pins) (of_pool p h) (has_returned h) c) (of_number s.doings r).pins (at s.pins p c 0) (z.fits p c).made_is (z.fits p c).dropped_is (sym (alone-weighs (λ n. (of_number s.doings n).pins) (of_pool p h) (has_returned h) c weighs-one ∙ ap (λ n. (of_number s.doings n).pins) names-is))

        settled : (a b : Bool) → a || not b ≡ true → a ≡ is_pinned p h c → b ≡ nat_lt (pins_dropped p h c) (pins_made p h c) → nat_lt (pins_dropped p h c) (pins_made p h c) ≡ is_pinned p h c
        settled true b u v x = last (is_pinned p h c) (nat_lt (pins_dropped p h c) (pins_made p h c)) (sym v) (pinned-again p h c)
          where
            last : (a b : Bool) → a ≡ true → a && b ≡ a → b ≡ a
            last true b u v = v
            last false b u v = cc
        settled false true u v x = cc
        settled false false u v x = sym x ∙ v

    none_more : (n : ℕ) → n + 0 ≡ n
    none_more n = omega arith

    by : (b : Bool) → holds p h r c ≡ b → is_pinned p (did (record { moment = m; act = GiveUp r }) reply ∷ h) c ≡ is_pinned p h c
    by false u = ap (λ b. (if b then true else is_pinned p h c) && nat_lt (pins_dropped p h c + 0) (pins_made p h c + 0)) u ∙ still-pinned p c h
    by true u =
        let held : keeps t r p c || lends t r p c ≡ true = ap (λ b. b || lends t r p c) (keeps-is o h t r p c y) ∙ sym (holds-is o h t r p c y) ∙ u in
        let back : (at t.parties r 0 0).is_returned ≡ false = away (at t.parties r 0 0).is_returned refl held in
        let apart : in_list s.grants r p c || (in_list k.fresh r p c || (has_pinned (of_number s.doings r) && in_list k.all r p c)) ≡ false = ap (λ b. not b && (in_list s.grants r p c || (in_list k.fresh r p c || (has_pinned (of_number s.doings r) && in_list k.all r p c)))) (sym back) ∙ e in
        let ungranted : (at t.gifts r p c).is_granted ≡ false = sym ((grants-of o h t s y z).all r p c) ∙ left-false (in_list s.grants r p c) _ apart in
        let keep : keeps t r p c ≡ true = first (keeps t r p c) (lends t r p c) (unlent t r p c ungranted) held in
        ap (λ b. (if b then true else is_pinned p h c) && nat_lt (pins_dropped p h c + 0) (pins_made p h c + 0)) u ∙ (λ i. nat_lt (none_more (pins_dropped p h c) i) (none_more (pins_made p h c) i)) ∙ kept-so keep apart
      where
        first : (a b : Bool) → b ≡ false → a || b ≡ true → a ≡ true
        first true b u v = refl
        first false true u v = cc
        first false false u v = v
