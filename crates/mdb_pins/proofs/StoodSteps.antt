-- Pins that stand for a history, and follow one more accepted step, stand for the history with it.
use Rattle.std.proofs.Common.{ℕ, ◌+◌, ◌≡◌, ◌==◌, Bool, true, false, not, ◌&&◌, ◌||◌, if◌then◌else◌, nat_lt, is_some, List, ◌∷◌, None, refl, sym, ap, ◌∙◌, arith}
use Rattle.mdb_log.specs.declared.options.PoolOptions.{PoolOptions}
use Rattle.mdb_log.specs.declared.reply.Reply.{Reply}
use Rattle.mdb_log.specs.declared.step.Act.{Act}
use Rattle.mdb_log.specs.declared.step.Act.TheVariants.{Request, Warm, GiveUp, Established, Failed, Return, Pin, Replicate, Take, Unpin}
use Rattle.mdb_log.specs.declared.step.FailedAt.TheVariants.{Pre, Post}
use Rattle.mdb_log.specs.History.{Item, PoolItem, did, of_pool, open_pool, if_so, is_number, given, has_asked, asked, warmed, gave_up, returned, pinned_by, replicated, unpinned, taken, established, failed, without}
use Rattle.mdb_log.specs.declared.step.Use.{Use}
use Rattle.mdb_log.proofs.Numbers.{same-number}
use Rattle.mdb_log.specs.Connections.{one_if}
use Rattle.mdb_log.specs.PlainHolders.{has_returned, is_taken_by, parties, pins_made, pins_dropped, is_pinned, holds}
use Rattle.mdb_tallies.specs.declared.occurrence.Occurrence.TheVariants as change
use Rattle.mdb_tallies.specs.declared.tables.Tables.{Tables}
use Rattle.mdb_tallies.specs.Tables.{at}
use Rattle.mdb_tallies.specs.Totals.{total}
use Rattle.mdb_tallies.specs.Standing.{keeps as keeps_in, is_lent, connection_of, gift_of, party_of}
use Rattle.mdb_tallies.specs.Changes.{kept_now, lent_now, pending_now}
use Rattle.mdb_tallies.specs.Reading.{of_act}
use Rattle.mdb_tallies.specs.Kept.{Stands}
use Rattle.mdb_tallies.proofs.Steps.{held-now}
use Rattle.mdb_tallies.proofs.Parties.{step-gift}
use Rattle.mdb_pins.specs.declared.doings.Doings.{Doings}
use Rattle.mdb_pins.specs.declared.pins.Pins.{Pins}
use Rattle.mdb_pins.specs.declared.story.PinStory.{PinStory}
use Rattle.mdb_pins.specs.Numbered.{of_number}
use Rattle.mdb_pins.specs.Counts.{keeper, backed, once_pinned, once_unpinned}
use Rattle.mdb_pins.specs.Following.{lends, keeps, left_by, taken_by, PinsFollow}
use Rattle.mdb_pins.specs.Standing.{weigh, Fits, PinsStand}
use Rattle.mdb_pins.proofs.Weights.{weight, weigh-taken, weigh-apart, weigh-returned, weigh-otherwise, weigh-counted}
use Rattle.mdb_pins.proofs.Alone.{alone-is, nobody-is}
use Rattle.mdb_pins.proofs.Fitting.{fits-re, gives_up, pins_once, fits-give_up, fits-pin, fits-replicate, fits-unpin, fits-return, fits-take}
use Rattle.mdb_pins.proofs.Granting.{grants-next}
use Rattle.mdb_pins.proofs.Stood.{pinned-again, sole, weigh-unsaid}

none_more : (n : ℕ) → n + 0 ≡ n
none_more n = omega arith

-- what fits the connection, for the history
abbrev pub Holds : List Item → (ℕ → Doings) → ℕ → ℕ → Pins → Type 0
Holds h doings p c x = Fits doings (pins_made p h c) (pins_dropped p h c) (is_pinned p h c) (weigh (λ r. 1) (of_pool p h) (has_returned h) c) (weigh (λ r. r) (of_pool p h) (has_returned h) c) (weigh (λ r. (doings r).pins) (of_pool p h) (has_returned h) c) x

-- how many keep it, by the tables
pub kept-is : (o : PoolOptions) (h : List Item) (t : Tables) (p c : ℕ) → Stands o h t → (at t.connections p c 0).kept ≡ weigh (λ r. 1) (of_pool p h) (has_returned h) c
kept-is o h t p c s = ap (λ x. x.kept) (s.connections p c) ∙ weigh-counted (of_pool p h) (has_returned h) c

pub keeps-is : (o : PoolOptions) (h : List Item) (t : Tables) (r p c : ℕ) → Stands o h t → keeps t r p c ≡ keeps_in (of_pool p h) (has_returned h) c r
keeps-is o h t r p c s = (λ i. kept_now (s.gifts r p c i) (s.parties r i))

pub lends-is : (o : PoolOptions) (h : List Item) (t : Tables) (r p c : ℕ) → Stands o h t → lends t r p c ≡ lent_now (gift_of h r p c) (party_of h r) && not (pending_now (connection_of h p c))
lends-is o h t r p c s = (λ i. lent_now (s.gifts r p c i) (s.parties r i) && not (pending_now (s.connections p c i)))

-- who holds it keeps it, or was lent it
pub holds-is : (o : PoolOptions) (h : List Item) (t : Tables) (r p c : ℕ) → Stands o h t → holds p h r c ≡ keeps_in (of_pool p h) (has_returned h) c r || lends t r p c
holds-is o h t r p c s = held-now p h r c ∙ ap (λ b. keeps_in (of_pool p h) (has_returned h) c r || b) (sym (lends-is o h t r p c s))

not-both : (g t gone over rest : Bool) → (t && not gone) && (is_lent g t gone over && rest) ≡ false
not-both true true true over rest = refl
not-both true true false over rest = refl
not-both false true true over rest = refl
not-both false true false over rest = refl
not-both g false gone over rest = refl

apart : (o : PoolOptions) (h : List Item) (t : Tables) (r p c : ℕ) → Stands o h t → keeps_in (of_pool p h) (has_returned h) c r && lends t r p c ≡ false
apart o h t r p c s = ap (λ b. keeps_in (of_pool p h) (has_returned h) c r && b) (lends-is o h t r p c s) ∙ not-both (gift_of h r p c).is_granted (gift_of h r p c).is_taken (party_of h r).is_returned (party_of h r).is_ended (not (pending_now (connection_of h p c)))

-- a step that is about no pin, and about no keeper
quiet : (h k : List Item) (doings doings-now : ℕ → Doings) (p c : ℕ) (x x-now : Pins) → ((n : ℕ) → doings-now n ≡ doings n) → pins_made p k c ≡ pins_made p h c → pins_dropped p k c ≡ pins_dropped p h c → is_pinned p k c ≡ is_pinned p h c → ((f : ℕ → ℕ) → weigh f (of_pool p k) (has_returned k) c ≡ weigh f (of_pool p h) (has_returned h) c) → x-now ≡ x → Holds h doings p c x → Holds k doings-now p c x-now
quiet h k doings doings-now p c x x-now e m d z w f fits = fits-re doings doings-now (pins_made p h c) (pins_made p k c) (pins_dropped p h c) (pins_dropped p k c) (is_pinned p h c) (is_pinned p k c) _ _ _ _ _ _ x x-now e m d z (w (λ r. 1)) (w (λ r. r)) (w (λ r. (doings-now r).pins) ∙ (λ i. weigh (λ r. (e r i).pins) (of_pool p h) (has_returned h) c)) f fits

pub still-pinned : (p c : ℕ) (h : List Item) → is_pinned p h c && nat_lt (pins_dropped p h c + 0) (pins_made p h c + 0) ≡ is_pinned p h c
still-pinned p c h = rw (none_more (pins_dropped p h c), none_more (pins_made p h c)) (pinned-again p h c)

-- A give-up.
gave_up-stood : (o : PoolOptions) (m r : ℕ) (reply : Reply) (h : List Item) (t : Tables) (old new : PinStory) → Stands o h t → PinsFollow (change.GivenUp r) t old new → (p c : ℕ) → Holds h (of_number old.doings) p c (at old.pins p c 0) → Holds (did (record { moment = m; act = GiveUp r }) reply ∷ h) (of_number new.doings) p c (at new.pins p c 0)
gave_up-stood o m r reply h t old new s f p c fits =
    let b : Bool = keeps_in (of_pool p h) (has_returned h) c r in
    let l : Bool = lends t r p c in
    fits-re (λ n. if r == n then gives_up (of_number old.doings n) else of_number old.doings n) (of_number new.doings) (pins_made p h c) _ (pins_dropped p h c) _ ((if b || l then true else is_pinned p h c) && nat_lt (pins_dropped p h c) (pins_made p h c)) _ (weigh (λ r. 1) (of_pool p h) (has_returned h) c) _ (weigh (λ r. r) (of_pool p h) (has_returned h) c) _ (weigh (λ n. (of_number old.doings n).pins) (of_pool p h) (has_returned h) c) _ (if l then backed (keeper (weigh (λ r. 1) (of_pool p h) (has_returned h) c) (of_number old.doings) (at old.pins p c 0)) (at old.pins p c 0) else at old.pins p c 0) (at new.pins p c 0)
    f.doings (none_more (pins_made p h c)) (none_more (pins_dropped p h c))
    (λ i. (if holds-is o h t r p c s i then true else is_pinned p h c) && nat_lt (none_more (pins_dropped p h c) i) (none_more (pins_made p h c) i))
    (weigh-unsaid (λ r. 1) (has_asked (of_pool p h) r) (gave_up r) (of_pool p h) (has_returned h) c refl) (weigh-unsaid (λ r. r) (has_asked (of_pool p h) r) (gave_up r) (of_pool p h) (has_returned h) c refl)
    (weigh-unsaid (λ n. (of_number new.doings n).pins) (has_asked (of_pool p h) r) (gave_up r) (of_pool p h) (has_returned h) c refl ∙ (λ i. weigh (λ n. pins n i) (of_pool p h) (has_returned h) c))
    (f.pins p c ∙ ap (λ k. if lends t r p c then backed (keeper k (of_number old.doings) (at old.pins p c 0)) (at old.pins p c 0) else at old.pins p c 0) (kept-is o h t p c s))
    (fits-give_up r b l (of_number old.doings) (pins_made p h c) (pins_dropped p h c) (is_pinned p h c) _ _ _ (at old.pins p c 0) (sole (of_number old.doings) (of_pool p h) (has_returned h) c) (pinned-again p h c) (alone-is (of_pool p h) (has_returned h) c r) (nobody-is (of_pool p h) (has_returned h) c r) (apart o h t r p c s) fits)
  where
    pins : (n : ℕ) → (of_number new.doings n).pins ≡ (of_number old.doings n).pins
    pins n = ap (λ d. d.pins) (f.doings n) ∙ go (r == n)
      where
        go : (b : Bool) → (if b then gives_up (of_number old.doings n) else of_number old.doings n).pins ≡ (of_number old.doings n).pins
        go true = refl
        go false = refl

-- what the keepers pinned together, after the party pinned
pinned-sum : (r : ℕ) (doings doings-now : ℕ → Doings) (xs : List PoolItem) (gone : ℕ → Bool) (c : ℕ) → ((n : ℕ) → doings-now n ≡ (if r == n then pins_once (doings n) else doings n)) → weigh (λ n. (doings-now n).pins) xs gone c ≡ weigh (λ n. (doings n).pins) xs gone c + one_if (keeps_in xs gone c r)
pinned-sum r doings doings-now xs gone c e =
    let other = weigh-otherwise (λ n. (doings n).pins) (λ n. (doings-now n).pins) r xs gone c (λ j u. ap (λ d. d.pins) (e j ∙ ap (λ b. if b then pins_once (doings j) else doings j) u)) in
    by (keeps_in xs gone c r) refl other
  where
    once : (doings-now r).pins ≡ (doings r).pins + 1
    once = ap (λ d. d.pins) (e r ∙ ap (λ b. if b then pins_once (doings r) else doings r) (same-number r))

    by : (b : Bool) → keeps_in xs gone c r ≡ b → weigh (λ n. (doings-now n).pins) xs gone c + (if keeps_in xs gone c r then (doings r).pins else 0) ≡ weigh (λ n. (doings n).pins) xs gone c + (if keeps_in xs gone c r then (doings-now r).pins else 0) → weigh (λ n. (doings-now n).pins) xs gone c ≡ weigh (λ n. (doings n).pins) xs gone c + one_if b
    by true u v = let w = rw u at v in omega (arith, w, once)
    by false u v = let w = rw u at v in omega (arith, w)

-- A pin by a party.
pinned-stood : (o : PoolOptions) (m r : ℕ) (reply : Reply) (h : List Item) (t : Tables) (old new : PinStory) → Stands o h t → PinsFollow (change.Pinned r) t old new → (p c : ℕ) → Holds h (of_number old.doings) p c (at old.pins p c 0) → Holds (did (record { moment = m; act = Pin r }) reply ∷ h) (of_number new.doings) p c (at new.pins p c 0)
pinned-stood o m r reply h t old new s f p c fits =
    let b : Bool = keeps_in (of_pool p h) (has_returned h) c r in
    let l : Bool = lends t r p c in
    fits-re (λ n. if r == n then pins_once (of_number old.doings n) else of_number old.doings n) (of_number new.doings) (pins_made p h c + one_if (b || l)) _ (pins_dropped p h c) _ (is_pinned p h c && nat_lt (pins_dropped p h c) (pins_made p h c + one_if (b || l))) _ (weigh (λ r. 1) (of_pool p h) (has_returned h) c) _ (weigh (λ r. r) (of_pool p h) (has_returned h) c) _ (weigh (λ n. (of_number old.doings n).pins) (of_pool p h) (has_returned h) c + one_if b) _ (if l then once_pinned (keeper (weigh (λ r. 1) (of_pool p h) (has_returned h) c) (of_number old.doings) (at old.pins p c 0)) (at old.pins p c 0) else at old.pins p c 0) (at new.pins p c 0)
    f.doings (ap (λ x. pins_made p h c + one_if x) (holds-is o h t r p c s)) (none_more (pins_dropped p h c))
    (λ i. is_pinned p h c && nat_lt (none_more (pins_dropped p h c) i) (pins_made p h c + one_if (holds-is o h t r p c s i)))
    (weigh-unsaid (λ r. 1) (is_some (given (of_pool p h) r)) (pinned_by r) (of_pool p h) (has_returned h) c refl) (weigh-unsaid (λ r. r) (is_some (given (of_pool p h) r)) (pinned_by r) (of_pool p h) (has_returned h) c refl)
    (weigh-unsaid (λ n. (of_number new.doings n).pins) (is_some (given (of_pool p h) r)) (pinned_by r) (of_pool p h) (has_returned h) c refl ∙ pinned-sum r (of_number old.doings) (of_number new.doings) (of_pool p h) (has_returned h) c f.doings)
    (f.pins p c ∙ ap (λ k. if lends t r p c then once_pinned (keeper k (of_number old.doings) (at old.pins p c 0)) (at old.pins p c 0) else at old.pins p c 0) (kept-is o h t p c s))
    (fits-pin r b l (of_number old.doings) (pins_made p h c) (pins_dropped p h c) (is_pinned p h c) _ _ _ (at old.pins p c 0) (sole (of_number old.doings) (of_pool p h) (has_returned h) c) (pinned-again p h c) (alone-is (of_pool p h) (has_returned h) c r) (nobody-is (of_pool p h) (has_returned h) c r) (apart o h t r p c s) fits)

-- A return.
returned-stood : (o : PoolOptions) (m r : ℕ) (used : Use) (reply : Reply) (h : List Item) (t : Tables) (old new : PinStory) → Stands o h t → PinsFollow (change.Returned r) t old new → (p c : ℕ) → Holds h (of_number old.doings) p c (at old.pins p c 0) → Holds (did (record { moment = m; act = Return r used }) reply ∷ h) (of_number new.doings) p c (at new.pins p c 0)
returned-stood o m r used reply h t old new s f p c fits =
    let b : Bool = keeps_in (of_pool p h) (has_returned h) c r in
    let l : Bool = lends t r p c in
    let k = weigh (λ r. 1) (of_pool p h) (has_returned h) c in
    let back : ℕ → Bool = (λ q. (r == q) || has_returned h q) in
    fits-re (of_number old.doings) (of_number new.doings) (pins_made p h c) _ (pins_dropped p h c) _ ((if b || l then true else is_pinned p h c) && nat_lt (pins_dropped p h c) (pins_made p h c)) _ (weigh (λ r. 1) (of_pool p h) (λ q. (r == q) || has_returned h q) c) _ (weigh (λ r. r) (of_pool p h) (λ q. (r == q) || has_returned h q) c) _ (weigh (λ n. (of_number old.doings n).pins) (of_pool p h) (λ q. (r == q) || has_returned h q) c) _ (if b then left_by (weigh (λ r. 1) (of_pool p h) (has_returned h) c) (of_number old.doings) r (at old.pins p c 0) else (if l then backed (keeper (weigh (λ r. 1) (of_pool p h) (has_returned h) c) (of_number old.doings) (at old.pins p c 0)) (at old.pins p c 0) else at old.pins p c 0)) (at new.pins p c 0)
    f.doings (none_more (pins_made p h c)) (none_more (pins_dropped p h c))
    (λ i. (if holds-is o h t r p c s i then true else is_pinned p h c) && nat_lt (none_more (pins_dropped p h c) i) (none_more (pins_made p h c) i))
    (weigh-unsaid (λ r. 1) (is_some (given (of_pool p h) r)) (returned r used) (of_pool p h) (λ q. (r == q) || has_returned h q) c refl) (weigh-unsaid (λ r. r) (is_some (given (of_pool p h) r)) (returned r used) (of_pool p h) (λ q. (r == q) || has_returned h q) c refl)
    (weigh-unsaid (λ n. (of_number new.doings n).pins) (is_some (given (of_pool p h) r)) (returned r used) (of_pool p h) (λ q. (r == q) || has_returned h q) c refl ∙ (λ i. weigh (λ n. (f.doings n i).pins) (of_pool p h) (λ q. (r == q) || has_returned h q) c))
    (f.pins p c ∙ (λ i. if keeps-is o h t r p c s i then left_by (kept-is o h t p c s i) (of_number old.doings) r (at old.pins p c 0) else (if lends t r p c then backed (keeper (kept-is o h t p c s i) (of_number old.doings) (at old.pins p c 0)) (at old.pins p c 0) else at old.pins p c 0)))
    (fits-return r b l (of_number old.doings) (pins_made p h c) (pins_dropped p h c) (is_pinned p h c) _ _ _ _ _ _ (at old.pins p c 0) (sole (of_number old.doings) (of_pool p h) (has_returned h) c) (sole (of_number old.doings) (of_pool p h) (λ q. (r == q) || has_returned h q) c) (pinned-again p h c) (weigh-returned (λ r. 1) r (of_pool p h) (has_returned h) c) (weigh-returned (λ r. r) r (of_pool p h) (has_returned h) c) (weigh-returned (λ n. (of_number old.doings n).pins) r (of_pool p h) (has_returned h) c) fits)

-- a step on one connection: of it, or of another
at-one : (k : List Item) (doings doings-now : ℕ → Doings) (p c : ℕ) (b : Bool) (y x x-now : Pins) → x-now ≡ (if b then y else x) → (b ≡ true → Holds k doings p c y) → (b ≡ false → Holds k doings p c x) → ((n : ℕ) → doings-now n ≡ doings n) → Holds k doings-now p c x-now
at-one k doings doings-now p c b y x x-now is here elsewhere e = fits-re doings doings-now _ _ _ _ _ _ _ _ _ _ (weigh (λ n. (doings n).pins) (of_pool p k) (has_returned k) c) _ (if b then y else x) x-now e refl refl refl refl refl (λ i. weigh (λ n. (e n i).pins) (of_pool p k) (has_returned k) c) is (by b refl)
  where
    by : (t : Bool) → b ≡ t → Holds k doings p c (if t then y else x)
    by true u = here u
    by false u = elsewhere u

-- A replicate.
replicated-stood : (o : PoolOptions) (m q d : ℕ) (reply : Reply) (h : List Item) (t : Tables) (old new : PinStory) → Stands o h t → PinsFollow (change.Replicated q d) t old new → (p c : ℕ) → Holds h (of_number old.doings) p c (at old.pins p c 0) → Holds (did (record { moment = m; act = Replicate q d }) reply ∷ h) (of_number new.doings) p c (at new.pins p c 0)
replicated-stood o m q d reply h t old new s f p c fits = at-one (did (record { moment = m; act = Replicate q d }) reply ∷ h) (of_number old.doings) (of_number new.doings) p c ((q == p) && (d == c)) (once_pinned (keeper (at t.connections p c 0).kept (of_number old.doings) (at old.pins p c 0)) (at old.pins p c 0)) (at old.pins p c 0) (at new.pins p c 0) (f.pins p c) here elsewhere f.doings
  where
    same-weight : (f : ℕ → ℕ) → weigh f (if_so (q == p) (replicated d) (of_pool p h)) (has_returned h) c ≡ weigh f (of_pool p h) (has_returned h) c
    same-weight f = weigh-unsaid f (q == p) (replicated d) (of_pool p h) (has_returned h) c refl

    here : (q == p) && (d == c) ≡ true → Holds (did (record { moment = m; act = Replicate q d }) reply ∷ h) (of_number old.doings) p c (once_pinned (keeper (at t.connections p c 0).kept (of_number old.doings) (at old.pins p c 0)) (at old.pins p c 0))
    here u = fits-re (of_number old.doings) (of_number old.doings) (pins_made p h c + 1) _ (pins_dropped p h c) _ (is_pinned p h c && nat_lt (pins_dropped p h c) (pins_made p h c + 1)) _ (weigh (λ r. 1) (of_pool p h) (has_returned h) c) _ (weigh (λ r. r) (of_pool p h) (has_returned h) c) _ (weigh (λ n. (of_number old.doings n).pins) (of_pool p h) (has_returned h) c) _ (once_pinned (keeper (weigh (λ r. 1) (of_pool p h) (has_returned h) c) (of_number old.doings) (at old.pins p c 0)) (at old.pins p c 0)) _
        (λ n. refl) (ap (λ b. pins_made p h c + one_if b) u) (none_more (pins_dropped p h c)) (λ i. is_pinned p h c && nat_lt (none_more (pins_dropped p h c) i) (pins_made p h c + one_if (u i)))
        (same-weight (λ r. 1)) (same-weight (λ r. r)) (same-weight (λ n. (of_number old.doings n).pins)) (ap (λ k. once_pinned (keeper k (of_number old.doings) (at old.pins p c 0)) (at old.pins p c 0)) (kept-is o h t p c s))
        (fits-replicate (of_number old.doings) (pins_made p h c) (pins_dropped p h c) (is_pinned p h c) _ _ _ (at old.pins p c 0) (pinned-again p h c) fits)

    elsewhere : (q == p) && (d == c) ≡ false → Holds (did (record { moment = m; act = Replicate q d }) reply ∷ h) (of_number old.doings) p c (at old.pins p c 0)
    elsewhere u = quiet h (did (record { moment = m; act = Replicate q d }) reply ∷ h) (of_number old.doings) (of_number old.doings) p c (at old.pins p c 0) (at old.pins p c 0) (λ n. refl) (ap (λ b. pins_made p h c + one_if b) u ∙ none_more (pins_made p h c)) (none_more (pins_dropped p h c)) ((λ i. is_pinned p h c && nat_lt (pins_dropped p h c + 0) (pins_made p h c + one_if (u i))) ∙ still-pinned p c h) same-weight refl fits

-- An unpin.
unpinned-stood : (o : PoolOptions) (m q d : ℕ) (reply : Reply) (h : List Item) (t : Tables) (old new : PinStory) → Stands o h t → PinsFollow (change.Unpinned q d) t old new → (p c : ℕ) → Holds h (of_number old.doings) p c (at old.pins p c 0) → Holds (did (record { moment = m; act = Unpin q d }) reply ∷ h) (of_number new.doings) p c (at new.pins p c 0)
unpinned-stood o m q d reply h t old new s f p c fits = at-one (did (record { moment = m; act = Unpin q d }) reply ∷ h) (of_number old.doings) (of_number new.doings) p c ((q == p) && (d == c)) (once_unpinned (keeper (at t.connections p c 0).kept (of_number old.doings) (at old.pins p c 0)) (at old.pins p c 0)) (at old.pins p c 0) (at new.pins p c 0) (f.pins p c) here elsewhere f.doings
  where
    same-weight : (f : ℕ → ℕ) → weigh f (if_so (q == p) (unpinned d) (of_pool p h)) (has_returned h) c ≡ weigh f (of_pool p h) (has_returned h) c
    same-weight f = weigh-unsaid f (q == p) (unpinned d) (of_pool p h) (has_returned h) c refl

    here : (q == p) && (d == c) ≡ true → Holds (did (record { moment = m; act = Unpin q d }) reply ∷ h) (of_number old.doings) p c (once_unpinned (keeper (at t.connections p c 0).kept (of_number old.doings) (at old.pins p c 0)) (at old.pins p c 0))
    here u = fits-re (of_number old.doings) (of_number old.doings) (pins_made p h c) _ (pins_dropped p h c + 1) _ (is_pinned p h c && nat_lt (pins_dropped p h c + 1) (pins_made p h c)) _ (weigh (λ r. 1) (of_pool p h) (has_returned h) c) _ (weigh (λ r. r) (of_pool p h) (has_returned h) c) _ (weigh (λ n. (of_number old.doings n).pins) (of_pool p h) (has_returned h) c) _ (once_unpinned (keeper (weigh (λ r. 1) (of_pool p h) (has_returned h) c) (of_number old.doings) (at old.pins p c 0)) (at old.pins p c 0)) _
        (λ n. refl) (none_more (pins_made p h c)) (ap (λ b. pins_dropped p h c + one_if b) u) (λ i. is_pinned p h c && nat_lt (pins_dropped p h c + one_if (u i)) (none_more (pins_made p h c) i))
        (same-weight (λ r. 1)) (same-weight (λ r. r)) (same-weight (λ n. (of_number old.doings n).pins)) (ap (λ k. once_unpinned (keeper k (of_number old.doings) (at old.pins p c 0)) (at old.pins p c 0)) (kept-is o h t p c s))
        (fits-unpin (of_number old.doings) (pins_made p h c) (pins_dropped p h c) (is_pinned p h c) _ _ _ (at old.pins p c 0) (sole (of_number old.doings) (of_pool p h) (has_returned h) c) fits)

    elsewhere : (q == p) && (d == c) ≡ false → Holds (did (record { moment = m; act = Unpin q d }) reply ∷ h) (of_number old.doings) p c (at old.pins p c 0)
    elsewhere u = quiet h (did (record { moment = m; act = Unpin q d }) reply ∷ h) (of_number old.doings) (of_number old.doings) p c (at old.pins p c 0) (at old.pins p c 0) (λ n. refl) (none_more (pins_made p h c)) (ap (λ b. pins_dropped p h c + one_if b) u ∙ none_more (pins_dropped p h c)) ((λ i. is_pinned p h c && nat_lt (pins_dropped p h c + one_if (u i)) (pins_made p h c + 0)) ∙ still-pinned p c h) same-weight refl fits

-- what the keepers weigh after a take, where the party keeps it or not, and returned or not
new-weight : (b gone : Bool) (w v n : ℕ) (took : Bool) → b ≡ took && not gone → v + (if b then n else 0) ≡ w + (if not gone then n else 0) → v ≡ w + (if not gone && not b then n else 0)
new-weight true true w v n true e f = cc
new-weight true true w v n false e f = cc
new-weight true false w v n took e f = omega arith
new-weight false true w v n took e f = omega arith
new-weight false false w v n took e f = omega arith

one-of : (b : Bool) → (if b then 1 else 0) ≡ one_if b
one-of true = refl
one-of false = refl

-- a take of another connection
taken-else : (f : ℕ → ℕ) (u v : Bool) (r d : ℕ) (xs : List PoolItem) (gone : ℕ → Bool) (c : ℕ) → (d == c) ≡ v → u && v ≡ false → weigh f (if_so u (taken r d) xs) gone c ≡ weigh f xs gone c
taken-else f false v r d xs gone c e n = refl
taken-else f true true r d xs gone c e n = cc
taken-else f true false r d xs gone c e n = (λ i. total (weight (λ q. (((r == q) && e i) || is_taken_by xs q c) && not (gone q)) f) (if e i then (r ∷ without r (parties xs c)) else parties xs c)) ∙ weigh-apart f r xs gone c

-- a take of this one
taken-here : (f : ℕ → ℕ) (u v : Bool) (r d : ℕ) (xs : List PoolItem) (gone : ℕ → Bool) (c : ℕ) → (d == c) ≡ v → u && v ≡ true → weigh f (if_so u (taken r d) xs) gone c ≡ weigh f xs gone c + (if not (gone r) && not (keeps_in xs gone c r) then f r else 0)
taken-here f false v r d xs gone c e n = cc
taken-here f true false r d xs gone c e n = cc
taken-here f true true r d xs gone c e n = (λ i. total (weight (λ q. (((r == q) && e i) || is_taken_by xs q c) && not (gone q)) f) (if e i then (r ∷ without r (parties xs c)) else parties xs c)) ∙ new-weight (keeps_in xs gone c r) (gone r) (weigh f xs gone c) _ (f r) (is_taken_by xs r c) refl (weigh-taken f r xs gone c)

-- A take.
taken-stood : (o : PoolOptions) (m r q d : ℕ) (reply : Reply) (h : List Item) (t : Tables) (old new : PinStory) → Stands o h t → PinsFollow (change.Taken r q d) t old new → (p c : ℕ) → Holds h (of_number old.doings) p c (at old.pins p c 0) → Holds (did (record { moment = m; act = Take r q d }) reply ∷ h) (of_number new.doings) p c (at new.pins p c 0)
taken-stood o m r q d reply h t old new s f p c fits = at-one (did (record { moment = m; act = Take r q d }) reply ∷ h) (of_number old.doings) (of_number new.doings) p c ((q == p) && (d == c)) (taken_by (not (at t.parties r 0 0).is_returned && not (keeps t r p c)) (at t.connections p c 0).kept (of_number old.doings) r (at old.pins p c 0)) (at old.pins p c 0) (at new.pins p c 0) (f.pins p c) here elsewhere f.doings
  where
    returned-is : (at t.parties r 0 0).is_returned ≡ has_returned h r
    returned-is = ap (λ x. x.is_returned) (s.parties r)

    here : (q == p) && (d == c) ≡ true → Holds (did (record { moment = m; act = Take r q d }) reply ∷ h) (of_number old.doings) p c (taken_by (not (at t.parties r 0 0).is_returned && not (keeps t r p c)) (at t.connections p c 0).kept (of_number old.doings) r (at old.pins p c 0))
    here u =
        let fresh : Bool = not (has_returned h r) && not (keeps_in (of_pool p h) (has_returned h) c r) in
        fits-re (of_number old.doings) (of_number old.doings) (pins_made p h c) _ (pins_dropped p h c) _ (false && nat_lt (pins_dropped p h c) (pins_made p h c)) _ (weigh (λ r. 1) (of_pool p (did (record { moment = m; act = Take r q d }) reply ∷ h)) (has_returned h) c) _ (weigh (λ r. r) (of_pool p (did (record { moment = m; act = Take r q d }) reply ∷ h)) (has_returned h) c) _ (weigh (λ n. (of_number old.doings n).pins) (of_pool p (did (record { moment = m; act = Take r q d }) reply ∷ h)) (has_returned h) c) _ (taken_by (not (has_returned h r) && not (keeps_in (of_pool p h) (has_returned h) c r)) (weigh (λ r. 1) (of_pool p h) (has_returned h) c) (of_number old.doings) r (at old.pins p c 0)) _
        (λ n. refl) (none_more (pins_made p h c)) (none_more (pins_dropped p h c)) (λ i. (if u i then false else is_pinned p h c) && nat_lt (none_more (pins_dropped p h c) i) (none_more (pins_made p h c) i)) refl refl refl
        (λ i. taken_by (not (returned-is i) && not (keeps-is o h t r p c s i)) (kept-is o h t p c s i) (of_number old.doings) r (at old.pins p c 0))
        (fits-take r (not (has_returned h r) && not (keeps_in (of_pool p h) (has_returned h) c r)) (of_number old.doings) (pins_made p h c) (pins_dropped p h c) (is_pinned p h c) _ _ _ _ _ _ (at old.pins p c 0) (taken-here (λ r. 1) (q == p) (d == c) r d (of_pool p h) (has_returned h) c refl u ∙ ap (λ n. weigh (λ r. 1) (of_pool p h) (has_returned h) c + n) (one-of fresh)) (taken-here (λ r. r) (q == p) (d == c) r d (of_pool p h) (has_returned h) c refl u) (taken-here (λ n. (of_number old.doings n).pins) (q == p) (d == c) r d (of_pool p h) (has_returned h) c refl u) fits)

    elsewhere : (q == p) && (d == c) ≡ false → Holds (did (record { moment = m; act = Take r q d }) reply ∷ h) (of_number old.doings) p c (at old.pins p c 0)
    elsewhere u = quiet h (did (record { moment = m; act = Take r q d }) reply ∷ h) (of_number old.doings) (of_number old.doings) p c (at old.pins p c 0) (at old.pins p c 0) (λ n. refl) (none_more (pins_made p h c)) (none_more (pins_dropped p h c)) ((λ i. (if u i then false else is_pinned p h c) && nat_lt (pins_dropped p h c + 0) (pins_made p h c + 0)) ∙ still-pinned p c h) (λ f. taken-else f (q == p) (d == c) r d (of_pool p h) (has_returned h) c refl u) refl fits

-- a step that changes nothing of the pins
quiet-stood : (h : List Item) (m : ℕ) (act : Act) (reply : Reply) (old new : PinStory) → (p c : ℕ) → pins_made p (did (record { moment = m; act = act }) reply ∷ h) c ≡ pins_made p h c → pins_dropped p (did (record { moment = m; act = act }) reply ∷ h) c ≡ pins_dropped p h c → is_pinned p (did (record { moment = m; act = act }) reply ∷ h) c ≡ is_pinned p h c && nat_lt (pins_dropped p h c + 0) (pins_made p h c + 0) → ((f : ℕ → ℕ) → weigh f (of_pool p (did (record { moment = m; act = act }) reply ∷ h)) (has_returned (did (record { moment = m; act = act }) reply ∷ h)) c ≡ weigh f (of_pool p h) (has_returned h) c) → ((n : ℕ) → of_number new.doings n ≡ of_number old.doings n) → at new.pins p c 0 ≡ at old.pins p c 0 → Holds h (of_number old.doings) p c (at old.pins p c 0) → Holds (did (record { moment = m; act = act }) reply ∷ h) (of_number new.doings) p c (at new.pins p c 0)
quiet-stood h m act reply old new p c made dropped pin w e x fits = quiet h (did (record { moment = m; act = act }) reply ∷ h) (of_number old.doings) (of_number new.doings) p c (at old.pins p c 0) (at new.pins p c 0) e made dropped (pin ∙ still-pinned p c h) w x fits

-- what fits after one more accepted step
fits-step : (o : PoolOptions) (m : ℕ) (act : Act) (reply : Reply) (h : List Item) (t : Tables) (old new : PinStory) → Stands o h t → PinsFollow (of_act (open_pool h) act) t old new → (p c : ℕ) → Holds h (of_number old.doings) p c (at old.pins p c 0) → Holds (did (record { moment = m; act = act }) reply ∷ h) (of_number new.doings) p c (at new.pins p c 0)
fits-step o m (GiveUp r) reply h t old new s f p c fits = gave_up-stood o m r reply h t old new s f p c fits
fits-step o m (Return r used) reply h t old new s f p c fits = returned-stood o m r used reply h t old new s f p c fits
fits-step o m (Pin r) reply h t old new s f p c fits = pinned-stood o m r reply h t old new s f p c fits
fits-step o m (Replicate q d) reply h t old new s f p c fits = replicated-stood o m q d reply h t old new s f p c fits
fits-step o m (Unpin q d) reply h t old new s f p c fits = unpinned-stood o m q d reply h t old new s f p c fits
fits-step o m (Take r q d) reply h t old new s f p c fits = taken-stood o m r q d reply h t old new s f p c fits
fits-step o m (Request r a) reply h t old new s f p c fits = quiet-stood h m (Request r a) reply old new p c (none_more (pins_made p h c)) (none_more (pins_dropped p h c)) refl (λ g. weigh-unsaid g (is_number (open_pool h a) p) (asked r m) (of_pool p h) (has_returned h) c refl) f.doings (f.pins p c) fits
fits-step o m (Warm r a) reply h t old new s f p c fits = quiet-stood h m (Warm r a) reply old new p c (none_more (pins_made p h c)) (none_more (pins_dropped p h c)) refl (λ g. weigh-unsaid g (is_number (open_pool h a) p) (warmed r m) (of_pool p h) (has_returned h) c refl) f.doings (f.pins p c) fits
fits-step o m (Established q d how) reply h t old new s f p c fits = quiet-stood h m (Established q d how) reply old new p c (none_more (pins_made p h c)) (none_more (pins_dropped p h c)) refl (λ g. weigh-unsaid g (q == p) (established d how m) (of_pool p h) (has_returned h) c refl) f.doings (f.pins p c) fits
fits-step o m (Failed q d Pre error) reply h t old new s f p c fits = quiet-stood h m (Failed q d Pre error) reply old new p c (none_more (pins_made p h c)) (none_more (pins_dropped p h c)) refl (λ g. weigh-unsaid g (q == p) (failed d None) (of_pool p h) (has_returned h) c refl) f.doings (f.pins p c) fits
fits-step o m (Failed q d (Post service) error) reply h t old new s f p c fits = quiet-stood h m (Failed q d (Post service) error) reply old new p c (none_more (pins_made p h c)) (none_more (pins_dropped p h c)) refl (λ g. weigh-unsaid g (q == p) (failed d service) (of_pool p h) (has_returned h) c refl) f.doings (f.pins p c) fits
fits-step o m act reply h t old new s f p c fits = quiet-stood h m act reply old new p c (none_more (pins_made p h c)) (none_more (pins_dropped p h c)) refl (λ g. refl) f.doings (f.pins p c) fits

-- One more accepted step.
pub stood-step : (o : PoolOptions) (m : ℕ) (act : Act) (reply : Reply) (h : List Item) (t : Tables) (old new : PinStory) → Stands o h t → PinsStand h old → PinsFollow (of_act (open_pool h) act) t old new → PinsStand (did (record { moment = m; act = act }) reply ∷ h) new
stood-step o m act reply h t old new s z f =
    let grants = grants-next (of_act (open_pool h) act) t old.grants new.grants (gift_of h) s.gifts (z.grants, z.once) f.grants in
    record {
      fits = λ p c. fits-step o m act reply h t old new s f p c (z.fits p c);
      grants = λ r p c. grants.0 r p c ∙ ap (λ g. g.is_granted) (sym (step-gift m act reply h r p c));
      once = grants.1;
    }
