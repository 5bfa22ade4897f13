-- What one more item changes of a party, and of how it was given a connection.
use Rattle.std.proofs.Common.{ℕ, ◌≡◌, ◌==◌, Bool, true, false, not, ◌&&◌, ◌||◌, if◌then◌else◌, Some, None, Option, List, [], ◌∷◌, refl, sym, ap, ◌∙◌}
use Rattle.mdb_events.specs.declared.cmap.CmapEvent.{CmapEvent}
use Rattle.mdb_events.specs.declared.cmap.CmapEvent.TheVariants.{PoolCreated, PoolReady, PoolClosed, ConnectionCreated, ConnectionClosed, ConnectionCheckedIn}
use Rattle.mdb_events.specs.declared.fact.Fact.{Fact}
use Rattle.mdb_events.specs.declared.fact.Fact.TheVariants.{Pool, Granted, Ended, Raised}
use Rattle.mdb_log.specs.declared.step.Act.{Act}
use Rattle.mdb_log.specs.declared.step.Act.TheVariants.{Request, Warm, GiveUp, Established, Failed, Return, Pin, Replicate, Take, Unpin}
use Rattle.mdb_log.specs.declared.step.FailedAt.TheVariants.{Pre, Post}
use Rattle.mdb_log.specs.declared.reply.Reply.{Reply}
use Rattle.mdb_log.specs.History.{Item, PoolItem, did, made, of_pool, open_pool, if_so, granted, taken}
use Rattle.mdb_log.specs.Requests.{some_act, was_asked}
use Rattle.mdb_log.specs.PlainHolders.{has_returned}
use Rattle.mdb_log.specs.PlainRequests.{pool_of, is_warm, is_granted, is_ended, asked_now, warms}
use Rattle.mdb_tallies.specs.declared.party.Gift.{Gift}
use Rattle.mdb_tallies.specs.declared.party.Party.{Party}
use Rattle.mdb_tallies.specs.Standing.{gift_by, gift_of, party_of}
use Rattle.mdb_tallies.specs.Changes.{gift_after, party_after}
use Rattle.mdb_tallies.specs.Reading.{of_fact, of_event, of_act}

granted_bit : (u t : Bool) (x : Gift) → record x { is_granted = (u && t) || x.is_granted } ≡ (if (u && true) && t then record x { is_granted = true } else x)
granted_bit true true x = refl
granted_bit true false x = refl
granted_bit false t x = refl

taken_bit : (u t : Bool) (x : Gift) → record x { is_taken = (u && t) || x.is_taken } ≡ (if (u && true) && t then record x { is_taken = true } else x)
taken_bit true true x = refl
taken_bit true false x = refl
taken_bit false t x = refl

elsewhere : (u t : Bool) (x y : Gift) → x ≡ (if (u && false) && t then y else x)
elsewhere true t x y = refl
elsewhere false t x y = refl

gift-granted : (b : Bool) (s d : ℕ) (xs : List PoolItem) (r c : ℕ) → gift_by (if_so b (granted s d) xs) r c ≡ (if ((s == r) && b) && (d == c) then record (gift_by xs r c) { is_granted = true } else gift_by xs r c)
gift-granted true s d xs r c = granted_bit (s == r) (d == c) (gift_by xs r c)
gift-granted false s d xs r c = elsewhere (s == r) (d == c) (gift_by xs r c) (record (gift_by xs r c) { is_granted = true })

gift-taken : (b : Bool) (s d : ℕ) (xs : List PoolItem) (r c : ℕ) → gift_by (if_so b (taken s d) xs) r c ≡ (if ((s == r) && b) && (d == c) then record (gift_by xs r c) { is_taken = true } else gift_by xs r c)
gift-taken true s d xs r c = taken_bit (s == r) (d == c) (gift_by xs r c)
gift-taken false s d xs r c = elsewhere (s == r) (d == c) (gift_by xs r c) (record (gift_by xs r c) { is_taken = true })

ungiven : (b : Bool) (y : PoolItem) (xs : List PoolItem) (r c : ℕ) → gift_by (y ∷ xs) r c ≡ gift_by xs r c → gift_by (if_so b y xs) r c ≡ gift_by xs r c
ungiven true y xs r c e = e
ungiven false y xs r c e = refl

event-gift : (m q : ℕ) (event : CmapEvent) (h : List Item) (r p c : ℕ) → gift_of (made m (Pool q event) ∷ h) r p c ≡ gift_of h r p c
event-gift m q (PoolCreated e) h r p c = ungiven (q == p) _ (of_pool p h) r c refl
event-gift m q (PoolReady e) h r p c = ungiven (q == p) _ (of_pool p h) r c refl
event-gift m q (PoolClosed e) h r p c = ungiven (q == p) _ (of_pool p h) r c refl
event-gift m q (ConnectionCreated e) h r p c = ungiven (q == p) _ (of_pool p h) r c refl
event-gift m q (ConnectionClosed e) h r p c = ungiven (q == p) _ (of_pool p h) r c refl
event-gift m q (ConnectionCheckedIn e) h r p c = ungiven (q == p) _ (of_pool p h) r c refl
event-gift m q event h r p c = refl

quiet_event : (q : ℕ) (event : CmapEvent) (r p c : ℕ) (x : Gift) → gift_after (of_event q event) r p c x ≡ x
quiet_event q (PoolCreated e) r p c x = refl
quiet_event q (PoolReady e) r p c x = refl
quiet_event q (PoolClosed e) r p c x = refl
quiet_event q (ConnectionCreated e) r p c x = refl
quiet_event q (ConnectionClosed e) r p c x = refl
quiet_event q (ConnectionCheckedIn e) r p c x = refl
quiet_event q event r p c x = refl

-- How a connection was given to a party, after one more fact.
pub fact-gift : (m : ℕ) (fact : Fact) (h : List Item) (r p c : ℕ) → gift_of (made m fact ∷ h) r p c ≡ gift_after (of_fact fact) r p c (gift_of h r p c)
fact-gift m (Pool q event) h r p c = event-gift m q event h r p c ∙ sym (quiet_event q event r p c (gift_of h r p c))
fact-gift m (Granted s q d) h r p c = gift-granted (q == p) s d (of_pool p h) r c
fact-gift m (Ended s end) h r p c = ungiven _ _ (of_pool p h) r c refl
fact-gift m (Raised q None error) h r p c = ungiven (q == p) _ (of_pool p h) r c refl
fact-gift m (Raised q (Some service) error) h r p c = ungiven (q == p) _ (of_pool p h) r c refl
fact-gift m fact h r p c = refl

-- How a connection was given to a party, after one more step.
pub step-gift : (m : ℕ) (act : Act) (reply : Reply) (h : List Item) (r p c : ℕ) → gift_of (did (record { moment = m; act = act }) reply ∷ h) r p c ≡ gift_after (of_act (open_pool h) act) r p c (gift_of h r p c)
step-gift m (Request s a) reply h r p c = ungiven _ _ (of_pool p h) r c refl
step-gift m (Warm s a) reply h r p c = ungiven _ _ (of_pool p h) r c refl
step-gift m (GiveUp s) reply h r p c = ungiven _ _ (of_pool p h) r c refl
step-gift m (Established q d how) reply h r p c = ungiven _ _ (of_pool p h) r c refl
step-gift m (Failed q d Pre error) reply h r p c = ungiven _ _ (of_pool p h) r c refl
step-gift m (Failed q d (Post service) error) reply h r p c = ungiven _ _ (of_pool p h) r c refl
step-gift m (Return s used) reply h r p c = ungiven _ _ (of_pool p h) r c refl
step-gift m (Pin s) reply h r p c = ungiven _ _ (of_pool p h) r c refl
step-gift m (Replicate q d) reply h r p c = ungiven _ _ (of_pool p h) r c refl
step-gift m (Take s q d) reply h r p c = gift-taken (q == p) s d (of_pool p h) r c
step-gift m (Unpin q d) reply h r p c = ungiven _ _ (of_pool p h) r c refl
step-gift m act reply h r p c = refl

-- who didn't ask has no pool, and is not warm
pub unasked-pool : (h : List Item) (r : ℕ) → (if some_act was_asked h r then pool_of h r else None) ≡ pool_of h r
unasked-pool [] r = refl
unasked-pool (did step reply ∷ h) r = first (was_asked step.act r) (some_act was_asked h r) (pool_of h r) (asked_now h step.act) (unasked-pool h r)
  where
    first : (now before : Bool) (old new : Option ℕ) → (if before then old else None) ≡ old → (if now || before then (if before then old else (if now then new else None)) else None) ≡ (if before then old else (if now then new else None))
    first true true old new e = refl
    first true false old new e = refl
    first false true old new e = refl
    first false false old new e = refl
unasked-pool (made m fact ∷ h) r = unasked-pool h r

unasked-warm : (h : List Item) (r : ℕ) → (if some_act was_asked h r then is_warm h r else false) ≡ is_warm h r
unasked-warm [] r = refl
unasked-warm (did step reply ∷ h) r = first (was_asked step.act r) (some_act was_asked h r) (is_warm h r) (warms step.act)
  where
    first : (now before old new : Bool) → (if now || before then (if before then old else (now && new)) else false) ≡ (if before then old else (now && new))
    first true true old new = refl
    first true false old new = refl
    first false true old new = refl
    first false false old new = refl
unasked-warm (made m fact ∷ h) r = unasked-warm h r

granted_mark : (b : Bool) (x : Party) → record x { is_granted = b || x.is_granted } ≡ (if b then record x { is_granted = true } else x)
granted_mark true x = refl
granted_mark false x = refl

ended_mark : (b : Bool) (x : Party) → record x { is_ended = b || x.is_ended } ≡ (if b then record x { is_ended = true } else x)
ended_mark true x = refl
ended_mark false x = refl

event-party : (q : ℕ) (event : CmapEvent) (r : ℕ) (x : Party) → x ≡ party_after (of_event q event) r x
event-party q (PoolCreated e) r x = refl
event-party q (PoolReady e) r x = refl
event-party q (PoolClosed e) r x = refl
event-party q (ConnectionCreated e) r x = refl
event-party q (ConnectionClosed e) r x = refl
event-party q (ConnectionCheckedIn e) r x = refl
event-party q event r x = refl

-- A party after one more fact.
pub fact-party : (m : ℕ) (fact : Fact) (h : List Item) (r : ℕ) → party_of (made m fact ∷ h) r ≡ party_after (of_fact fact) r (party_of h r)
fact-party m (Pool q event) h r = event-party q event r (party_of h r)
fact-party m (Granted s q d) h r = granted_mark (s == r) (party_of h r)
fact-party m (Ended s end) h r = ended_mark (s == r) (party_of h r)
fact-party m (Raised q None error) h r = refl
fact-party m (Raised q (Some service) error) h r = refl
fact-party m fact h r = refl

abbrev marks : Bool → Option ℕ → Bool → Bool → Bool → Bool → Party
marks a o w g e t = record { is_asked = a; pool = o; is_warm = w; is_granted = g; is_ended = e; is_returned = t }

asked_mark : (a b : Bool) (o here : Option ℕ) (w warm g e t : Bool) → (if a then o else None) ≡ o → (if a then w else false) ≡ w → marks (b || a) (if a then o else (if b then here else None)) (if a then w else (b && warm)) g e t ≡ (if b && not a then marks true here warm g e t else marks a o w g e t)
asked_mark true true o here w warm g e t u v = refl
asked_mark true false o here w warm g e t u v = refl
asked_mark false true o here w warm g e t u v = refl
asked_mark false false o here w warm g e t u v = rw (u, v) refl

returned_mark : (b : Bool) (x : Party) → record x { is_returned = b || x.is_returned } ≡ (if b then record x { is_returned = true } else x)
returned_mark true x = refl
returned_mark false x = refl

-- a step that asks nothing
unasked : (x : Party) (o : Option ℕ) (w : Bool) → o ≡ x.pool → w ≡ x.is_warm → record x { pool = o; is_warm = w } ≡ x
unasked x o w e f = rw (e, f) refl

-- A party after one more accepted step.
pub step-party : (m : ℕ) (act : Act) (reply : Reply) (h : List Item) (r : ℕ) → party_of (did (record { moment = m; act = act }) reply ∷ h) r ≡ party_after (of_act (open_pool h) act) r (party_of h r)
step-party m (Request s a) reply h r = asked_mark (some_act was_asked h r) (s == r) (pool_of h r) (open_pool h a) (is_warm h r) false (is_granted h r) (is_ended h r) (has_returned h r) (unasked-pool h r) (unasked-warm h r)
step-party m (Warm s a) reply h r = asked_mark (some_act was_asked h r) (s == r) (pool_of h r) (open_pool h a) (is_warm h r) true (is_granted h r) (is_ended h r) (has_returned h r) (unasked-pool h r) (unasked-warm h r)
step-party m (Return s used) reply h r = ap {A = Party} {B = Party} (λ x. record x { is_returned = (s == r) || x.is_returned }) (unasked (party_of h r) _ _ (unasked-pool h r) (unasked-warm h r)) ∙ returned_mark (s == r) (party_of h r)
step-party m (Failed q d Pre error) reply h r = unasked (party_of h r) _ _ (unasked-pool h r) (unasked-warm h r)
step-party m (Failed q d (Post service) error) reply h r = unasked (party_of h r) _ _ (unasked-pool h r) (unasked-warm h r)
step-party m act reply h r = unasked (party_of h r) _ _ (unasked-pool h r) (unasked-warm h r)
