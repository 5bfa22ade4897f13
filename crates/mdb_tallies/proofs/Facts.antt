-- What one more fact changes of a connection, a gift and a party.
use Rattle.std.proofs.Common.{ℕ, ◌≡◌, ◌==◌, Bool, true, false, ◌&&◌, if◌then◌else◌, Some, None, List, [], ◌∷◌, refl, ap, ◌∙◌}
use Rattle.mdb_events.specs.declared.cmap.CmapEvent.{CmapEvent}
use Rattle.mdb_events.specs.declared.cmap.CmapEvent.TheVariants.{PoolCreated, PoolReady, PoolClosed, ConnectionCreated, ConnectionClosed, ConnectionCheckedIn}
use Rattle.mdb_events.specs.declared.fact.Fact.{Fact}
use Rattle.mdb_events.specs.declared.fact.Fact.TheVariants.{Pool, Granted, Ended, Raised}
use Rattle.mdb_log.specs.History.{Item, PoolItem, made, of_pool, after_fact, if_so, pool_created, pool_ready, pool_closed, raised, ended, has_asked}
use Rattle.mdb_log.specs.PlainHolders.{has_returned}
use Rattle.mdb_log.specs.PlainRequests.{is_ended}
use Rattle.mdb_tallies.specs.Standing.{connection_by, connection_of, gift_of, party_of}
use Rattle.mdb_tallies.specs.Changes.{connection_after}
use Rattle.mdb_tallies.specs.Reading.{of_fact, of_event}
use Rattle.mdb_tallies.proofs.Pooled.{created-changes, closed-changes, checked_in-changes}
use Rattle.mdb_tallies.proofs.Given.{over-changes}
use Rattle.mdb_tallies.proofs.Lent.{granted-changes}

-- an item that says nothing of connections
pub unsaid : (b : Bool) (y : PoolItem) (xs : List PoolItem) (gone over : ℕ → Bool) (c : ℕ) → connection_by (y ∷ xs) gone over c ≡ connection_by xs gone over c → connection_by (if_so b y xs) gone over c ≡ connection_by xs gone over c
unsaid true y xs gone over c e = e
unsaid false y xs gone over c e = refl

event-connection : (m q : ℕ) (event : CmapEvent) (h : List Item) (p c : ℕ) → connection_of (made m (Pool q event) ∷ h) p c ≡ connection_after (of_event q event) (λ r. gift_of h r p c) (party_of h) p c (connection_of h p c)
event-connection m q (PoolCreated e) h p c = unsaid (q == p) pool_created (of_pool p h) (has_returned h) (is_ended h) c refl
event-connection m q (PoolReady e) h p c = unsaid (q == p) pool_ready (of_pool p h) (has_returned h) (is_ended h) c refl
event-connection m q (PoolClosed e) h p c = unsaid (q == p) pool_closed (of_pool p h) (has_returned h) (is_ended h) c refl
event-connection m q (ConnectionCreated e) h p c = created-changes (q == p) e.connection_id m (of_pool p h) (has_returned h) (is_ended h) c
event-connection m q (ConnectionClosed e) h p c = closed-changes (q == p) e.connection_id (of_pool p h) (has_returned h) (is_ended h) c
event-connection m q (ConnectionCheckedIn e) h p c = checked_in-changes (q == p) e.connection_id m (of_pool p h) (has_returned h) (is_ended h) c
event-connection m q event h p c = refl

-- A connection after one more fact.
pub fact-connection : (m : ℕ) (fact : Fact) (h : List Item) (p c : ℕ) → connection_of (made m fact ∷ h) p c ≡ connection_after (of_fact fact) (λ r. gift_of h r p c) (party_of h) p c (connection_of h p c)
fact-connection m (Pool q event) h p c = event-connection m q event h p c
fact-connection m (Granted r q d) h p c = granted-changes (q == p) r d (of_pool p h) (has_returned h) (is_ended h) c
fact-connection m (Ended r end) h p c = unsaid (has_asked (of_pool p h) r) (ended r end) (of_pool p h) (has_returned h) (is_ended (made m (Ended r end) ∷ h)) c refl ∙ over-changes r (of_pool p h) (has_returned h) (is_ended h) c
fact-connection m (Raised q None error) h p c = unsaid (q == p) (raised None error) (of_pool p h) (has_returned h) (is_ended h) c refl
fact-connection m (Raised q (Some service) error) h p c = unsaid (q == p) (raised (Some service) error) (of_pool p h) (has_returned h) (is_ended h) c refl
fact-connection m fact h p c = refl
