-- What a step and a fact say, of all that the auditor keeps.
use Rattle.std.specs.Prelude.{ℕ, true, false, Option, None}
use Rattle.mdb_base.specs.declared.address.ServerAddress.{ServerAddress}
use Rattle.mdb_events.specs.declared.cmap.CmapEvent.{CmapEvent}
use Rattle.mdb_events.specs.declared.cmap.CmapEvent.TheVariants.{PoolCreated, PoolReady, PoolClosed, ConnectionCreated, ConnectionClosed, ConnectionCheckedIn}
use Rattle.mdb_events.specs.declared.fact.Fact.{Fact}
use Rattle.mdb_events.specs.declared.fact.Fact.TheVariants as fact
use Rattle.mdb_log.specs.declared.step.Act.{Act}
use Rattle.mdb_log.specs.declared.step.Act.TheVariants as act
use Rattle.mdb_tallies.specs.declared.occurrence.Occurrence.{Occurrence}
use Rattle.mdb_tallies.specs.declared.occurrence.Occurrence.TheVariants as change

-- an event of the pool q
abbrev pub of_event : ℕ → CmapEvent → Occurrence
of_event q (PoolCreated e) = change.Began q
of_event q (PoolReady e) = change.Turned q true
of_event q (PoolClosed e) = change.Turned q false
of_event q (ConnectionCreated e) = change.Created q e.connection_id
of_event q (ConnectionClosed e) = change.Closed q e.connection_id
of_event q (ConnectionCheckedIn e) = change.CheckedIn q e.connection_id
of_event q _ = change.Nothing

abbrev pub of_fact : Fact → Occurrence
of_fact (fact.Opened q a) = change.Opened q
of_fact (fact.Pool q event) = of_event q event
of_fact (fact.Granted r q c) = change.Granted r q c
of_fact (fact.Ended r end) = change.Ended r
of_fact (fact.Raised q None error) = change.Turned q false
of_fact _ = change.Nothing

-- an accepted step; here tells the pool that is open at an address
abbrev pub of_act : (ServerAddress → Option ℕ) → Act → Occurrence
of_act here (act.Request r a) = change.Asked r (here a) false
of_act here (act.Warm r a) = change.Asked r (here a) true
of_act here (act.GiveUp r) = change.GivenUp r
of_act here (act.Established q c how) = change.Established q c
of_act here (act.Failed q c at error) = change.Failed q c
of_act here (act.Return r used) = change.Returned r
of_act here (act.Pin r) = change.Pinned r
of_act here (act.Replicate q c) = change.Replicated q c
of_act here (act.Take r q c) = change.Taken r q c
of_act here (act.Unpin q c) = change.Unpinned q c
of_act here _ = change.Nothing
