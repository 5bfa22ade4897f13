-- The facts of publishing: what a change of the description comes to, and the opening and the stop.
use Rattle.std.specs.Prelude.{ℕ, if◌then◌else◌, List, [], ◌∷◌, ◌++◌, map, length, Option, Some, None}
use Rattle.mdb_base.specs.declared.address.ServerAddress.{ServerAddress}
use Rattle.mdb_base.specs.declared.options.Options.{Options}
use Rattle.mdb_srv.specs.declared.topology_type.TopologyType.{TopologyType}
use Rattle.mdb_describe.specs.declared.description.ServerDescription.{ServerDescription}
use Rattle.mdb_describe.specs.declared.topology.TopologyDescription.{TopologyDescription}
use Rattle.mdb_describe.specs.declared.diff.Diff.{Diff}
use Rattle.mdb_describe.specs.Differences.{difference}
use Rattle.mdb_describe.specs.Topology.{opened, stopped, synced, server_at}
use Rattle.mdb_describe.specs.Update.{updated}
use Rattle.mdb_events.specs.declared.sdam.SdamEvent.TheVariants.{ServerDescriptionChanged, ServerOpening, ServerClosed, TopologyDescriptionChanged, TopologyOpening, TopologyClosed}
use Rattle.mdb_events.specs.declared.fact.Fact.{Fact}
use Rattle.mdb_events.specs.declared.fact.Fact.TheVariants.{Opened, Pool, Sdam}
use Rattle.mdb_log.specs.History.{Item, of_pool, open_pool}
use Rattle.mdb_pool_rules.specs.Facts.{readied, close_facts}
use Rattle.mdb_log.specs.Homes.{homes}
use Rattle.mdb_log.specs.Opening.{pool_options, created}
use Rattle.mdb_driver_rules.specs.Ready.{is_ready_type}
use Rattle.mdb_driver_rules.specs.Description.{Rule, opens, updates, syncs, tells_time, stops, begins_with, unopened}

-- Each part of a publication takes the history so far, and gives its facts.

-- the open pool of the address is marked ready
abbrev pub ready_pool : Options → ℕ → ServerAddress → Option ℕ → List Item → List Fact
ready_pool o m a None k = []
ready_pool o m a (Some p) k = readied p a (pool_options o) m (of_pool p k)

-- the open pool of the address is closed
abbrev pub close_pool : Options → ℕ → ServerAddress → Option ℕ → List Item → List Fact
close_pool o m a None k = []
close_pool o m a (Some p) k = close_facts p a (pool_options o) m (of_pool p k)

-- a server that changed: its pool is marked ready where its new type says so, and then what is known of it is told
abbrev pub description_changed : Options → ℕ → TopologyType → ServerAddress → Option ServerDescription → Option ServerDescription → List Item → List Fact
description_changed o m kind a (Some old) (Some new) k =
    (if is_ready_type kind new.server_type then ready_pool o m a (open_pool k a) k else [])
    ++ Sdam (ServerDescriptionChanged (record { address = a; topology_id = o.topology_id; previous_description = old; new_description = new })) ∷ []
description_changed o m kind a _ _ k = []

abbrev pub server_changed : Options → ℕ → TopologyDescription → TopologyDescription → ServerAddress → List Item → List Fact
server_changed o m t u a k = description_changed o m u.topology_type a (server_at a t.servers) (server_at a u.servers) k

-- a server that goes: it is closed, and then its pool
abbrev pub server_closed : Options → ℕ → ServerAddress → List Item → List Fact
server_closed o m a k = Sdam (ServerClosed (record { address = a; topology_id = o.topology_id })) ∷ close_pool o m a (open_pool k a) k

abbrev pub topology_changed : Options → TopologyDescription → TopologyDescription → List Item → List Fact
topology_changed o t u k = Sdam (TopologyDescriptionChanged (record { topology_id = o.topology_id; previous_description = t; new_description = u })) ∷ []

-- a server that comes: a pool with the next number is opened and created for it, and then it is opened
abbrev pub opened_at : Options → ServerAddress → ℕ → List Fact
opened_at o a n =
    Opened n a
    ∷ Pool n (created (pool_options o) a)
    ∷ Sdam (ServerOpening (record { address = a; topology_id = o.topology_id })) ∷ []

abbrev pub server_opened : Options → ServerAddress → List Item → List Fact
server_opened o a k = opened_at o a (length (homes k))

-- At the moment m what is known changes from t to u. Nothing is told where no server differs; else of the changed servers, of those that go, of the topology, and of those that come.
abbrev pub telling : Options → ℕ → TopologyDescription → TopologyDescription → Option Diff → List (List Item → List Fact)
telling o m t u None = []
telling o m t u (Some d) = map (server_changed o m t u) d.changed ++ map (server_closed o m) d.removed ++ topology_changed o t u ∷ map (server_opened o) d.added

abbrev pub publication : Options → ℕ → TopologyDescription → TopologyDescription → List (List Item → List Fact)
publication o m t u = telling o m t u (difference t.servers u.servers)

-- The opening tells that it begins, and then of the seeds, and of a load balancer.
abbrev pub topology_opening : Options → List Item → List Fact
topology_opening o k = Sdam (TopologyOpening (record { topology_id = o.topology_id })) ∷ []

abbrev pub opening : Options → ℕ → Options → List (List Item → List Fact)
opening o m q = topology_opening o ∷ publication o m (unopened q) (opened q) ++ publication o m (opened q) (begins_with q)

-- The stop closes all servers, and at last the topology.
abbrev pub topology_closed_fact : Options → Fact
topology_closed_fact o = Sdam (TopologyClosed (record { topology_id = o.topology_id }))

abbrev pub topology_closed : Options → List Item → List Fact
topology_closed o k = topology_closed_fact o ∷ []

-- What a rule tells, where t was known before it. The time of the cluster is told to nobody.
abbrev pub told_by : Options → ℕ → Option Rule → TopologyDescription → List (List Item → List Fact)
told_by o m None t = []
told_by o m (Some (opens q)) t = opening o m q
told_by o m (Some (updates s)) t = publication o m t (updated t s)
told_by o m (Some (syncs hosts)) t = publication o m t (synced hosts t)
told_by o m (Some (tells_time time)) t = []
told_by o m (Some stops) t = publication o m t (stopped t) ++ topology_closed o ∷ []
