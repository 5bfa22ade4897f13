-- What is published, and a clear by a trouble, creates no connection.
use Rattle.std.proofs.Common.{ℕ, Bool, true, false, if◌then◌else◌, List, [], ◌∷◌, ◌++◌, map, Option, Some, None}
use Rattle.std.specs.Prelude.{⊤}
use Rattle.mdb_base.specs.declared.address.ServerAddress.{ServerAddress}
use Rattle.mdb_base.specs.declared.options.Options.{Options}
use Rattle.mdb_describe.specs.declared.description.ServerDescription.{ServerDescription}
use Rattle.mdb_describe.specs.declared.topology.TopologyDescription.{TopologyDescription}
use Rattle.mdb_describe.specs.declared.diff.Diff.{Diff}
use Rattle.mdb_describe.specs.Differences.{difference}
use Rattle.mdb_describe.specs.Topology.{opened, stopped, synced, server_at}
use Rattle.mdb_describe.specs.Update.{updated}
use Rattle.mdb_events.specs.declared.fact.Fact.{Fact}
use Rattle.mdb_events.specs.declared.fact.Fact.TheVariants.{Sdam}
use Rattle.mdb_events.specs.declared.sdam.SdamEvent.TheVariants.{ServerDescriptionChanged}
use Rattle.mdb_log.specs.History.{Item, of_pool, open_pool}
use Rattle.mdb_log.specs.Opening.{pool_options}
use Rattle.mdb_driver_rules.specs.Description.{Rule, opens, updates, syncs, tells_time, stops, begins_with, unopened}
use Rattle.mdb_driver_rules.specs.Errors.{Clear, nothing, whole, only, Trouble}
use Rattle.mdb_driver_rules.specs.Facts.{clearing}
use Rattle.mdb_driver_rules.specs.Publishing.{ready_pool, close_pool, description_changed, server_changed, server_closed, topology_changed, server_opened, telling, publication, topology_closed, told_by}
use Rattle.mdb_driver_rules.specs.Ready.{is_ready_type}
use Rattle.mdb_proxy_laws.proofs.Uncreating.{AreUncreating, uncreating-both, readied-uncreating, close-uncreating, clear-uncreating}

-- the part creates no connection after each history
abbrev pub PartUncreating : (List Item → List Fact) → Type 0
PartUncreating part = (k : List Item) → AreUncreating (part k)

abbrev pub PartsUncreating : List (List Item → List Fact) → Type 0
PartsUncreating [] = ⊤
PartsUncreating (part ∷ parts) = PartUncreating part × PartsUncreating parts

parts-append : (parts more : List (List Item → List Fact)) → PartsUncreating parts → PartsUncreating more → PartsUncreating (parts ++ more)
parts-append [] more a b = b
parts-append (part ∷ parts) more a b = (a.0, parts-append parts more a.1 b)

parts-map : {A : Type 0} (part : A → List Item → List Fact) (xs : List A) → ((x : A) → PartUncreating (part x)) → PartsUncreating (map part xs)
parts-map part [] each = tt
parts-map part (x ∷ xs) each = (each x, parts-map part xs each)

module _ (o : Options) (m : ℕ) where
  ready-uncreating : (a : ServerAddress) (x : Option ℕ) (k : List Item) → AreUncreating (ready_pool o m a x k)
  ready-uncreating a None k = tt
  ready-uncreating a (Some q) k = readied-uncreating q a (pool_options o) m (of_pool q k)

  shut-uncreating : (a : ServerAddress) (x : Option ℕ) (k : List Item) → AreUncreating (close_pool o m a x k)
  shut-uncreating a None k = tt
  shut-uncreating a (Some q) k = close-uncreating q a (pool_options o) m (of_pool q k)

  changed-uncreating : (t u : TopologyDescription) (a : ServerAddress) → PartUncreating (server_changed o m t u a)
  changed-uncreating t u a k = on (server_at a t.servers) (server_at a u.servers)
    where
      if-ready : (b : Bool) → AreUncreating (if b then ready_pool o m a (open_pool k a) k else [])
      if-ready true = ready-uncreating a (open_pool k a) k
      if-ready false = tt

      on : (x y : Option ServerDescription) → AreUncreating (description_changed o m u.topology_type a x y k)
      on None y = tt
      on (Some old) None = tt
      on (Some old) (Some new) = uncreating-both (if is_ready_type u.topology_type new.server_type then ready_pool o m a (open_pool k a) k else []) (Sdam (ServerDescriptionChanged (record { address = a; topology_id = o.topology_id; previous_description = old; new_description = new })) ∷ []) (if-ready (is_ready_type u.topology_type new.server_type)) (tt, tt)

  telling-uncreating : (t u : TopologyDescription) (d : Option Diff) → PartsUncreating (telling o m t u d)
  telling-uncreating t u None = tt
  telling-uncreating t u (Some d) =
      parts-append (map (server_changed o m t u) d.changed ++ map (server_closed o m) d.removed) (topology_changed o t u ∷ map (server_opened o) d.added)
      (parts-append (map (server_changed o m t u) d.changed) (map (server_closed o m) d.removed) (parts-map (server_changed o m t u) d.changed (changed-uncreating t u)) (parts-map (server_closed o m) d.removed (λ a k. (tt, shut-uncreating a (open_pool k a) k))))
      (λ k. (tt, tt), parts-map (server_opened o) d.added (λ a k. (tt, (tt, (tt, tt)))))

  publication-uncreating : (t u : TopologyDescription) → PartsUncreating (publication o m t u)
  publication-uncreating t u = telling-uncreating t u (difference t.servers u.servers)

  -- what a rule tells
  pub told-uncreating : (rule : Option Rule) (t : TopologyDescription) → PartsUncreating (told_by o m rule t)
  told-uncreating None t = tt
  told-uncreating (Some (opens q)) t = (λ k. (tt, tt), parts-append (publication o m (unopened q) (opened q)) (publication o m (opened q) (begins_with q)) (publication-uncreating (unopened q) (opened q)) (publication-uncreating (opened q) (begins_with q)))
  told-uncreating (Some (updates s)) t = publication-uncreating t (updated t s)
  told-uncreating (Some (syncs hosts)) t = publication-uncreating t (synced hosts t)
  told-uncreating (Some (tells_time time)) t = tt
  told-uncreating (Some stops) t = parts-append (publication o m t (stopped t)) (topology_closed o ∷ []) (publication-uncreating t (stopped t)) (λ k. (tt, tt), tt)

  -- the clear by a trouble
  pub clearing-uncreating : (y : Option Trouble) (clear : Clear) (k : List Item) → AreUncreating (clearing o m y clear k)
  clearing-uncreating None clear k = tt
  clearing-uncreating (Some x) nothing k = tt
  clearing-uncreating (Some x) whole k = clear-uncreating x.pool x.address (pool_options o) m (of_pool x.pool k) None x.error
  clearing-uncreating (Some x) (only s) k = clear-uncreating x.pool x.address (pool_options o) m (of_pool x.pool k) (Some s) x.error
