-- What is published is plain: neither ready nor checked out, nor a grant.
use Rattle.std.proofs.Common.{ℕ, Bool, true, false, if◌then◌else◌, List, [], ◌∷◌, ◌++◌, map, Option, Some, None}
use Rattle.std.specs.Prelude.{⊤}
use Rattle.mdb_base.specs.declared.address.ServerAddress.{ServerAddress}
use Rattle.mdb_base.specs.declared.options.Options.{Options}
use Rattle.mdb_describe.specs.declared.description.ServerDescription.{ServerDescription}
use Rattle.mdb_describe.specs.declared.topology.TopologyDescription.{TopologyDescription}
use Rattle.mdb_describe.specs.declared.diff.Diff.{Diff}
use Rattle.mdb_describe.specs.Differences.{difference}
use Rattle.mdb_describe.specs.Topology.{opened, stopped, synced, server_at}
use Rattle.mdb_describe.specs.Update.{updated}
use Rattle.mdb_events.specs.declared.fact.Fact.{Fact}
use Rattle.mdb_events.specs.declared.fact.Fact.TheVariants.{Sdam}
use Rattle.mdb_events.specs.declared.sdam.SdamEvent.TheVariants.{ServerDescriptionChanged}
use Rattle.mdb_log.specs.History.{Item, of_pool, open_pool}
use Rattle.mdb_log.specs.Opening.{pool_options}
use Rattle.mdb_driver_rules.specs.Description.{Rule, opens, updates, syncs, tells_time, stops, begins_with, unopened}
use Rattle.mdb_driver_rules.specs.Errors.{Clear, nothing, whole, only, Trouble}
use Rattle.mdb_driver_rules.specs.Facts.{clearing}
use Rattle.mdb_driver_rules.specs.Publishing.{ready_pool, close_pool, description_changed, server_changed, server_closed, topology_changed, server_opened, telling, publication, topology_closed, told_by}
use Rattle.mdb_driver_rules.specs.Ready.{is_ready_type}
use Rattle.mdb_laws.proofs.OfNames.Plain.{ArePlain, plain-both, readied-plain, close-plain, clear-plain}

-- the part is plain after each history
abbrev pub PartPlain : (List Item → List Fact) → Type 0
PartPlain part = (k : List Item) → ArePlain (part k)

abbrev pub PartsPlain : List (List Item → List Fact) → Type 0
PartsPlain [] = ⊤
PartsPlain (part ∷ parts) = PartPlain part × PartsPlain parts

parts-append : (parts more : List (List Item → List Fact)) → PartsPlain parts → PartsPlain more → PartsPlain (parts ++ more)
parts-append [] more a b = b
parts-append (part ∷ parts) more a b = (a.0, parts-append parts more a.1 b)

parts-map : {A : Type 0} (part : A → List Item → List Fact) (xs : List A) → ((x : A) → PartPlain (part x)) → PartsPlain (map part xs)
parts-map part [] plain = tt
parts-map part (x ∷ xs) plain = (plain x, parts-map part xs plain)

module _ (o : Options) (m : ℕ) where
  ready-plain : (a : ServerAddress) (x : Option ℕ) (k : List Item) → ArePlain (ready_pool o m a x k)
  ready-plain a None k = tt
  ready-plain a (Some q) k = readied-plain q a (pool_options o) m (of_pool q k)

  shut-plain : (a : ServerAddress) (x : Option ℕ) (k : List Item) → ArePlain (close_pool o m a x k)
  shut-plain a None k = tt
  shut-plain a (Some q) k = close-plain q a (pool_options o) m (of_pool q k)

  changed-plain : (t u : TopologyDescription) (a : ServerAddress) → PartPlain (server_changed o m t u a)
  changed-plain t u a k = on (server_at a t.servers) (server_at a u.servers)
    where
      if-ready : (b : Bool) → ArePlain (if b then ready_pool o m a (open_pool k a) k else [])
      if-ready true = ready-plain a (open_pool k a) k
      if-ready false = tt

      on : (x y : Option ServerDescription) → ArePlain (description_changed o m u.topology_type a x y k)
      on None y = tt
      on (Some old) None = tt
      on (Some old) (Some new) = plain-both (if is_ready_type u.topology_type new.server_type then ready_pool o m a (open_pool k a) k else []) (Sdam (ServerDescriptionChanged (record { address = a; topology_id = o.topology_id; previous_description = old; new_description = new })) ∷ []) (if-ready (is_ready_type u.topology_type new.server_type)) (tt, tt)

  telling-plain : (t u : TopologyDescription) (d : Option Diff) → PartsPlain (telling o m t u d)
  telling-plain t u None = tt
  telling-plain t u (Some d) =
      parts-append (map (server_changed o m t u) d.changed ++ map (server_closed o m) d.removed) (topology_changed o t u ∷ map (server_opened o) d.added)
      (parts-append (map (server_changed o m t u) d.changed) (map (server_closed o m) d.removed) (parts-map (server_changed o m t u) d.changed (changed-plain t u)) (parts-map (server_closed o m) d.removed (λ a k. (tt, shut-plain a (open_pool k a) k))))
      (λ k. (tt, tt), parts-map (server_opened o) d.added (λ a k. (tt, (tt, (tt, tt)))))

  publication-plain : (t u : TopologyDescription) → PartsPlain (publication o m t u)
  publication-plain t u = telling-plain t u (difference t.servers u.servers)

  -- what a rule tells
  pub told-plain : (rule : Option Rule) (t : TopologyDescription) → PartsPlain (told_by o m rule t)
  told-plain None t = tt
  told-plain (Some (opens q)) t = (λ k. (tt, tt), parts-append (publication o m (unopened q) (opened q)) (publication o m (opened q) (begins_with q)) (publication-plain (unopened q) (opened q)) (publication-plain (opened q) (begins_with q)))
  told-plain (Some (updates s)) t = publication-plain t (updated t s)
  told-plain (Some (syncs hosts)) t = publication-plain t (synced hosts t)
  told-plain (Some (tells_time time)) t = tt
  told-plain (Some stops) t = parts-append (publication o m t (stopped t)) (topology_closed o ∷ []) (publication-plain t (stopped t)) (λ k. (tt, tt), tt)

  -- the clear by a trouble
  pub clearing-plain : (y : Option Trouble) (clear : Clear) (k : List Item) → ArePlain (clearing o m y clear k)
  clearing-plain None clear k = tt
  clearing-plain (Some x) nothing k = tt
  clearing-plain (Some x) whole k = clear-plain x.pool x.address (pool_options o) m (of_pool x.pool k) None x.error
  clearing-plain (Some x) (only s) k = clear-plain x.pool x.address (pool_options o) m (of_pool x.pool k) (Some s) x.error
