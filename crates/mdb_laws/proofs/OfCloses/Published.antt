-- Why connections are closed by what is published: the pools of servers that go are closed.
use Rattle.std.proofs.Common.{ℕ, ◌≡◌, Bool, true, false, if◌then◌else◌, List, [], ◌∷◌, ◌++◌, map, Option, Some, None, refl}
use Rattle.std.specs.Prelude.{⊤}
use Rattle.mdb_base.specs.declared.address.ServerAddress.{ServerAddress}
use Rattle.mdb_base.specs.declared.options.Options.{Options}
use Rattle.mdb_describe.specs.declared.description.ServerDescription.{ServerDescription}
use Rattle.mdb_describe.specs.declared.topology.TopologyDescription.{TopologyDescription}
use Rattle.mdb_describe.specs.declared.diff.Diff.{Diff}
use Rattle.mdb_describe.specs.Differences.{difference}
use Rattle.mdb_describe.specs.Topology.{opened, stopped, synced, server_at}
use Rattle.mdb_describe.specs.Update.{updated}
use Rattle.mdb_events.specs.declared.fact.Fact.{Fact}
use Rattle.mdb_events.specs.declared.fact.Fact.TheVariants.{Sdam}
use Rattle.mdb_events.specs.declared.sdam.SdamEvent.TheVariants.{ServerDescriptionChanged}
use Rattle.mdb_log.specs.declared.options.PoolOptions.{PoolOptions}
use Rattle.mdb_log.specs.declared.step.Act.{Act}
use Rattle.mdb_log.specs.History.{Item, of_pool, open_pool, with_facts}
use Rattle.mdb_log.specs.Opening.{pool_options}
use Rattle.mdb_pool_rules.specs.Facts.{readied, close_facts}
use Rattle.mdb_driver_rules.specs.Description.{Rule, opens, updates, syncs, tells_time, stops, begins_with, unopened}
use Rattle.mdb_driver_rules.specs.Publishing.{ready_pool, close_pool, description_changed, server_changed, server_closed, topology_changed, server_opened, telling, publication, topology_closed, told_by}
use Rattle.mdb_driver_rules.specs.Ready.{is_ready_type}
use Rattle.mdb_driver_rules.specs.Turns.{in_turn}
use Rattle.mdb_histories.proofs.Owns.{readied-own, close-own}
use Rattle.mdb_histories.proofs.Parties.{each-sound}
use Rattle.mdb_histories.proofs.Turns.{Turn, ComeTurn, AllGood}
use Rattle.mdb_histories.proofs.Publications.{told-good}
use Rattle.mdb_pool_laws.specs.CloseCauses.{AllCaused}
use Rattle.mdb_pool_laws.proofs.OfCloses.Acts.{readied-caused}
use Rattle.mdb_laws.proofs.OfCloses.Pools.{at-pool, parts-both}
use Rattle.mdb_pool_laws.proofs.OfCloses.Sweeps.{closed-caused}

module _ (p : ℕ) (o : Options) (here : ServerAddress → Option ℕ) (m : ℕ) (act : Act) where
  abbrev po : PoolOptions
  po = pool_options o

  abbrev Caused : List Item → List Fact → Type 0
  Caused k fs = AllCaused p po here m act (of_pool p k) fs

  -- after each history that is at rest the closes of the part have causes
  abbrev PartCaused : (List Item → List Fact) → Type 0
  PartCaused part = (k : List Item) → Turn k → Caused k (part k)

  abbrev PartsCaused : List (List Item → List Fact) → Type 0
  PartsCaused [] = ⊤
  PartsCaused (part ∷ parts) = PartCaused part × PartsCaused parts

  parts-append : (parts more : List (List Item → List Fact)) → PartsCaused parts → PartsCaused more → PartsCaused (parts ++ more)
  parts-append [] more a b = b
  parts-append (part ∷ parts) more a b = (a.0, parts-append parts more a.1 b)

  parts-map : {A : Type 0} (part : A → List Item → List Fact) (xs : List A) → ((x : A) → PartCaused (part x)) → PartsCaused (map part xs)
  parts-map part [] caused = tt
  parts-map part (x ∷ xs) caused = (caused x, parts-map part xs caused)

  turns-caused : (parts : List (List Item → List Fact)) → AllGood m parts → PartsCaused parts → (k : List Item) → Turn k → Caused k (in_turn m parts k)
  turns-caused [] good caused k z = tt
  turns-caused (part ∷ parts) good caused k z =
      let a : ComeTurn m k (part k) = good.0 k z in
      parts-both p po here m act (part k) (in_turn m parts (with_facts m (part k) k)) k (caused.0 k z) (turns-caused parts good.1 caused.1 (with_facts m (part k) k) a.turn)

  ready-caused : (a : ServerAddress) (x : Option ℕ) (k : List Item) → Caused k (ready_pool o m a x k)
  ready-caused a None k = tt
  ready-caused a (Some q) k = at-pool p po here m act q (readied q a po m (of_pool q k)) k (readied-own q a po m (of_pool q k)) (readied-caused q a po here m act (of_pool q k) (of_pool q k))

  close-caused : (a : ServerAddress) (k : List Item) → Turn k → Caused k (close_pool o m a (open_pool k a) k)
  close-caused a k z = on (open_pool k a) refl
    where
      on : (x : Option ℕ) → open_pool k a ≡ x → Caused k (close_pool o m a x k)
      on None e = tt
      on (Some q) e = at-pool p po here m act q (close_facts q a po m (of_pool q k)) k (close-own q a po m (of_pool q k)) (closed-caused q a po here m act (of_pool q k) (each-sound k z.sound q) (z.rest a q e).apart)

  changed-caused : (t u : TopologyDescription) (a : ServerAddress) → PartCaused (server_changed o m t u a)
  changed-caused t u a k z = on (server_at a t.servers) (server_at a u.servers)
    where
      if-ready : (b : Bool) → Caused k (if b then ready_pool o m a (open_pool k a) k else [])
      if-ready true = ready-caused a (open_pool k a) k
      if-ready false = tt

      on : (x y : Option ServerDescription) → Caused k (description_changed o m u.topology_type a x y k)
      on None y = tt
      on (Some old) None = tt
      on (Some old) (Some new) = parts-both p po here m act (if is_ready_type u.topology_type new.server_type then ready_pool o m a (open_pool k a) k else []) (Sdam (ServerDescriptionChanged (record { address = a; topology_id = o.topology_id; previous_description = old; new_description = new })) ∷ []) k (if-ready (is_ready_type u.topology_type new.server_type)) (tt, tt)

  gone-caused : (a : ServerAddress) → PartCaused (server_closed o m a)
  gone-caused a k z = (tt, close-caused a k z)

  telling-caused : (t u : TopologyDescription) (d : Option Diff) → PartsCaused (telling o m t u d)
  telling-caused t u None = tt
  telling-caused t u (Some d) =
      parts-append (map (server_changed o m t u) d.changed ++ map (server_closed o m) d.removed) (topology_changed o t u ∷ map (server_opened o) d.added)
      (parts-append (map (server_changed o m t u) d.changed) (map (server_closed o m) d.removed) (parts-map (server_changed o m t u) d.changed (changed-caused t u)) (parts-map (server_closed o m) d.removed gone-caused))
      (λ k z. (tt, tt), parts-map (server_opened o) d.added (λ a k z. (tt, (tt, (tt, tt)))))

  publication-caused : (t u : TopologyDescription) → PartsCaused (publication o m t u)
  publication-caused t u = telling-caused t u (difference t.servers u.servers)

  told-parts : (rule : Option Rule) (t : TopologyDescription) → PartsCaused (told_by o m rule t)
  told-parts None t = tt
  told-parts (Some (opens q)) t = (λ k z. (tt, tt), parts-append (publication o m (unopened q) (opened q)) (publication o m (opened q) (begins_with q)) (publication-caused (unopened q) (opened q)) (publication-caused (opened q) (begins_with q)))
  told-parts (Some (updates s)) t = publication-caused t (updated t s)
  told-parts (Some (syncs hosts)) t = publication-caused t (synced hosts t)
  told-parts (Some (tells_time time)) t = tt
  told-parts (Some stops) t = parts-append (publication o m t (stopped t)) (topology_closed o ∷ []) (publication-caused t (stopped t)) (λ k z. (tt, tt), tt)

  -- what a rule tells
  pub told-caused : (rule : Option Rule) (t : TopologyDescription) (k : List Item) → Turn k → Caused k (in_turn m (told_by o m rule t) k)
  told-caused rule t k z = turns-caused (told_by o m rule t) (told-good o m rule t) (told-parts rule t) k z
