-- What a publication tells is plain.
use Rattle.std.proofs.Common.{ℕ, Bool, true, false, not, ◌&&◌, List, [], ◌∷◌, ◌++◌, map, filter, Option, Some, None, refl, if◌then◌else◌}
use Rattle.std.specs.List.{AllByRecursion}
use Rattle.mdb_base.specs.declared.address.ServerAddress.{ServerAddress}
use Rattle.mdb_base.specs.declared.options.Options.{Options}
use Rattle.mdb_describe.specs.declared.description.ServerDescription.{ServerDescription}
use Rattle.mdb_describe.specs.declared.topology.TopologyDescription.{TopologyDescription}
use Rattle.mdb_describe.specs.declared.diff.Diff.{Diff}
use Rattle.mdb_describe.specs.Differences.{changed, missing, is_empty, difference, differs_from}
use Rattle.mdb_describe.specs.Servers.{is_known}
use Rattle.mdb_describe.specs.Topology.{opened, stopped, synced, server_at}
use Rattle.mdb_describe.specs.Update.{updated}
use Rattle.mdb_events.specs.declared.fact.Fact.{Fact}
use Rattle.mdb_events.specs.declared.fact.Fact.TheVariants.{Sdam}
use Rattle.mdb_events.specs.declared.sdam.SdamEvent.TheVariants.{ServerDescriptionChanged}
use Rattle.mdb_log.specs.History.{Item, of_pool, open_pool, with_facts}
use Rattle.mdb_log.specs.Opening.{pool_options}
use Rattle.mdb_driver_rules.specs.Description.{Rule, opens, updates, syncs, tells_time, stops, begins_with, unopened}
use Rattle.mdb_driver_rules.specs.Publishing.{ready_pool, close_pool, description_changed, server_changed, server_closed, topology_changed, server_opened, telling, publication, topology_closed, told_by}
use Rattle.mdb_driver_rules.specs.Ready.{is_ready_type}
use Rattle.mdb_driver_rules.specs.Turns.{in_turn}
use Rattle.mdb_verdicts.proofs.Plain.{IsPlainAddress, ArePlainAddresses, ArePlainFacts, IsPlainHistory, IsPlainServer, ArePlainServers}
use Rattle.mdb_verdicts.proofs.Lists.{all-both, all-filter, all-map, IfAny}
use Rattle.mdb_verdicts.proofs.PoolParts.{with-plain}
use Rattle.mdb_verdicts.proofs.PoolFacts.{facts-both, facts-if, readied-plain, close-plain}
use Rattle.mdb_verdicts.proofs.Servers.{IsPlainTopology, updated-plain, opened-plain, synced-plain}
use Rattle.mdb_verdicts.proofs.Known.{IsPlainRule, begins-plain}

-- parts that make plain facts after a plain history

abbrev pub IsPlainMaker : (List Item → List Fact) → Type 0
IsPlainMaker make = (k : List Item) → IsPlainHistory k → ArePlainFacts (make k)

abbrev pub ArePlainMakers : List (List Item → List Fact) → Type 0
ArePlainMakers makes = AllByRecursion IsPlainMaker makes

pub makers-both : (xs ys : List (List Item → List Fact)) → ArePlainMakers xs → ArePlainMakers ys → ArePlainMakers (xs ++ ys)
makers-both xs ys i j = all-both IsPlainMaker xs ys i j

pub turns-plain : (m : ℕ) (makes : List (List Item → List Fact)) (k : List Item) → ArePlainMakers makes → IsPlainHistory k → ArePlainFacts (in_turn m makes k)
turns-plain m [] k i h = tt
turns-plain m (make ∷ makes) k i h =
    let facts = make k in
    let j : ArePlainFacts facts = i.0 k h in
    facts-both facts (in_turn m makes (with_facts m facts k)) j (turns-plain m makes (with_facts m facts k) i.1 (with-plain m facts k j h))

-- differences

pub record IsPlainDiff (d : Diff) : Type 0 where
  pub changed : ArePlainAddresses d.changed
  pub removed : ArePlainAddresses d.removed
  pub added : ArePlainAddresses d.added

place-of : (test : ServerDescription → Bool) (xs : List ServerDescription) → ArePlainServers xs → ArePlainAddresses (map (λ s. s.address) (filter test xs))
place-of test xs h = all-map IsPlainServer IsPlainAddress (λ s. s.address) (λ s i. i) (filter test xs) (all-filter IsPlainServer test xs h)

difference-plain : (xs ys : List ServerDescription) → ArePlainServers xs → ArePlainServers ys → IfAny IsPlainDiff (difference xs ys)
difference-plain xs ys h i = on (is_empty d.changed && (is_empty d.removed && is_empty d.added))
  where
    d : Diff
    d = record { changed = changed xs ys; removed = missing xs ys; added = missing ys xs }

    on : (b : Bool) → IfAny IsPlainDiff (if b then None else Some d)
    on true = tt
    on false = record { changed = place-of (differs_from xs) ys i; removed = place-of (λ s. not (is_known s.address ys)) xs h; added = place-of (λ s. not (is_known s.address xs)) ys i }

module _ (o : Options) (m : ℕ) where
  ready-plain : (a : ServerAddress) (x : Option ℕ) (k : List Item) → IsPlainAddress a → ArePlainFacts (ready_pool o m a x k)
  ready-plain a None k i = tt
  ready-plain a (Some p) k i = readied-plain p a (pool_options o) m i (of_pool p k)

  shut-plain : (a : ServerAddress) (x : Option ℕ) (k : List Item) → IsPlainAddress a → ArePlainFacts (close_pool o m a x k)
  shut-plain a None k i = tt
  shut-plain a (Some p) k i = close-plain p a (pool_options o) m i (of_pool p k)

  changed-plain : (t u : TopologyDescription) (a : ServerAddress) → IsPlainAddress a → IsPlainMaker (server_changed o m t u a)
  changed-plain t u a i k h = on (server_at a t.servers) (server_at a u.servers)
    where
      on : (x y : Option ServerDescription) → ArePlainFacts (description_changed o m u.topology_type a x y k)
      on None y = tt
      on (Some old) None = tt
      on (Some old) (Some new) =
          facts-both (if is_ready_type u.topology_type new.server_type then ready_pool o m a (open_pool k a) k else []) (Sdam (ServerDescriptionChanged (record { address = a; topology_id = o.topology_id; previous_description = old; new_description = new })) ∷ [])
          (facts-if (is_ready_type u.topology_type new.server_type) (ready_pool o m a (open_pool k a) k) [] (ready-plain a (open_pool k a) k i) tt) (i, tt)

  closed-plain : (a : ServerAddress) → IsPlainAddress a → IsPlainMaker (server_closed o m a)
  closed-plain a i k h = (i, shut-plain a (open_pool k a) k i)

  come-plain : (a : ServerAddress) → IsPlainAddress a → IsPlainMaker (server_opened o a)
  come-plain a i k h = (i, (i, (i, tt)))

  telling-plain : (t u : TopologyDescription) (d : Option Diff) → IfAny IsPlainDiff d → ArePlainMakers (telling o m t u d)
  telling-plain t u None i = tt
  telling-plain t u (Some d) i =
      let changes = map (server_changed o m t u) d.changed in
      let goes = map (server_closed o m) d.removed in
      let comes = map (server_opened o) d.added in
      makers-both (changes ++ goes) (topology_changed o t u ∷ comes)
      (makers-both changes goes
      (all-map IsPlainAddress IsPlainMaker (server_changed o m t u) (changed-plain t u) d.changed i.changed)
      (all-map IsPlainAddress IsPlainMaker (server_closed o m) closed-plain d.removed i.removed))
      (λ k h. (refl, tt), all-map IsPlainAddress IsPlainMaker (server_opened o) come-plain d.added i.added)

  publication-plain : (t u : TopologyDescription) → IsPlainTopology t → IsPlainTopology u → ArePlainMakers (publication o m t u)
  publication-plain t u h i = telling-plain t u (difference t.servers u.servers) (difference-plain t.servers u.servers h i)

  -- what a plain rule tells
  pub told-plain : (rule : Option Rule) (t : TopologyDescription) → IfAny IsPlainRule rule → IsPlainTopology t → ArePlainMakers (told_by o m rule t)
  told-plain None t i h = tt
  told-plain (Some (opens q)) t i h =
      let first = publication o m (unopened q) (opened q) in
      let second = publication o m (opened q) (begins_with q) in
      (λ k j. (refl, tt), makers-both first second (publication-plain (unopened q) (opened q) tt (opened-plain q i)) (publication-plain (opened q) (begins_with q) (opened-plain q i) (begins-plain q i)))
  told-plain (Some (updates s)) t i h = publication-plain t (updated t s) h (updated-plain t s h i)
  told-plain (Some (syncs hosts)) t i h = publication-plain t (synced hosts t) h (synced-plain hosts t i h)
  told-plain (Some (tells_time time)) t i h = tt
  told-plain (Some stops) t i h = makers-both (publication o m t (stopped t)) (topology_closed o ∷ []) (publication-plain t (stopped t) h tt) (λ k j. (refl, tt), tt)
