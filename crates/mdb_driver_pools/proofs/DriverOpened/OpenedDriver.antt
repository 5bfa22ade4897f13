-- A driver that was opened.
use Rattle.std.proofs.Common.{ℕ, ◌≡◌, ◌≤◌, Bool, true, false, List, [], ◌∷◌, ◌++◌, length, Some, None, refl, sym, subst, arith}
use Rattle.std.proofs.lemmas.Bool.Decides.{nat_tests}
use Rattle.mdb_base.specs.OptionRules.{are_seeds, broken_rule}
use Rattle.mdb_base.specs.declared.options.Options.{Options}
use Rattle.mdb_base.specs.declared.options.BadOption.TheVariants.{Seeds}
use Rattle.mdb_describe.specs.declared.topology.TopologyDescription.{TopologyDescription}
use Rattle.mdb_describe.specs.Topology.{opened}
use Rattle.mdb_events.specs.declared.fact.Fact.{Fact}
use Rattle.mdb_log.specs.declared.step.Act.TheVariants.{Open}
use Rattle.mdb_log.specs.History.{Item, with_facts}
use Rattle.mdb_log.specs.Opening.{pool_options}
use Rattle.mdb_pool.specs.Core.{PoolCore}
use Rattle.mdb_driver_rules.specs.Description.{begins_with, unopened}
use Rattle.mdb_driver_rules.specs.Homes.{begun}
use Rattle.mdb_driver_rules.specs.Events.{opening_fact}
use Rattle.mdb_driver_pools.specs.Opening.{Publishes, IsOpened}
use Rattle.mdb_driver_rules.specs.Publishing.{publication, topology_opening, opening}
use Rattle.mdb_driver_pools.specs.Standing.{PoolsStand}
use Rattle.mdb_driver_pools.specs.Telling.{Comes, Tells}
use Rattle.mdb_driver_rules.specs.Turns.{in_turn}
use Rattle.mdb_driver_rules.proofs.KnownBalancers.{few-begun}
use Rattle.mdb_driver_pools.proofs.Publications.MadeAtOnce.{empty-stand}
use Rattle.mdb_driver_rules.proofs.SameHistories.{SameFor}
use Rattle.mdb_driver_pools.proofs.PartsInTurn.{same-stand, tells-one, tells-more, comes-calm}

-- options that keep the rules have at most 128 seeds
pub few-seeds : (o : Options) → broken_rule o ≡ None → length o.seeds ≤ 128
few-seeds o kept = on (are_seeds o.seeds) refl
  where
    on : (b : Bool) → are_seeds o.seeds ≡ b → length o.seeds ≤ 128
    on true e = grind (arith, nat_tests, e)
    on false e = let w : broken_rule o ≡ Some Seeds = rw e refl in cc

-- no pool stands for the step that opens the driver, before its facts
pub begun-stand : (o : Options) (m : ℕ) (q : Options) → PoolsStand (pool_options o) [] (begun [] (record { moment = m; act = Open q }))
begun-stand o m q = same-stand (pool_options o) [] [] (begun [] (record { moment = m; act = Open q })) same (empty-stand o)
  where
    same : SameFor [] (begun [] (record { moment = m; act = Open q }))
    same = record { items = λ p. refl; homes_are = refl; open_are = λ a. refl; names = λ r. refl; asks = λ r. refl; leaving = λ r. refl; tells = λ r. refl; claims = λ p d. refl }

module _ (o : Options) (m : ℕ) (first later : List PoolCore) (seeded t : TopologyDescription) (f0 f1 f2 f3 : List Fact) (none : f0 ≡ []) (begins : f1 ≡ f0 ++ opening_fact o ∷ [])
    (seeds : seeded ≡ opened o) (known : t ≡ begins_with o) (p : Publishes o m (unopened o) seeded [] first f1 f2) (q : Publishes o m seeded t first later f2 f3) where
  opening-told : Tells o m (opening o m o) [] later [] f3
  opening-told =
      let one : Tells o m (topology_opening o ∷ []) [] [] f0 f1 = tells-one o m (topology_opening o) [] [] f0 f1 (λ k z. comes-calm o m [] f0 f1 (opening_fact o) k tt begins z) in
      let A : List (List Item → List Fact) = publication o m (unopened o) (opened o) in
      let B : List (List Item → List Fact) = publication o m (opened o) (begins_with o) in
      let two : Tells o m A [] first f1 f2 = subst (λ (u : TopologyDescription). Tells o m (publication o m (unopened o) u) [] first f1 f2) seeds p.tells in
      let three : Tells o m B first later f2 f3 =
      subst (λ (u : TopologyDescription). Tells o m (publication o m (opened o) u) first later f2 f3) known
      (subst (λ (u : TopologyDescription). Tells o m (publication o m u t) first later f2 f3) seeds q.tells) in
      let both : Tells o m (topology_opening o ∷ A) [] first f0 f2 = tells-more o m (topology_opening o ∷ []) A [] [] first f0 f1 f2 one two in
      subst (λ (fs : List Fact). Tells o m (opening o m o) [] later fs f3) none (tells-more o m (topology_opening o ∷ A) B [] first later f0 f2 f3 both three)

  -- the pools of the seeds stand for their opening
  first-stands : PoolsStand (pool_options o) first (with_facts m (in_turn m (publication o m (unopened o) seeded) []) [])
  first-stands = (p.tells [] (empty-stand o)).stand

  pub is-opened : IsOpened o m later t f3
  is-opened = record {
    known = known;
    tells = opening-told;
    early = q.early;
    open_for = q.open_for (with_facts m (in_turn m (publication o m (unopened o) seeded) []) []) first-stands;
    few = subst (λ (u : TopologyDescription). length u.servers ≤ length o.seeds) (sym known) (few-begun o);
  }

-- after the step that opens the driver the facts are those of the opening, and the pools stand for it with them
pub opened-comes : (o : Options) (m : ℕ) (q : Options) (pools : List PoolCore) (t : TopologyDescription) (facts : List Fact) → IsOpened o m pools t facts
    → Comes o m (in_turn m (opening o m o) (begun [] (record { moment = m; act = Open q }))) pools [] facts (begun [] (record { moment = m; act = Open q }))
opened-comes o m q pools t facts z = z.tells (begun [] (record { moment = m; act = Open q })) (begun-stand o m q)
