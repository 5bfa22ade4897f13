-- What is told of a difference, and of none.
use Rattle.std.proofs.Common.{ℕ, ◌≡◌, ◌≤◌, ◌+◌, ◌^◌, ◌&&◌, ◌||◌, Bool, true, false, not, List, [], ◌∷◌, ◌++◌, length, Option, Some, None, is_some, refl, sym, ◌∙◌, ap, subst, arith}
use Rattle.std.proofs.lemmas.List.{length-map}
use Rattle.mdb_base.specs.declared.address.ServerAddress.{ServerAddress}
use Rattle.mdb_base.specs.declared.options.Options.{Options}
use Rattle.mdb_describe.specs.declared.topology.TopologyDescription.{TopologyDescription}
use Rattle.mdb_describe.specs.declared.diff.Diff.{Diff}
use Rattle.mdb_describe.specs.Differences.{difference, unless_empty, missing, changed}
use Rattle.mdb_describe.specs.Servers.{is_known, is_listed}
use Rattle.mdb_events.specs.declared.fact.Fact.{Fact}
use Rattle.mdb_log.specs.History.{Item}
use Rattle.mdb_log.specs.Homes.{Home}
use Rattle.mdb_pool.specs.Core.{PoolCore}
use Rattle.mdb_driver_pools.specs.declared.pool_change.PoolChange.{PoolChange}
use Rattle.mdb_topology.specs.declared.topology.TopologyCore.{TopologyCore}
use Rattle.mdb_driver_pools.specs.Planned.{IsPlanned, PlansMore, LeadsAll, opened_by}
use Rattle.mdb_driver_rules.specs.Publishing.{telling, publication, topology_closed_fact, topology_closed}
use Rattle.mdb_topology.specs.Standing.{StandsForSome}
use Rattle.mdb_driver_pools.specs.Standing.{at_address}
use Rattle.mdb_driver_rules.specs.Touching.{touches}
use Rattle.mdb_topology.specs.Changing.{IsTold}
use Rattle.mdb_driver_rules.proofs.ServersThen.{known-now, of-difference}
use Rattle.mdb_driver_pools.proofs.Publications.PlannedPart.{planned-still}
use Rattle.mdb_driver_pools.proofs.PartsInTurn.{tells-none, tells-push, comes-calm}

-- a driver has an open pool for each server that it knows
pub open-known : (w : TopologyCore) (s : StandsForSome w) (a : ServerAddress) → is_some (at_address w.pools.cores.items a) ≡ is_known a w.description.servers
open-known w s a = ap is_some (sym (s.1.pools.fit.open_are a)) ∙ s.1.described.open_for a

-- where nothing differs, nobody went and nobody came
pub nothing-differs : (d : Diff) → unless_empty d ≡ None → (d.removed ≡ []) × (d.added ≡ [])
nothing-differs d e = on d.changed d.removed d.added refl refl refl e
  where
    on : (xs ys zs : List ServerAddress) → d.changed ≡ xs → d.removed ≡ ys → d.added ≡ zs → unless_empty d ≡ None → (d.removed ≡ []) × (d.added ≡ [])
    on [] [] [] f g h e = (g, h)
    on [] [] (z ∷ zs) f g h e = let w : unless_empty d ≡ Some d = rw (f, g, h) refl in let k : ◌≡◌ {A = Option Diff} (Some d) None = sym w ∙ e in cc
    on [] (y ∷ ys) zs f g h e = let w : unless_empty d ≡ Some d = rw (f, g) refl in let k : ◌≡◌ {A = Option Diff} (Some d) None = sym w ∙ e in cc
    on (x ∷ xs) ys zs f g h e = let w : unless_empty d ≡ Some d = rw f refl in let k : ◌≡◌ {A = Option Diff} (Some d) None = sym w ∙ e in cc

module _ (w : TopologyCore) (s : StandsForSome w) (m : ℕ) (u : TopologyDescription) where
  abbrev o : Options
  o = w.options

  abbrev t : TopologyDescription
  t = w.description

  abbrev pools : List PoolCore
  pools = w.pools.cores.items

  abbrev n : ℕ
  n = length pools

  pub difference-told : (d : Diff) (changes : List PoolChange) (facts : List Fact) → difference t.servers u.servers ≡ Some d → n + length d.added ≤ 2 ^ 32
      → PlansMore o m pools n (touches u d) (publication o m t u) d.removed d.added [] changes [] facts → IsTold o m pools n u (telling o m t u (Some d)) changes facts
  difference-told d changes facts e few p = record {
    touched = touches u d;
    planned = subst (λ x. IsPlanned o m pools n (touches u d) (telling o m t u x) changes [] facts) e (subst (λ cs. IsPlanned o m pools n (touches u d) (publication o m t u) cs [] facts) (sym p.behind) p.planned_are);
    few = subst (λ x. n + x ≤ 2 ^ 32) (sym opened) few;
    open_for = λ later k can leads z a. p.leaves pools later k a can (subst (λ cs. LeadsAll cs pools later) p.behind leads) z ∙ now a;
  }
    where
      opened : length (opened_by changes) ≡ length d.added
      opened = ap (λ cs. length (opened_by cs)) p.behind ∙ (sym (length-map (opened_by p.added) (λ (x : Home). x.address)) ∙ ap length p.opens)

      whole : record { changed = changed t.servers u.servers; removed = missing t.servers u.servers; added = missing u.servers t.servers } ≡ d
      whole = of-difference _ d e

      now : (a : ServerAddress) → (is_some (at_address pools a) && not (is_listed d.removed a)) || is_listed d.added a ≡ is_known a u.servers
      now a =
          ap (λ b. (b && not (is_listed d.removed a)) || is_listed d.added a) (open-known w s a)
          ∙ (ap (λ (x : Diff). (is_known a t.servers && not (is_listed x.removed a)) || is_listed x.added a) (sym whole)
          ∙ known-now a t.servers u.servers)

  known-same : (a : ServerAddress) → difference t.servers u.servers ≡ None → is_known a t.servers ≡ is_known a u.servers
  known-same a e =
      let none = nothing-differs (record { changed = changed t.servers u.servers; removed = missing t.servers u.servers; added = missing u.servers t.servers }) e in
      sym (keeps (is_known a t.servers)) ∙ (ap (λ xs. (is_known a t.servers && not (is_listed xs a)) || is_listed [] a) (sym none.0) ∙ (ap (λ xs. (is_known a t.servers && not (is_listed (missing t.servers u.servers) a)) || is_listed xs a) (sym none.1) ∙ known-now a t.servers u.servers))
    where
      keeps : (b : Bool) → (b && true) || false ≡ b
      keeps true = refl
      keeps false = refl

  pub nothing-told : difference t.servers u.servers ≡ None → n ≤ 2 ^ 32 → IsTold o m pools n u [] [] []
  nothing-told e few = record {
    touched = λ a. false;
    planned = planned-still o m pools n (λ a. false) [] [] [] (λ now can. tells-none o m now []);
    few = omega (arith, few);
    open_for = λ later k can leads z a. ap (λ xs. is_some (at_address xs a)) leads ∙ (open-known w s a ∙ known-same a e);
  }

  -- and at last that the topology is closed
  pub closed-told : (parts : List (List Item → List Fact)) (changes : List PoolChange) (facts : List Fact) → IsTold o m pools n u parts changes facts
      → IsTold o m pools n u (parts ++ topology_closed o ∷ []) changes (facts ++ topology_closed_fact o ∷ [])
  closed-told parts changes facts told = record {
    touched = told.touched;
    planned = record {
      leads = told.planned.leads;
      tells = λ now later can leads. tells-push o m parts (topology_closed o) now later later [] facts (facts ++ topology_closed_fact o ∷ []) (told.planned.tells now later can leads)
          (λ k z. comes-calm o m later facts (facts ++ topology_closed_fact o ∷ []) (topology_closed_fact o) k tt refl z);
      keeps = told.planned.keeps;
      early = told.planned.early;
      homes = told.planned.homes;
    };
    few = told.few;
    open_for = told.open_for;
  }
