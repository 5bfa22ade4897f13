-- The facts of a check stand before the parts of a rule, and are of no pool.
use Rattle.std.proofs.Common.{ℕ, ◌≡◌, List, [], ◌∷◌, ◌++◌, Bool, true, false, refl, sym, ap}
use Rattle.std.specs.Prelude.{⊤}
use Rattle.std.proofs.lemmas.List.{append_assoc}
use Rattle.mdb_base.specs.declared.options.Options.{Options}
use Rattle.mdb_describe.specs.declared.topology.TopologyDescription.{TopologyDescription}
use Rattle.mdb_events.specs.declared.fact.Fact.{Fact}
use Rattle.mdb_log.specs.declared.step.Act.{Act}
use Rattle.mdb_log.specs.declared.step.Act.TheVariants as Do
use Rattle.mdb_log.specs.History.{Item, with_facts}
use Rattle.mdb_log.specs.Opening.{pool_options}
use Rattle.mdb_pool.specs.Core.{PoolCore}
use Rattle.mdb_driver_pools.specs.declared.pool_change.PoolChange.{PoolChange}
use Rattle.mdb_driver_rules.specs.Homes.{is_here}
use Rattle.mdb_driver_rules.specs.Monitors.{heartbeat}
use Rattle.mdb_topology.specs.Changing.{IsTold}
use Rattle.mdb_driver_pools.specs.Standing.{PoolsStand}
use Rattle.mdb_driver_pools.specs.Telling.{Comes, Tells}
use Rattle.mdb_driver_rules.specs.Turns.{in_turn}
use Rattle.mdb_driver_rules.proofs.SameHistories.{IsCalm}
use Rattle.mdb_driver_pools.proofs.PartsInTurn.{comes-as, comes-calm, comes-more}

-- facts of no pool
abbrev pub AreCalm : List Fact → Type 0
AreCalm [] = ⊤
AreCalm (f ∷ fs) = IsCalm f × AreCalm fs

-- those of a check are
pub heartbeat-calm : (o : Options) (h : List Item) (act : Act) → AreCalm (heartbeat o h act)
heartbeat-calm o h (Do.Beat a p) = (tt, tt)
heartbeat-calm o h (Do.Beaten a p d came) = on (is_here h a p) refl
  where
    on : (b : Bool) → is_here h a p ≡ b → AreCalm (heartbeat o h (Do.Beaten a p d came))
    on true e = rw e (tt, tt)
    on false e = rw e tt
heartbeat-calm o h _ = tt

module _ (o : Options) (m : ℕ) where
  comes-beats : (pools : List PoolCore) (fs before : List Fact) (k : List Item) → AreCalm fs → PoolsStand (pool_options o) pools k → Comes o m fs pools before (before ++ fs) k
  comes-beats pools [] before k c z = record { added = refl; stand = z; fair = tt; fresh = tt }
  comes-beats pools (f ∷ fs) before k c z =
      let first : Comes o m (f ∷ []) pools before (before ++ f ∷ []) k = comes-calm o m pools before (before ++ f ∷ []) f k c.0 refl z in
      let more : Comes o m fs pools [] fs (with_facts m (f ∷ []) k) = comes-beats pools fs [] (with_facts m (f ∷ []) k) c.1 first.stand in
      comes-more o m (f ∷ []) fs pools pools before (before ++ f ∷ []) (before ++ f ∷ fs) k first (record { added = sym (append_assoc before (f ∷ []) fs); stand = more.stand; fair = more.fair; fresh = more.fresh })

  -- after facts of no pool the pools stand as before
  pub beats-stand : (fs : List Fact) → AreCalm fs → (pools : List PoolCore) (k : List Item) → PoolsStand (pool_options o) pools k → PoolsStand (pool_options o) pools (with_facts m fs k)
  beats-stand fs c pools k z = (comes-beats pools fs [] k c z).stand

  -- parts that tell the same are told as well
  pub told-as : (pools : List PoolCore) (n : ℕ) (u : TopologyDescription) (parts others : List (List Item → List Fact)) (changes : List PoolChange) (facts : List Fact) → ((k : List Item) → in_turn m others k ≡ in_turn m parts k)
      → IsTold o m pools n u parts changes facts → IsTold o m pools n u others changes facts
  told-as pools n u parts others changes facts same t = record {
    touched = t.touched;
    planned = record {
      leads = t.planned.leads;
      tells = λ now later can leads k z. comes-as o m (in_turn m others k) (in_turn m parts k) later [] facts k (sym (same k)) (t.planned.tells now later can leads k z);
      keeps = t.planned.keeps;
      early = t.planned.early;
      homes = t.planned.homes;
    };
    few = t.few;
    open_for = t.open_for;
  }

  module _ (beats : List Fact) (c : AreCalm beats) where
    tells-front : (parts : List (List Item → List Fact)) (pools later : List PoolCore) (facts : List Fact) → Tells o m parts pools later [] facts → Tells o m ((λ k. beats) ∷ parts) pools later [] (beats ++ facts)
    tells-front parts pools later facts tells k z =
        let first : Comes o m beats pools [] beats k = comes-beats pools beats [] k c z in
        let j : List Item = with_facts m beats k in
        let behind : Comes o m _ later [] facts j = tells j first.stand in
        comes-more o m beats _ pools later [] beats (beats ++ facts) k first (record { added = ap (λ fs. beats ++ fs) behind.added; stand = behind.stand; fair = behind.fair; fresh = behind.fresh })

    pub told-front : (pools : List PoolCore) (n : ℕ) (u : TopologyDescription) (parts : List (List Item → List Fact)) (changes : List PoolChange) (facts : List Fact)
        → IsTold o m pools n u parts changes facts → IsTold o m pools n u ((λ k. beats) ∷ parts) changes (beats ++ facts)
    told-front pools n u parts changes facts t = record {
      touched = t.touched;
      planned = record {
        leads = t.planned.leads;
        tells = λ now later can leads. tells-front parts now later facts (t.planned.tells now later can leads);
        keeps = t.planned.keeps;
        early = t.planned.early;
        homes = t.planned.homes;
      };
      few = t.few;
      open_for = t.open_for;
    }
