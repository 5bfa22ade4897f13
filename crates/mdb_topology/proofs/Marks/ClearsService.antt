-- An error of an operation that is current clears the service of its connection, where load is balanced.
use Rattle.std.proofs.Common.{ℕ, ◌≡◌, ◌≤◌, ◌||◌, Bool, true, false, not, if◌then◌else◌, List, [], ◌∷◌, ◌++◌, Some, None, is_some, refl, sym, ◌∙◌, ap}
use Rattle.std.specs.Prelude.{slice_get}
use Rattle.mdb_base.specs.declared.address.ServerAddress.{ServerAddress}
use Rattle.mdb_base.specs.declared.error.Error.{Error}
use Rattle.mdb_base.specs.declared.options.Options.{Options}
use Rattle.mdb_base.specs.Errors.{is_state_change}
use Rattle.mdb_events.specs.declared.fact.Fact.{Fact}
use Rattle.mdb_log.specs.declared.step.Act.{Act}
use Rattle.mdb_log.specs.declared.step.Act.TheVariants as Do
use Rattle.mdb_log.specs.declared.reply.Reply.TheVariants.{Changed}
use Rattle.mdb_log.specs.History.{Item}
use Rattle.mdb_pool.specs.Core.{PoolCore}
use Rattle.mdb_pool.specs.Now.{held_now, service_now}
use Rattle.mdb_topology.specs.declared.topology.TopologyCore.{TopologyCore}
use Rattle.mdb_topology.specs.Complaining.{is_hard_now, service_cleared, concerns_now}
use Rattle.mdb_driver_rules.specs.Current.{operating}
use Rattle.mdb_driver_rules.specs.Description.{rule_after, marking_rule, description_of, change_by, known_after}
use Rattle.mdb_driver_rules.specs.Errors.{Case, state_change, lost, Trouble, Clear, case_of, is_loss, marks, asks, where_so, for_service}
use Rattle.mdb_driver_rules.specs.Facts.{trouble, clear_by, is_clear, clearing, asking}
use Rattle.mdb_driver_pools.specs.Finding.{holder}
use Rattle.mdb_topology.specs.Marking.{IsClearing}
use Rattle.mdb_topology.specs.Standing.{StandsFor}
use Rattle.mdb_driver_rules.specs.Turns.{in_turn}
use Rattle.mdb_topology.proofs.Marks.OfOperations.{open-unstopped, complaint-here, row_trouble, complaint-trouble}
use Rattle.mdb_topology.proofs.Marks.CurrentErrors.{complaint-passes, trouble-told}
use Rattle.mdb_topology.proofs.Marks.WhichSteps.{all_parts}
use Rattle.mdb_topology.proofs.Publications.WhichSteps.{at_m, rule-unstopped}

module _ (w : TopologyCore) (h : List Item) (z : StandsFor w h) (m : ℕ) (l : w.pools.last ≤ m) (r : ℕ) (e : Error) (i : ℕ) (s : PoolCore) (x : ℕ)
    (held : holder w.pools.cores.items r ≡ Some i) (there : slice_get w.pools.cores.items i ≡ Some s) (has : held_now s r ≡ Some x) (current : concerns_now w s x e ≡ true) (balanced : w.options.load_balanced ≡ true) where
  abbrev o : Options
  o = w.options

  abbrev act : Act
  act = Do.Error r e

  abbrev cleared : Clear
  cleared = for_service (service_cleared s x e)

  module _ (row : Case) (case : case_of operating e ≡ Some row) (unmarked : marks true row ≡ false) (silent : (c : Clear) (a : ServerAddress) → asks true row e c a ≡ [])
      (clears_it : clear_by o false (Some (row_trouble w h z m l r e i s x held there has current row)) ≡ cleared) where
    abbrev met : Trouble
    met = row_trouble w h z m l r e i s x held there has current row

    ruled : rule_after o h (at_m w h z m l act) ≡ None
    ruled =
        rule-unstopped w h z m l act (open-unstopped w h z m l s.address i (complaint-here w h z m l r e i s x held there has current))
        ∙ (ap (marking_rule o) (trouble-told w h z m l r e i s x held there has row current case) ∙ rw (balanced, unmarked) refl)

    troubled : trouble o h (at_m w h z m l act) ≡ Some met
    troubled = complaint-trouble w h z m l r e i s x held there has current row case

    asks-none : (c : Clear) → asks o.load_balanced row e c s.address ≡ []
    asks-none c = ap (λ b. asks b row e c s.address) balanced ∙ silent c s.address

    clearing-row : IsClearing w h (at_m w h z m l act) met cleared
    clearing-row = (
      tt,
      record {
        passes = complaint-passes w h z m l r e i s x held there has;
        known = ap (λ q. known_after q w.description) ruled;
        tells = λ k.
            ap (λ q. in_turn m (all_parts o m q (description_of o h) (trouble o h (at_m w h z m l act)) (is_some (change_by q (description_of o h)))) k) ruled
            ∙ (ap (λ y. in_turn m (all_parts o m None (description_of o h) y false) k) troubled
            ∙ (ap (λ c. in_turn m (clearing o m (Some met) c ∷ asking o (Some met) c ∷ []) k) clears_it
            ∙ ap (λ (fs : List Fact). clearing o m (Some met) cleared k ++ (fs ++ [])) (asks-none cleared)));
        replies = λ k.
            ap (λ q. Changed (is_some (change_by q (description_of o h)) || is_clear (clear_by o (is_some (change_by q (description_of o h))) (trouble o h (at_m w h z m l act))))) ruled
            ∙ (ap (λ y. Changed (is_clear (clear_by o false y))) troubled ∙ ap (λ c. Changed (is_clear c)) clears_it);
        stop = refl;
      },
    )

  -- what is cleared by a change of the server's state, and by a lost connection
  changed-clears : is_state_change e.kind ≡ true → clear_by o false (Some (row_trouble w h z m l r e i s x held there has current state_change)) ≡ cleared
  changed-clears f = rw (balanced, f) (on (is_hard_now s x e))
    where
      on : (b : Bool) → where_so b (for_service (service_now s x)) ≡ for_service (if not b then None else service_now s x)
      on true = refl
      on false = refl

  lost-clears : is_state_change e.kind ≡ false → clear_by o false (Some (row_trouble w h z m l r e i s x held there has current lost)) ≡ cleared
  lost-clears f = rw (balanced, f) refl

  -- the trouble of the error
  pub record Balanced : Type 0 where
    pub row : Case
    pub clears_it : IsClearing w h (at_m w h z m l act) (row_trouble w h z m l r e i s x held there has current row) cleared

  pub balanced-clearing : is_some (case_of operating e) ≡ true → Balanced
  balanced-clearing row = on (is_state_change e.kind) (is_loss operating e) refl refl
    where
      on : (b c : Bool) → is_state_change e.kind ≡ b → is_loss operating e ≡ c → Balanced
      on true c f g = record { row = state_change; clears_it = clearing-row state_change (rw f refl) refl (λ c a. refl) (changed-clears f) }
      on false true f g = record { row = lost; clears_it = clearing-row lost (rw (f, g) refl) refl (λ c a. refl) (lost-clears f) }
      on false false f g = let no : is_some (case_of operating e) ≡ false = rw (f, g) refl in let t : true ≡ false = sym row ∙ no in cc
