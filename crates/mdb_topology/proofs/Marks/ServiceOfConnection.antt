-- Under load balancing an error clears the service of its connection, and marks no server.
use Rattle.std.proofs.Common.{ℕ, ◌≡◌, ◌≤◌, ◌^◌, ◌&&◌, Bool, true, false, if◌then◌else◌, List, [], ◌∷◌, length, Option, Some, None, is_some, refl, sym, ◌∙◌, ap, subst, append-nil, arith}
use Rattle.std.specs.Prelude.{slice_get, unwrap_or, All}
use Rattle.std.proofs.lemmas.List.Elements.{All-nil}
use Rattle.mdb_base.specs.Equality.{same_address}
use Rattle.mdb_base.specs.declared.error.Error.{Error}
use Rattle.mdb_base.specs.declared.object_id.ObjectId.{ObjectId}
use Rattle.mdb_base.specs.declared.options.Options.{Options}
use Rattle.mdb_describe.specs.Servers.{in_order}
use Rattle.mdb_events.specs.declared.fact.Fact.{Fact}
use Rattle.mdb_monitor.specs.Standing.{StandsFor as MonitorStands}
use Rattle.mdb_log.specs.declared.reply.Reply.TheVariants.{Changed, Done}
use Rattle.mdb_log.specs.declared.reply.What.TheVariants.{Generation}
use Rattle.mdb_log.specs.declared.step.Step.{Step}
use Rattle.mdb_log.specs.History.{Item, of_pool}
use Rattle.mdb_log.specs.Opening.{pool_options}
use Rattle.mdb_pool.specs.Core.{PoolCore}
use Rattle.mdb_pool_rules.specs.Facts.{clear_facts}
use Rattle.mdb_pool.specs.Now.{exhausted_now}
use Rattle.mdb_pool_rules.specs.Refusal.{is_exhausted, wrong_service}
use Rattle.mdb_pool.specs.Refusing.{refusal_now}
use Rattle.mdb_pool.specs.Standing.{Fits}
use Rattle.mdb_pool.proofs.Told.OfQueries.{exhausted-is}
use Rattle.mdb_driver_pools.specs.declared.pool_change.PoolChange.{PoolChange}
use Rattle.mdb_topology.specs.declared.transition.Transition.{Transition}
use Rattle.mdb_topology.specs.declared.monitors.monitoring.Monitoring.TheVariants.{Same}
use Rattle.mdb_topology.specs.declared.topology.TopologyCore.{TopologyCore}
use Rattle.mdb_driver_pools.specs.Acting.{step_of}
use Rattle.mdb_topology.specs.Changing.{IsTold}
use Rattle.mdb_driver_rules.specs.Description.{description_of, applied, rule_after}
use Rattle.mdb_driver_rules.specs.Errors.{Trouble, for_service}
use Rattle.mdb_driver_rules.specs.Facts.{is_clear, clearing}
use Rattle.mdb_driver_rules.specs.Homes.{begun}
use Rattle.mdb_topology.specs.Marking.{spoken, HasParts, IsClearing}
use Rattle.mdb_driver_pools.specs.Clearing.{Clears, clear_act}
use Rattle.mdb_driver_pools.specs.Planned.{IsPlanned, LeadsAll, PlansMore, opened_by}
use Rattle.mdb_driver_rules.specs.Refusal.{first_past, ran_out, refusal}
use Rattle.mdb_topology.specs.Standing.{StandsFor}
use Rattle.mdb_driver_pools.specs.Standing.{at_address, PoolFits, PoolsStand}
use Rattle.mdb_topology.specs.Stepping.{Follows}
use Rattle.mdb_driver_pools.specs.Telling.{Comes}
use Rattle.mdb_driver_rules.specs.Turns.{in_turn}
use Rattle.mdb_driver_rules.proofs.General.Truth.{and-or-same}
use Rattle.mdb_topology.proofs.Marks.ClearsPool.{plans-clear, past-clear}
use Rattle.mdb_topology.proofs.Publications.OfDifference.{open-known}
use Rattle.mdb_topology.proofs.WholeSteps.TopologyStep.{known-applied, telling-outside, telling-quiet, follows-parts}
use Rattle.mdb_topology.proofs.Marks.ComesTo.{as-parts, not-exhausted}
use Rattle.mdb_topology.proofs.Marks.Tells.{no-address}
use Rattle.mdb_driver_rules.proofs.General.OnePosition.{some-same}
use Rattle.mdb_driver_pools.proofs.Publications.PlannedPart.{leaves-still}
use Rattle.mdb_driver_pools.proofs.Publications.PlannedOfServer.{plans-still}
use Rattle.mdb_topology.proofs.WholeSteps.RefusedOfNoPool.{outside-refusal}
use Rattle.mdb_driver_rules.proofs.SameHistories.{IsPlain, outside}
use Rattle.mdb_driver_pools.proofs.PartsInTurn.{comes-none, same-stand}
use Rattle.mdb_topology.proofs.Marks.AtItsLimit.{clear-refused}

module _ (w : TopologyCore) (h : List Item) (z : StandsFor w h) (step : Step) (l : w.pools.last ≤ step.moment) (balanced : w.options.load_balanced ≡ true) (i : ℕ) (s : PoolCore) (there : slice_get w.pools.cores.items i ≡ Some s)
    (here : at_address w.pools.cores.items s.address ≡ Some i) (x : Trouble) (service : Option ObjectId) (error : Error) (pool : x.pool ≡ s.pool) (address : x.address ≡ s.address) (error_is : x.error ≡ error)
    (is_clearing : IsClearing w h step x (for_service service)) where
  abbrev o : Options
  o = w.options

  abbrev m : ℕ
  m = step.moment

  abbrev pools : List PoolCore
  pools = w.pools.cores.items

  abbrev n : ℕ
  n = length pools

  abbrev k : List Item
  k = begun h step

  abbrev c : HasParts o h w.description None step (Changed (is_clear (for_service service))) false (clearing o m (Some x) (for_service service) ∷ [])
  c = is_clearing.1

  abbrev parts : List (List Item → List Fact)
  parts = clearing o m (Some x) (for_service service) ∷ []

  begins : PoolsStand (pool_options o) pools k
  begins = same-stand (pool_options o) pools h k (outside m step.act Done h (telling-outside step.act is_clearing.0) tt) z.pools

  past-service : (t : ObjectId) → service ≡ Some t → first_past o m k (in_turn m parts k) ≡ (if exhausted_now s (Some t) then Some Generation else None)
  past-service t e =
      let d : PoolFits (pool_options o) k i s = begins.fit.each i s there in
      let fits : Fits s (of_pool s.pool k) = subst (λ q. Fits s (of_pool q k)) (sym d.number) d.fits in
      let full : is_exhausted (pool_options o) (of_pool s.pool k) (Some t) ≡ exhausted_now s (Some t) = ap (λ p. is_exhausted p (of_pool s.pool k) (Some t)) (sym d.options) ∙ exhausted-is s (of_pool s.pool k) fits (Some t) in
      ap (λ y. first_past o m k (in_turn m (clearing o m (Some x) (for_service y) ∷ []) k)) e
      ∙ (ap (first_past o m k) (append-nil (clear_facts x.pool x.address (pool_options o) m (of_pool x.pool k) (Some t) x.error))
      ∙ (ap (λ q. first_past o m k (clear_facts q x.address (pool_options o) m (of_pool q k) (Some t) x.error)) pool
      ∙ (past-clear o m k s.pool x.address x.error (Some t) ∙ ap (λ b. if b then Some Generation else None) full)))

  past-nothing : service ≡ None → first_past o m k (in_turn m parts k) ≡ None
  past-nothing e = ap (λ y. first_past o m k (in_turn m (clearing o m (Some x) (for_service y) ∷ []) k)) e

  known-begun : description_of o k ≡ w.description
  known-begun = ap (applied (rule_after o h step)) z.described.known ∙ (known-applied (rule_after o h step) w.description ∙ ap (λ y. unwrap_or y w.description) c.known)

  -- what the clear passes, whether it comes or not
  past-parts : (b : Bool) → is_some service && exhausted_now s service ≡ b → first_past o m k (in_turn m parts k) ≡ (if b then Some Generation else None)
  past-parts b e = on service refl
    where
      on : (y : Option ObjectId) → service ≡ y → first_past o m k (in_turn m parts k) ≡ (if b then Some Generation else None)
      on None f = past-nothing f ∙ ap (λ c. if c then Some Generation else None) (sym (ap (λ y. is_some y && exhausted_now s y) f) ∙ e)
      on (Some t) f = past-service t f ∙ ap (λ c. if c then Some Generation else None) (sym (ap (λ y. is_some y && exhausted_now s y) f) ∙ e)

  -- the step is refused where the generation is at its limit, and for nothing else
  pub service-refusal : (b : Bool) → is_some service && exhausted_now s service ≡ b → refusal o h step ≡ ran_out (if b then Some Generation else None)
  service-refusal b e =
      outside-refusal o h m step.act (telling-outside step.act is_clearing.0) (if b then Some Generation else None) c.passes (subst (λ v. length v.servers ≤ 128) (sym known-begun) z.described.few)
      (ap (λ fs. first_past o m k (in_turn m ((λ k. fs) ∷ spoken o h step) k)) (telling-quiet o h step.act is_clearing.0) ∙ (ap (first_past o m k) (c.tells k) ∙ past-parts b e))

  module _ (later : List PoolChange) (between : List Fact) where
    module _ (cleared : Clears (is_some service) pools i m service error [] later [] between) where
      planned : PlansMore o m pools n (same_address s.address) parts [] [] [] later [] between
      planned = on service cleared
        where
          on : (y : Option ObjectId) → Clears (is_some y) pools i m y error [] later [] between → PlansMore o m pools n (same_address s.address) (clearing o m (Some x) (for_service y) ∷ []) [] [] [] later [] between
          on None e =
              plans-still o m pools n [] later (same_address s.address) (clearing o m (Some x) (for_service None)) [] [] between e.0 (leaves-still o m pools n (same_address s.address))
              (λ now z k y. subst (λ fs. Comes o m [] now [] fs k) (sym e.1) (comes-none o m now [] k y))
          on (Some t) e =
              let same : e.0.pool ≡ s = some-same e.0.pool s (slice_get pools i) e.0.there there in
              plans-clear o m pools n [] later s.address i (Some t) error [] between here e.0 x (pool ∙ ap (λ (u : PoolCore). u.pool) (sym same)) address error_is

      opens-none : opened_by later ≡ []
      opens-none = ap opened_by planned.behind ∙ no-address (opened_by planned.added) planned.opens

      told : IsTold o m pools n w.description parts later between
      told = record {
        touched = same_address s.address;
        planned = subst (λ cs. IsPlanned o m pools n (same_address s.address) parts cs [] between) (sym planned.behind) planned.planned_are;
        few = let count : length (opened_by later) ≡ 0 = ap length opens-none in let all : n ≤ 2 ^ 32 = z.numbers in omega arith;
        open_for = λ others k can leads y b.
            planned.leaves pools others k b can (subst (λ cs. LeadsAll cs pools others) planned.behind leads) y
            ∙ (and-or-same (is_some (at_address pools b)) ∙ open-known w (h, z) b);
      }

      spare : first_past o m k (in_turn m parts k) ≡ None
      spare = on service refl cleared
        where
          on : (y : Option ObjectId) → service ≡ y → Clears (is_some y) pools i m y error [] later [] between → first_past o m k (in_turn m parts k) ≡ None
          on None e f = past-nothing e
          on (Some t) e f =
              let same : f.0.pool ≡ s = some-same f.0.pool s (slice_get pools i) f.0.there there in
              let accepted : refusal_now s (step_of m (clear_act (Some t) error) s.pool) ≡ None = subst (λ (u : PoolCore). refusal_now u (step_of m (clear_act (Some t) error) u.pool) ≡ None) same f.1 in
              let fit : wrong_service o.load_balanced (Some t) ≡ false = ap (λ b. wrong_service b (Some t)) balanced in
              past-service t e ∙ rw (not-exhausted (exhausted_now s (Some t)) (sym (clear-refused w (h, z) i s there m l (Some t) error fit) ∙ accepted)) refl

      pub service-follows : (next : Transition) → next.reply ≡ Changed (is_some service) → next.facts.items ≡ between → next.changes.items ≡ later → next.description ≡ None → next.stops ≡ false → next.monitors.items ≡ [] → next.monitoring ≡ Same → Follows w next step h
      service-follows next reply facts changes described goes_on none nothing =
          let v : unwrap_or next.description w.description ≡ w.description = ap (λ y. unwrap_or y w.description) described in
          follows-parts w h z step l next (subst IsPlain (sym reply) tt) parts is_clearing.0
          (as-parts c described (reply ∙ ap Changed (clears-service service)) goes_on)
          (subst (λ y. IsTold o m pools n y parts next.changes.items next.facts.items) (sym v)
          (subst (λ cs. IsTold o m pools n w.description parts cs next.facts.items) (sym changes)
          (subst (λ fs. IsTold o m pools n w.description parts later fs) (sym facts) told)))
          (subst (λ y. in_order y.servers ≡ true) (sym v) z.described.ordered) (subst (λ y. length y.servers ≤ 128) (sym v) z.described.few)
          (rw (none, changes, opens-none) refl) (subst (All (λ y. MonitorStands y [])) (sym none) (All-nil (λ y. MonitorStands y []))) nothing spare
        where
          clears-service : (y : Option ObjectId) → is_some y ≡ is_clear (for_service y)
          clears-service None = refl
          clears-service (Some t) = refl
