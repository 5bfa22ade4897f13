-- What becomes of a step whose error marks a server.
use Rattle.std.proofs.Common.{ℕ, ◌≡◌, ◌≤◌, List, [], ◌∷◌, ◌++◌, length, Option, Some, None, refl, sym, ◌∙◌, ap, subst, true, false}
use Rattle.std.specs.Prelude.{unwrap_or, All}
use Rattle.std.proofs.lemmas.List.Elements.{All-nil}
use Rattle.mdb_base.specs.declared.address.ServerAddress.{ServerAddress}
use Rattle.mdb_base.specs.declared.error.Error.{Error}
use Rattle.mdb_base.specs.declared.options.Options.{Options}
use Rattle.mdb_describe.specs.declared.topology.TopologyDescription.{TopologyDescription}
use Rattle.mdb_describe.specs.Descriptions.{failed}
use Rattle.mdb_describe.specs.Servers.{in_order}
use Rattle.mdb_describe.specs.Update.{updated}
use Rattle.mdb_events.specs.declared.fact.Fact.{Fact}
use Rattle.mdb_monitor.specs.Standing.{StandsFor as MonitorStands}
use Rattle.mdb_log.specs.declared.reply.Refused.{Refused as Cause}
use Rattle.mdb_log.specs.declared.reply.Refused.TheVariants.{Exhausted}
use Rattle.mdb_log.specs.declared.reply.Reply.TheVariants.{Changed, Done}
use Rattle.mdb_log.specs.declared.reply.What.{What}
use Rattle.mdb_log.specs.declared.reply.What.TheVariants.{Generation}
use Rattle.mdb_log.specs.declared.step.Step.{Step}
use Rattle.mdb_log.specs.History.{Item, with_facts}
use Rattle.mdb_log.specs.Opening.{pool_options}
use Rattle.mdb_pool.specs.Core.{PoolCore}
use Rattle.mdb_topology.specs.declared.transition.Transition.{Transition}
use Rattle.mdb_topology.specs.declared.transition.Decision.{Decision}
use Rattle.mdb_topology.specs.declared.transition.Decision.TheVariants.{Refused, Accepted, Repeated}
use Rattle.mdb_topology.specs.declared.topology.TopologyCore.{TopologyCore}
use Rattle.mdb_topology.specs.Changing.{IsTelling, IsTold}
use Rattle.mdb_driver_rules.specs.Description.{description_of, applied, rule_after}
use Rattle.mdb_driver_rules.specs.Errors.{Trouble}
use Rattle.mdb_driver_rules.specs.Homes.{begun}
use Rattle.mdb_topology.specs.Marking.{mark_parts, IsMarking, MarkPasses, IsMarked, MarksTo}
use Rattle.mdb_driver_rules.specs.Monitors.{heartbeat}
use Rattle.mdb_driver_pools.specs.Planned.{opened_by}
use Rattle.mdb_driver_rules.specs.Refusal.{first_past, refusal, sooner}
use Rattle.mdb_topology.specs.Standing.{StandsFor}
use Rattle.mdb_driver_pools.specs.Standing.{PoolsStand}
use Rattle.mdb_topology.specs.Stepping.{BecomesOf, Follows}
use Rattle.mdb_driver_rules.specs.Turns.{in_turn}
use Rattle.mdb_topology.proofs.WholeSteps.TopologyStep.{known-applied, telling-outside, telling-quiet, follows-said}
use Rattle.mdb_driver_rules.proofs.NumbersWithinLimits.{take_numbers, first-free}
use Rattle.mdb_topology.proofs.OfMonitors.FactsOfCheck.{heartbeat-calm, beats-stand, told-front, told-as}
use Rattle.mdb_driver_rules.proofs.FactsPastLimits.{past-append}
use Rattle.mdb_topology.proofs.Publications.BecomesKnown.{telling-watches}
use Rattle.mdb_driver_rules.proofs.StaysKnown.{marked-length, marked-ordered}
use Rattle.mdb_topology.proofs.WholeSteps.RefusedOfNoPool.{outside-refusal}
use Rattle.mdb_driver_rules.proofs.SameHistories.{IsOutside, IsPlain, outside}
use Rattle.mdb_driver_pools.proofs.PartsInTurn.{same-stand}
use Rattle.mdb_topology.proofs.WholeSteps.CheckThenRule.{said, refused-said}
use Rattle.mdb_topology.proofs.OfMonitors.ChangesNoPool.{Watches, watched-fit, watched-counts}

module _ (w : TopologyCore) (h : List Item) (z : StandsFor w h) (step : Step) (l : w.pools.last ≤ step.moment) (a : ServerAddress) (error : Error) (x : Trouble) where
  abbrev o : Options
  o = w.options

  abbrev t : TopologyDescription
  t = w.description

  abbrev u : TopologyDescription
  u = updated t (failed a error)

  abbrev m : ℕ
  m = step.moment

  abbrev pools : List PoolCore
  pools = w.pools.cores.items

  abbrev k : List Item
  k = begun h step

  abbrev beats : List Fact
  beats = heartbeat o h step.act

  abbrev parts : List (List Item → List Fact)
  parts = mark_parts w m u x

  few : length u.servers ≤ 128
  few = subst (λ c. c ≤ 128) (sym (marked-length a error t)) z.described.few

  module _ (c : IsMarking w h step u x) (out : IsOutside step.act) (free : take_numbers (heartbeat o h step.act) ≡ false) where
    known-begun : description_of o k ≡ u
    known-begun = ap (applied (rule_after o h step)) z.described.known ∙ (known-applied (rule_after o h step) t ∙ ap (λ y. unwrap_or y t) c.known)

    -- after its check the pools stand as before
    beaten : PoolsStand (pool_options o) pools (with_facts m beats k)
    beaten = beats-stand o m beats (heartbeat-calm o h step.act) pools k (same-stand (pool_options o) pools h k (outside m step.act Done h out tt) z.pools)

    said-parts : (j : List Item) → in_turn m (said o h m step.act) j ≡ in_turn m ((λ k. beats) ∷ parts) j
    said-parts j = ap (λ fs. beats ++ fs) (c.tells (with_facts m beats j))

    past-said : (past : Option What) → MarkPasses w m u x past → first_past o m k (in_turn m (said o h m step.act) k) ≡ past
    past-said past e =
        let j : List Item = with_facts m beats k in
        ap (first_past o m k) (said-parts k)
        ∙ (past-append o m k beats (in_turn m parts j)
        ∙ (ap (λ y. sooner y (first_past o m j (in_turn m parts j))) (first-free o m k beats free) ∙ e j beaten))

    -- a generation at its limit refuses the step
    pub mark-exhausts : (why : Cause) → why ≡ Exhausted Generation → MarkPasses w m u x (Some Generation) → refusal o h step ≡ Some why
    mark-exhausts why e past =
        refused-said o h m step.act Generation c.passes (subst (λ v. length v.servers ≤ 128) (sym known-begun) few) (past-said (Some Generation) past) ∙ ap Some (sym e)

    -- and where the mark passes no limit, nothing does
    pub mark-spares : MarkPasses w m u x None → refusal o h step ≡ None
    mark-spares past = outside-refusal o h m step.act out None c.passes (subst (λ v. length v.servers ≤ 128) (sym known-begun) few) (past-said None past)

    -- else its answer is that of the mark, after the fact of its check
    pub mark-follows : (y n : Transition) → IsMarked w m u x y → n.reply ≡ y.reply → n.changes ≡ y.changes → n.description ≡ y.description → n.monitors ≡ y.monitors → n.stops ≡ y.stops → n.facts.items ≡ beats ++ y.facts.items
        → Watches w h step n → Follows w n step h
    mark-follows y n r reply changes described monitors stops facts v =
        let replied : n.reply ≡ Changed r.changed = reply ∙ r.reply in
        let known : n.description ≡ Some u = described ∙ r.known in
        let then-u : unwrap_or n.description t ≡ u = ap (λ d. unwrap_or d t) known in
        let none : n.monitors.items ≡ [] = ap (λ ms. ms.items) monitors ∙ r.monitors in
        let opens : opened_by n.changes.items ≡ [] = ap (λ cs. opened_by cs.items) changes ∙ r.told.opens in
        let told : IsTold o m pools (length pools) u (said o h m step.act) y.changes.items (beats ++ y.facts.items) =
        told-as o m pools (length pools) u ((λ k. beats) ∷ parts) (said o h m step.act) y.changes.items (beats ++ y.facts.items) said-parts
        (told-front o m beats (heartbeat-calm o h step.act) pools (length pools) u parts y.changes.items y.facts.items r.told.told) in
        follows-said w h z step l n (subst IsPlain (sym replied) tt) out c.passes (c.known ∙ sym known) (λ fs. c.replies (with_facts m fs k) ∙ (ap Changed (sym r.told.changed_is) ∙ sym replied))
        (subst (λ d. IsTold o m pools (length pools) d (said o h m step.act) n.changes.items n.facts.items) (sym then-u)
        (subst (λ cs. IsTold o m pools (length pools) u (said o h m step.act) cs.items n.facts.items) (sym changes)
        (subst (λ fs. IsTold o m pools (length pools) u (said o h m step.act) y.changes.items fs) (sym facts) told)))
        (subst (λ d. in_order d.servers ≡ true) (sym then-u) (marked-ordered a error t ∙ z.described.ordered)) (subst (λ d. length d.servers ≤ 128) (sym then-u) few)
        (rw (none, opens) refl) v.placed
        (watched-fit w h z step n v (rw (none, opens) refl) (subst (All (λ y. MonitorStands y [])) (sym none) (All-nil (λ y. MonitorStands y []))))
        (watched-counts w h z step n v (stops ∙ (r.goes_on ∙ sym c.stop)))
        (past-said None r.told.spare)

  -- a step that does nothing at the monitors
  pub marks-spare : IsMarking w h step u x → IsTelling step.act → MarkPasses w m u x None → refusal o h step ≡ None
  marks-spare c telling past = mark-spares c (telling-outside step.act telling) (ap take_numbers (telling-quiet o h step.act telling)) past

  pub marks-become : IsMarking w h step u x → IsTelling step.act → (stepped : Decision) → MarksTo w m u x stepped → BecomesOf w step stepped h
  marks-become c telling (Refused why) r = mark-exhausts c (telling-outside step.act telling) (ap take_numbers (telling-quiet o h step.act telling)) why r.0 r.1
  marks-become c telling (Accepted n) r =
      mark-follows c (telling-outside step.act telling) (ap take_numbers (telling-quiet o h step.act telling)) n n r refl refl refl refl refl
      (ap (λ fs. fs ++ n.facts.items) (sym (telling-quiet o h step.act telling))) (telling-watches w h z step telling n r.nothing)
  marks-become c telling (Repeated n s) r = absurd r
