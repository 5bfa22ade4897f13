-- Accepted steps that change no pool.
use Rattle.std.proofs.Common.{ℕ, ◌≡◌, ◌≤◌, ◌+◌, ◌^◌, ◌||◌, true, false, List, [], ◌∷◌, ◌++◌, length, None, is_some, refl, sym, ◌∙◌, ap, subst, arith, append-nil}
use Rattle.std.specs.Prelude.{unwrap_or, All}
use Rattle.std.proofs.lemmas.List.Elements.{All-nil}
use Rattle.mdb_base.specs.declared.options.Options.{Options}
use Rattle.mdb_describe.specs.declared.topology.TopologyDescription.{TopologyDescription}
use Rattle.mdb_describe.specs.Servers.{in_order, is_known}
use Rattle.mdb_monitor.specs.Standing.{StandsFor as MonitorStands}
use Rattle.mdb_log.specs.declared.step.Step.{Step}
use Rattle.mdb_log.specs.declared.reply.Reply.TheVariants.{NoJob}
use Rattle.mdb_log.specs.Connections.{one_if}
use Rattle.mdb_log.specs.History.{Item, did, with_answer}
use Rattle.mdb_log.specs.Homes.{homes}
use Rattle.mdb_log.specs.Opening.{pool_options}
use Rattle.mdb_log.specs.Own.{IsAccepted}
use Rattle.mdb_pool.specs.Core.{PoolCore}
use Rattle.mdb_pool.specs.Now.{last_now}
use Rattle.mdb_topology.specs.declared.topology.TopologyCore.{TopologyCore}
use Rattle.mdb_topology.specs.declared.transition.Transition.{Transition}
use Rattle.mdb_topology.specs.declared.monitors.monitoring.Monitoring.TheVariants.{Same}
use Rattle.mdb_driver_rules.specs.Description.{is_stop, known_after}
use Rattle.mdb_driver_rules.specs.Acts.{is_pool_act}
use Rattle.mdb_driver_pools.specs.Planned.{LeadsAll}
use Rattle.mdb_topology.specs.Standing.{MonitorsFit, Describes, Counts, StandsFor}
use Rattle.mdb_driver_pools.specs.Standing.{at_address, PoolsStand}
use Rattle.mdb_topology.specs.Stepping.{Follows}
use Rattle.mdb_driver_pools.specs.Taking.{Rests}
use Rattle.mdb_topology.specs.Marking.{HasParts}
use Rattle.mdb_topology.specs.Changing.{IsTelling, IsChanging, IsTold}
use Rattle.mdb_topology.proofs.Publications.OfDifference.{open-known}
use Rattle.mdb_topology.proofs.WholeSteps.TopologyStep.{early-later, changing-parts, follows-parts}
use Rattle.mdb_driver_pools.proofs.Publications.PlannedPart.{planned-still}
use Rattle.mdb_driver_rules.proofs.SameHistories.{IsPlain}
use Rattle.mdb_topology.proofs.OfMonitors.LeftAlone.{known-then, counts-still, monitors-still}
use Rattle.mdb_driver_rules.proofs.Still.{IsStill}
use Rattle.mdb_driver_pools.proofs.OnePool.TellsNoTopology.{no-rule, pool-still, pool-goes-on}
use Rattle.mdb_driver_pools.proofs.PartsInTurn.{tells-none}

-- a step that tells nothing, and leaves the servers as they are
pub told-nothing : (w : TopologyCore) (h : List Item) → StandsFor w h → (m : ℕ) (u : TopologyDescription) → u.servers ≡ w.description.servers
    → IsTold w.options m w.pools.cores.items (length w.pools.cores.items) u [] [] []
told-nothing w h z m u same = record {
  touched = λ a. false;
  planned = planned-still w.options m w.pools.cores.items (length w.pools.cores.items) (λ a. false) [] [] [] (λ now can. tells-none w.options m now []);
  few = omega (arith, z.numbers);
  open_for = λ later k can leads y a. ap (λ xs. is_some (at_address xs a)) leads ∙ (open-known w (h, z) a ∙ ap (is_known a) (sym same));
}

module _ (w : TopologyCore) (h : List Item) (z : StandsFor w h) (step : Step) (l : w.pools.last ≤ step.moment) (n : Transition) (changes : n.changes.items ≡ []) (facts : n.facts.items ≡ []) (none : n.monitors.items ≡ []) (nothing : n.monitoring ≡ Same) where
  abbrev o : Options
  o = w.options

  abbrev pools : List PoolCore
  pools = w.pools.cores.items

  -- a step of the topology that tells nothing
  pub follows-silent : IsPlain n.reply → (unwrap_or n.description w.description).servers ≡ w.description.servers → IsTelling step.act → HasParts o h w.description n.description step n.reply n.stops [] → Follows w n step h
  follows-silent plain same telling c =
      follows-parts w h z step l n plain [] telling c told
      (subst (λ xs. in_order xs ≡ true) (sym same) z.described.ordered) (subst (λ xs. length xs ≤ 128) (sym same) z.described.few) (rw (none, changes) refl)
      (subst (All (λ x. MonitorStands x [])) (sym none) (All-nil (λ x. MonitorStands x []))) nothing refl
    where
      told : IsTold o step.moment pools (length pools) (unwrap_or n.description w.description) [] n.changes.items n.facts.items
      told = rw (changes, facts) (told-nothing w h z step.moment (unwrap_or n.description w.description) same)

  pub follows-quiet : IsPlain n.reply → (unwrap_or n.description w.description).servers ≡ w.description.servers → IsChanging o h w.description n.description step n.reply n.stops [] → Follows w n step h
  follows-quiet plain same c = follows-silent plain same c.act (changing-parts c)

  -- an act of a pool that concerns none
  module _ (act : is_pool_act step.act ≡ true) (reply : n.reply ≡ NoJob) (known : n.description ≡ None) (goes_on : n.stops ≡ false) (r : Rests o pools step h) where
    abbrev k : List Item
    k = did step NoJob ∷ h

    k-is : with_answer step n.reply n.facts.items h ≡ k
    k-is = rw (reply, facts) refl

    still : IsStill step.act
    still = pool-still step.act act

    homes-are : homes k ≡ homes h ++ []
    homes-are = sym (append-nil (homes h))

    monitors-fit : MonitorsFit o (w.monitors.items ++ n.monitors.items) k
    monitors-fit = subst (λ ns. MonitorsFit o (w.monitors.items ++ ns) k) (sym none) (monitors-still o h step.moment step.act still NoJob [] w.monitors.items [] [] z.monitors homes-are refl (All-nil (λ x. MonitorStands x [])))

    describes : Describes o (unwrap_or n.description w.description) k
    describes = subst (λ x. Describes o (unwrap_or x w.description) k) (sym known) (record {
      known = known-then o h step.moment step.act NoJob [] w.description z.described.known ∙ ap (λ x. unwrap_or (known_after x w.description) w.description) (no-rule o h step act);
      ordered = z.described.ordered;
      few = z.described.few;
      open_for = z.described.open_for;
    })

    counted : Counts o step.moment (w.published + one_if (is_some n.description)) w.fresh (n.stops || w.stopped) w.watchers k
    counted =
        subst (λ b. Counts o step.moment (w.published + one_if (is_some n.description)) w.fresh (b || w.stopped) w.watchers k) (sym goes_on)
        (subst (λ x. Counts o step.moment (w.published + one_if (is_some x)) w.fresh w.stopped w.watchers k) (sym known)
        (subst (λ b. Counts o step.moment (w.published + one_if false) w.fresh (b || w.stopped) w.watchers k) (pool-goes-on step.act act)
        (subst (λ x. Counts o step.moment (w.published + one_if (is_some x)) w.fresh (is_stop step.act || w.stopped) w.watchers k) (no-rule o h step act)
        (counts-still o h step.moment step.act still NoJob [] w.pools.last w.published w.fresh w.stopped w.watchers z.counts))))

    pub follows-idle : Follows w n step h
    follows-idle = record {
      answer_is = rw (reply, facts) r.answer_is;
      accepted = subst IsAccepted (sym reply) tt;
      fair = rw (reply, facts) r.fair;
      fresh = rw facts tt;
      leads = rw changes (pools, refl);
      pools = λ later leads. let e : later ≡ pools = subst (λ cs. LeadsAll cs pools later) changes leads in subst (λ xs. PoolsStand (pool_options o) xs (with_answer step n.reply n.facts.items h)) (sym e) (rw (reply, facts) r.stands);
      numbers = λ later leads. let e : later ≡ pools = subst (λ cs. LeadsAll cs pools later) changes leads in subst (λ xs. length xs ≤ 2 ^ 32) (sym e) z.numbers;
      early = λ later leads. let e : later ≡ pools = subst (λ cs. LeadsAll cs pools later) changes leads in subst (All (λ s. last_now s ≤ step.moment)) (sym e) (early-later pools w.pools.last step.moment l z.early);
      each_opened = rw (none, changes) refl;
      placed = rw nothing tt;
      monitors = rw nothing (subst (MonitorsFit o (w.monitors.items ++ n.monitors.items)) (sym k-is) monitors-fit);
      described = subst (Describes o (unwrap_or n.description w.description)) (sym k-is) describes;
      counts = rw nothing (subst (Counts o step.moment (w.published + one_if (is_some n.description)) w.fresh (n.stops || w.stopped) w.watchers) (sym k-is) counted);
    }
