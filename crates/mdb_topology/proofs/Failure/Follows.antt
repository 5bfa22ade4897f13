-- An accepted failure: its answer, and what each part of the driver then is.
use Rattle.std.proofs.Common.{ℕ, ◌≡◌, ◌≤◌, ◌+◌, ◌^◌, ◌&&◌, ◌||◌, true, false, not, List, [], ◌∷◌, ◌++◌, map, set, length, Some, None, is_some, refl, sym, ◌∙◌, ap, subst, arith, append-nil}
use Rattle.std.specs.Prelude.{slice_get, unwrap_or, All}
use Rattle.std.proofs.lemmas.List.{length-set}
use Rattle.std.proofs.lemmas.List.Elements.{All-set, All-nil}
use Rattle.mdb_base.specs.Equality.{same_address}
use Rattle.mdb_base.specs.declared.address.ServerAddress.{ServerAddress}
use Rattle.mdb_base.specs.declared.error.Error.{Error}
use Rattle.mdb_base.specs.declared.options.Options.{Options}
use Rattle.mdb_describe.specs.declared.topology.TopologyDescription.{TopologyDescription}
use Rattle.mdb_describe.specs.Servers.{in_order, is_known}
use Rattle.mdb_events.specs.declared.fact.Fact.{Fact}
use Rattle.mdb_monitor.specs.Standing.{StandsFor as MonitorStands}
use Rattle.mdb_log.specs.declared.step.Step.{Step}
use Rattle.mdb_log.specs.declared.step.FailedAt.{FailedAt}
use Rattle.mdb_log.specs.declared.reply.Reply.TheVariants.{Done}
use Rattle.mdb_log.specs.Connections.{one_if}
use Rattle.mdb_log.specs.History.{Item, did, failed, service_in, of_pool, open_pool, with_facts, with_answer}
use Rattle.mdb_log.specs.Homes.{homes}
use Rattle.mdb_log.specs.Opening.{pool_options}
use Rattle.mdb_log.specs.Beside.{AllFreshGrants}
use Rattle.mdb_log.specs.LegalLog.{IsFairAnswer}
use Rattle.mdb_log.specs.Own.{IsAccepted}
use Rattle.mdb_pool.specs.Core.{PoolCore}
use Rattle.mdb_pool.specs.Now.{is_closed_now, is_spent, last_now}
use Rattle.mdb_pool.specs.Planning.{Plan, Plans, IsPlanOf}
use Rattle.mdb_pool.specs.Standing.{SameHome}
use Rattle.mdb_driver_pools.specs.declared.pool_change.PoolChange.TheVariants.{Alter}
use Rattle.mdb_topology.specs.declared.topology.TopologyCore.{TopologyCore}
use Rattle.mdb_topology.specs.declared.transition.Transition.{Transition}
use Rattle.mdb_topology.specs.declared.monitors.monitoring.Monitoring.TheVariants.{Same}
use Rattle.mdb_driver_rules.specs.Answer.{answered, answer, pool_reply}
use Rattle.mdb_driver_rules.specs.Description.{rule_after, known_after}
use Rattle.mdb_driver_rules.specs.Facts.{step_facts}
use Rattle.mdb_driver_rules.specs.Homes.{home_of, begun}
use Rattle.mdb_driver_pools.specs.Planned.{LeadsAll}
use Rattle.mdb_driver_rules.specs.Refusal.{refusal}
use Rattle.mdb_topology.specs.Standing.{MonitorsFit, Describes, Counts, StandsFor}
use Rattle.mdb_driver_pools.specs.Standing.{home, is_open_at, PoolsStand}
use Rattle.mdb_topology.specs.Stepping.{Follows}
use Rattle.mdb_driver_pools.proofs.Failure.PoolsStand.{Fails, failing}
use Rattle.mdb_topology.proofs.Failure.DriverStands.{failed-stand, failed-fair, failed-fresh}
use Rattle.mdb_topology.proofs.WholeSteps.TopologyStep.{early-later, known-some}
use Rattle.mdb_topology.proofs.OfMonitors.FactsOfCheck.{AreCalm}
use Rattle.mdb_driver_rules.proofs.General.OneElement.{map-set, position-set}
use Rattle.mdb_driver_rules.proofs.General.OnePosition.{some-same}
use Rattle.mdb_topology.proofs.OfMonitors.LeftAlone.{known-then, counts-still, monitors-still}

module _ (w : TopologyCore) (h : List Item) (z : StandsFor w h) (i : ℕ) (s : PoolCore) (at_i : slice_get w.pools.cores.items i ≡ Some s) (lives : is_spent s ≡ false) (m c : ℕ) (at : FailedAt) (error : Error) (l : w.pools.last ≤ m)
    (told clears asks fails : List Fact) (calm_told : AreCalm told) (calm_asks : AreCalm asks)
    (plan : Plan) (made : IsPlanOf plan s)
    (does : (u : PoolCore) → Plans plan s u → Fails s u m (clears ++ fails) (failed c (service_in at) ∷ of_pool s.pool h))
    (last_is : (u : PoolCore) → Plans plan s u → last_now u ≡ m) (stays : (u : PoolCore) → Plans plan s u → is_closed_now u ≡ is_closed_now s)
    (n : Transition) (reply : n.reply ≡ Done) (facts : n.facts.items ≡ told ++ (clears ++ (asks ++ fails))) (changes : n.changes.items ≡ Alter i plan ∷ []) (none : n.monitors.items ≡ []) (nothing : n.monitoring ≡ Same) (goes_on : n.stops ≡ false) where
  abbrev o : Options
  o = w.options

  abbrev step : Step
  step = failing m s.pool c at error

  abbrev pools : List PoolCore
  pools = w.pools.cores.items

  abbrev F : List Fact
  F = told ++ (clears ++ (asks ++ fails))

  abbrev k : List Item
  k = with_facts m F (did step Done ∷ h)

  abbrev v : TopologyDescription
  v = unwrap_or n.description w.description

  abbrev then : List Item
  then = with_answer step n.reply n.facts.items h

  then-is : k ≡ then
  then-is = ap (λ r. with_answer step r F h) (sym reply) ∙ ap (λ fs. with_answer step n.reply fs h) (sym facts)

  -- the one pool to which the change leads
  led : (later : List PoolCore) → LeadsAll n.changes.items pools later → (u : PoolCore) × Plans plan s u × (later ≡ set pools i u)
  led later leads =
      let all : LeadsAll (Alter i plan ∷ []) pools later = subst (λ cs. LeadsAll cs pools later) changes leads in
      let first = all.1 in
      let same : first.0 ≡ s = some-same first.0 s (slice_get pools i) first.2 at_i in
      (first.1, subst (λ x. Plans plan x first.1) same first.3, all.2 ∙ first.4)

  module _ (passes : refusal o h step ≡ None) (facts_are : step_facts o h step ≡ F) (place : home_of h step.act ≡ Some (home s))
      (known : known_after (rule_after o h step) w.description ≡ n.description) (ordered : in_order v.servers ≡ true) (few : length v.servers ≤ 128)
      (same_known : (b : ServerAddress) → is_known b v.servers ≡ is_known b w.description.servers) where
    answered-so : answer o h step ≡ record { reply = Done; facts = F }
    answered-so =
        ap (λ x. answered o h step x (step_facts o h step)) passes
        ∙ (ap (answered o h step None) facts_are
        ∙ ap (λ x. record { reply = pool_reply h (with_facts m F (begun h step)) step.act x; facts = F }) place)

    module _ (u : PoolCore) (plans : Plans plan s u) where
      stands : PoolsStand (pool_options o) (set pools i u) k
      stands = failed-stand o pools h z.pools i s u at_i m c at error told clears asks fails calm_told calm_asks (does u plans)

      same-homes : map home (set pools i u) ≡ map home pools
      same-homes = map-set home pools i s u at_i (home-same (does u plans).same)
        where
          home-same : SameHome s u → home u ≡ home s
          home-same e = rw (e.pool, e.address) refl

      homes-are : homes k ≡ homes h ++ []
      homes-are = stands.fit.homes_are ∙ (same-homes ∙ (sym z.pools.fit.homes_are ∙ sym (append-nil (homes h))))

      open-same : (b : ServerAddress) → open_pool k b ≡ open_pool h b
      open-same b =
          let q : is_open_at b u ≡ is_open_at b s = ap (λ x. not x && same_address u.address b) (stays u plans) ∙ ap (λ x. not (is_closed_now s) && same_address x b) (does u plans).same.address in
          stands.fit.open_are b ∙ (position-set (is_open_at b) pools i s u at_i q ∙ sym (z.pools.fit.open_are b))

      monitors-fit : MonitorsFit o (w.monitors.items ++ n.monitors.items) then
      monitors-fit =
          subst (λ ns. MonitorsFit o (w.monitors.items ++ ns) then) (sym none)
          (subst (MonitorsFit o (w.monitors.items ++ [])) then-is
          (monitors-still o h m step.act tt Done F w.monitors.items [] [] z.monitors homes-are refl (All-nil (λ x. MonitorStands x []))))

      describes : Describes o v then
      describes = subst (Describes o v) then-is (record {
        known = known-then o h m step.act Done F w.description z.described.known ∙ ap (λ x. unwrap_or x w.description) known;
        ordered = ordered;
        few = few;
        open_for = λ b. ap is_some (open-same b) ∙ (z.described.open_for b ∙ sym (same_known b));
      })

      counted : Counts o m (w.published + one_if (is_some n.description)) w.fresh (n.stops || w.stopped) w.watchers then
      counted =
          subst (λ b. Counts o m (w.published + one_if (is_some n.description)) w.fresh (b || w.stopped) w.watchers then) (sym goes_on)
          (subst (Counts o m (w.published + one_if (is_some n.description)) w.fresh w.stopped w.watchers) then-is
          (subst (λ b. Counts o m (w.published + one_if b) w.fresh w.stopped w.watchers k) (sym (known-some (rule_after o h step) w.description) ∙ ap is_some known)
          (counts-still o h m step.act tt Done F w.pools.last w.published w.fresh w.stopped w.watchers z.counts)))

      follows-one : Follows w n step h
      follows-one = record {
        answer_is = answered-so ∙ (ap (λ fs. record { reply = Done; facts = fs }) (sym facts) ∙ ap (λ r. record { reply = r; facts = n.facts.items }) (sym reply));
        accepted = subst IsAccepted (sym reply) tt;
        fair = subst (λ r. IsFairAnswer h step r n.facts.items) (sym reply) (subst (IsFairAnswer h step Done) (sym facts) (failed-fair o pools h z.pools i s u at_i m c at error told clears asks fails calm_told calm_asks (does u plans)));
        fresh = subst (λ r. AllFreshGrants (pool_options o) m (did step r ∷ h) n.facts.items) (sym reply) (subst (AllFreshGrants (pool_options o) m (did step Done ∷ h)) (sym facts) (failed-fresh o pools h z.pools i s u at_i m c at error told clears asks fails calm_told calm_asks (does u plans)));
        leads = subst (λ cs. (later : List PoolCore) × LeadsAll cs pools later) (sym changes) (set pools i u, (set pools i u, (s, u, at_i, plans, refl, lives), refl));
        pools = λ later leads. let r = led later leads in subst (λ xs. PoolsStand (pool_options o) xs then) (sym r.2) (subst (PoolsStand (pool_options o) (set pools i r.0)) then-is (failed-stand o pools h z.pools i s r.0 at_i m c at error told clears asks fails calm_told calm_asks (does r.0 r.1)));
        numbers = λ later leads. let r = led later leads in subst (λ xs. length xs ≤ 2 ^ 32) (sym r.2) (subst (λ x. x ≤ 2 ^ 32) (sym (length-set pools i r.0)) z.numbers);
        early = λ later leads. let r = led later leads in let e : last_now r.0 ≡ m = last_is r.0 r.1 in subst (All (λ x. last_now x ≤ m)) (sym r.2) (All-set (λ x. last_now x ≤ m) pools i r.0 (omega (arith, e)) (early-later pools w.pools.last m l z.early));
        each_opened = rw (none, changes) refl;
        placed = rw nothing tt;
        monitors = rw nothing monitors-fit;
        described = describes;
        counts = rw nothing counted;
      }

    pub follows-failed : Follows w n step h
    follows-failed = follows-one made.0 made.1
