-- A step of one pool that is done in place: its answer, and what each part of the driver then is.
use Rattle.std.proofs.Common.{ℕ, ◌≡◌, ◌≤◌, ◌+◌, ◌^◌, ◌||◌, true, false, List, [], ◌∷◌, ◌++◌, set, length, Some, is_some, refl, sym, ◌∙◌, ap, subst, arith, append-nil}
use Rattle.std.specs.Prelude.{slice_get, unwrap_or, All}
use Rattle.std.proofs.lemmas.List.{length-set}
use Rattle.std.proofs.lemmas.List.Elements.{All-set, All-nil}
use Rattle.mdb_base.specs.declared.address.ServerAddress.{ServerAddress}
use Rattle.mdb_base.specs.declared.options.Options.{Options}
use Rattle.mdb_events.specs.declared.fact.Fact.{Fact}
use Rattle.mdb_monitor.specs.declared.monitor.MonitorCore.{MonitorCore}
use Rattle.mdb_monitor.specs.Standing.{StandsFor as MonitorStands}
use Rattle.mdb_log.specs.declared.log.Entry.{Entry}
use Rattle.mdb_log.specs.declared.step.Step.{Step}
use Rattle.mdb_log.specs.declared.reply.Reply.{Reply}
use Rattle.mdb_log.specs.Connections.{one_if}
use Rattle.mdb_log.specs.History.{Item, did, open_pool, with_facts, with_answer}
use Rattle.mdb_log.specs.Homes.{homes}
use Rattle.mdb_log.specs.LegalLog.{IsFairAnswer}
use Rattle.mdb_log.specs.Beside.{AllFreshGrants}
use Rattle.mdb_log.specs.Opening.{pool_options}
use Rattle.mdb_log.specs.Requests.{names_party}
use Rattle.mdb_log.proofs.Later.{with_answer-accepted}
use Rattle.mdb_pool.specs.Core.{PoolCore}
use Rattle.mdb_pool.specs.Now.{is_spent, last_now}
use Rattle.mdb_pool.specs.Planning.{IsDone}
use Rattle.mdb_pool.specs.Standing.{SameHome}
use Rattle.mdb_topology.specs.declared.topology.TopologyCore.{TopologyCore}
use Rattle.mdb_driver_pools.specs.declared.pool_decision.PoolDecision.TheVariants.{Concerns}
use Rattle.mdb_driver_rules.specs.Answer.{answer}
use Rattle.mdb_driver_rules.specs.Description.{description_of, is_stop, known_after}
use Rattle.mdb_topology.specs.Entering.{Enters}
use Rattle.mdb_driver_rules.specs.Acts.{is_pool_act}
use Rattle.mdb_driver_pools.specs.Living.{lives_at}
use Rattle.mdb_topology.specs.Standing.{MonitorsFit, Describes, Counts, StandsFor}
use Rattle.mdb_driver_pools.specs.Standing.{home, PoolsStand}
use Rattle.mdb_topology.specs.Stepping.{Logs}
use Rattle.mdb_driver_pools.specs.Taking.{Takes, Performs}
use Rattle.mdb_driver_rules.proofs.General.OneElement.{map-set}
use Rattle.mdb_driver_pools.proofs.InMemory.StillLives.{lived-before}
use Rattle.mdb_topology.proofs.OfMonitors.LeftAlone.{known-then, counts-still, monitors-still}
use Rattle.mdb_driver_rules.proofs.Still.{IsStill}
use Rattle.mdb_driver_rules.proofs.NumbersWithinLimits.{any_out, out-open}
use Rattle.mdb_driver_pools.proofs.OnePool.TellsNoTopology.{no-rule, facts-out, pool-still, pool-goes-on}
use Rattle.mdb_topology.proofs.WholeSteps.OneMoreEntry.{named-more}
use Rattle.mdb_topology.proofs.WholeSteps.TopologyStep.{early-later}

home-same : (s t : PoolCore) → SameHome s t → home t ≡ home s
home-same s t e = rw (e.pool, e.address) refl

module _ (w v : TopologyCore) (h : List Item) (z : StandsFor w h) (step : Step) (l : w.pools.last ≤ step.moment) (act : is_pool_act step.act ≡ true)
    (i : ℕ) (s : PoolCore) (at_i : slice_get w.pools.cores.items i ≡ Some s) (alive : is_spent s ≡ false) (performs : Performs w.options w.pools.cores.items step (Concerns i) h)
    (before after : List Entry) (seat : ℕ) (reply : Reply) (e : Enters s i w v before after seat step reply) where
  abbrev o : Options
  o = w.options

  abbrev pools : List PoolCore
  pools = w.pools.cores.items

  abbrev t : PoolCore
  t = e.does.0

  abbrev facts : List Fact
  facts = e.does.1.0

  done : IsDone s t step (record { reply = reply; facts = facts })
  done = e.does.1.1

  entered : after ≡ before ++ record { seat = seat; step = step; reply = reply; facts = facts } ∷ []
  entered = e.does.1.2

  cores-are : v.pools.cores.items ≡ set pools i t
  cores-are = e.does.2

  abbrev k : List Item
  k = with_answer step reply facts h

  T : Takes o pools i t [] facts step reply h
  T = performs.1 s t (record { reply = reply; facts = facts }) at_i done

  told-is : facts ≡ T.facts
  told-is = T.facts_are

  answer-is : answer o h step ≡ record { reply = reply; facts = facts }
  answer-is = T.answer_is ∙ ap (λ fs. record { reply = reply; facts = fs }) (sym told-is)

  pub pool-reply : reply ≡ (answer o h step).reply
  pool-reply = ap (λ a. a.reply) (sym answer-is)

  k-is : k ≡ with_facts step.moment facts (did step reply ∷ h)
  k-is = with_answer-accepted step reply facts h T.accepted

  stands-pools : PoolsStand (pool_options o) (set pools i t) k
  stands-pools = subst (λ fs. PoolsStand (pool_options o) (set pools i t) (with_answer step reply fs h)) (sym told-is) T.stands

  homes-are : homes k ≡ homes h ++ []
  homes-are = stands-pools.fit.homes_are ∙ (map-set home pools i s t at_i (home-same s t done.home) ∙ (sym z.pools.fit.homes_are ∙ sym (append-nil (homes h))))

  answer-out : any_out (answer o h step).facts ≡ false
  answer-out = rw performs.0 (facts-out o h step act)

  out : any_out facts ≡ false
  out = ap (λ a. any_out a.facts) (sym answer-is) ∙ answer-out

  open-same : (a : ServerAddress) → open_pool k a ≡ open_pool h a
  open-same a = ap (λ x. open_pool x a) k-is ∙ out-open step.moment a facts (did step reply ∷ h) out

  still : IsStill step.act
  still = pool-still step.act act

  abbrev ms : List MonitorCore
  ms = w.monitors.items

  monitors-fit : MonitorsFit o ms k
  monitors-fit =
      subst (λ xs. MonitorsFit o xs k) (append-nil ms)
      (subst (MonitorsFit o (ms ++ [])) (sym k-is)
      (monitors-still o h step.moment step.act still reply facts ms [] [] z.monitors (ap homes (sym k-is) ∙ homes-are) refl (All-nil (λ x. MonitorStands x []))))

  describes : Describes o w.description k
  describes = record {
    known =
        ap (description_of o) k-is
        ∙ (known-then o h step.moment step.act reply facts w.description z.described.known
        ∙ ap (λ r. unwrap_or (known_after r w.description) w.description) (no-rule o h step act));
    ordered = z.described.ordered;
    few = z.described.few;
    open_for = λ a. ap is_some (open-same a) ∙ z.described.open_for a;
  }

  none-published : w.published + one_if false ≡ w.published
  none-published = omega arith

  counted : Counts o step.moment w.published w.fresh w.stopped w.watchers k
  counted =
      subst (λ n. Counts o step.moment n w.fresh w.stopped w.watchers k) none-published
      (subst (Counts o step.moment (w.published + one_if false) w.fresh w.stopped w.watchers) (sym k-is)
      (subst (λ b. Counts o step.moment (w.published + one_if false) w.fresh (b || w.stopped) w.watchers (with_facts step.moment facts (did step reply ∷ h))) (pool-goes-on step.act act)
      (subst (λ r. Counts o step.moment (w.published + one_if (is_some r)) w.fresh (is_stop step.act || w.stopped) w.watchers (with_facts step.moment facts (did step reply ∷ h))) (no-rule o h step act)
      (counts-still o h step.moment step.act still reply facts w.pools.last w.published w.fresh w.stopped w.watchers z.counts))))

  counts-then : Counts v.options v.pools.last v.published v.fresh v.stopped v.watchers k
  counts-then =
      subst (λ q. Counts q v.pools.last v.published v.fresh v.stopped v.watchers k) (sym e.options)
      (subst (λ m. Counts o m v.published v.fresh v.stopped v.watchers k) (sym e.last)
      (subst (λ n. Counts o step.moment n v.fresh v.stopped v.watchers k) (sym e.published)
      (subst (λ n. Counts o step.moment w.published n v.stopped v.watchers k) (sym e.fresh)
      (subst (λ b. Counts o step.moment w.published w.fresh b v.watchers k) (sym e.stopped)
      (subst (λ ws. Counts o step.moment w.published w.fresh w.stopped ws k) (sym e.watchers) counted)))))

  early-then : All (λ (x : PoolCore). last_now x ≤ v.pools.last) v.pools.cores.items
  early-then =
      subst (λ (n : ℕ). All (λ (x : PoolCore). last_now x ≤ n) v.pools.cores.items) (sym e.last)
      (subst (All (λ (x : PoolCore). last_now x ≤ step.moment)) (sym cores-are)
      (All-set (λ x. last_now x ≤ step.moment) pools i t (let d : last_now t ≡ step.moment = done.last in omega (arith, d)) (early-later pools w.pools.last step.moment l z.early)))

  stands : StandsFor v k
  stands = record {
    pools = subst (λ q. PoolsStand (pool_options q) v.pools.cores.items k) (sym e.options) (subst (λ xs. PoolsStand (pool_options o) xs k) (sym cores-are) stands-pools);
    monitors = subst (λ q. MonitorsFit q v.monitors.items k) (sym e.options) (subst (λ xs. MonitorsFit o xs k) (sym e.monitors) monitors-fit);
    described = subst (λ q. Describes q v.description k) (sym e.options) (subst (λ d. Describes o d k) (sym e.description) describes);
    counts = counts-then;
    known = λ r. e.known r ∙ (ap (λ b. names_party step.act r || b) (z.known r) ∙ sym (named-more reply step facts h T.accepted r));
    watched = λ p lives. e.kept p lives ∙ z.watched p (lived-before pools i p s t at_i alive (subst (λ (xs : List PoolCore). lives_at xs p ≡ true) cores-are lives));
    numbers = subst (λ (xs : List PoolCore). length xs ≤ 2 ^ 32) (sym cores-are) (subst (λ x. x ≤ 2 ^ 32) (sym (length-set pools i t)) z.numbers);
    early = early-then;
  }

  pub pool-logs : Logs w v before after seat step h
  pool-logs = record {
    entry = entered ∙ ap (λ a. before ++ record { seat = seat; step = step; reply = a.reply; facts = a.facts } ∷ []) (sym answer-is);
    stands = subst (λ a. StandsFor v (with_answer step a.reply a.facts h)) (sym answer-is) stands;
    fair = subst (λ a. IsFairAnswer h step a.reply a.facts) (sym answer-is) (subst (IsFairAnswer h step reply) (sym told-is) T.fair);
    fresh = subst (λ a. AllFreshGrants (pool_options o) step.moment (did step a.reply ∷ h) a.facts) (sym answer-is) (subst (AllFreshGrants (pool_options o) step.moment (did step reply ∷ h)) (sym told-is) T.fresh);
  }
