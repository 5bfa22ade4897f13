-- A check that failed.
use Rattle.std.proofs.Common.{ℕ, ◌≡◌, ◌≤◌, ◌||◌, Bool, true, false, List, [], ◌∷◌, ◌++◌, length, Some, None, is_some, refl, sym, ◌∙◌, ap, subst, append-nil}
use Rattle.std.specs.Prelude.{slice_get}
use Rattle.mdb_base.specs.declared.address.ServerAddress.{ServerAddress}
use Rattle.mdb_base.specs.declared.error.Error.{Error}
use Rattle.mdb_base.specs.declared.options.Options.{Options}
use Rattle.mdb_describe.specs.declared.topology.TopologyDescription.{TopologyDescription}
use Rattle.mdb_describe.specs.Descriptions.{failed}
use Rattle.mdb_describe.specs.Update.{updated}
use Rattle.mdb_events.specs.declared.fact.Fact.{Fact}
use Rattle.mdb_events.specs.declared.fact.Fact.TheVariants.{Sdam}
use Rattle.mdb_monitor.specs.declared.check.Finish.{Finish}
use Rattle.mdb_monitor.specs.declared.monitor.MonitorCore.{MonitorCore}
use Rattle.mdb_log.specs.declared.checked.BeatenResult.{BeatenResult}
use Rattle.mdb_log.specs.declared.checked.BeatenResult.TheVariants.{Ok, Err, Cancelled}
use Rattle.mdb_log.specs.declared.reply.Refused.TheVariants.{Exhausted}
use Rattle.mdb_log.specs.declared.reply.Reply.TheVariants.{Changed}
use Rattle.mdb_log.specs.declared.reply.What.TheVariants.{Generation}
use Rattle.mdb_log.specs.declared.step.Act.{Act}
use Rattle.mdb_log.specs.declared.step.Act.TheVariants.{Beaten}
use Rattle.mdb_log.specs.declared.step.Step.{Step}
use Rattle.mdb_log.specs.History.{Item, is_number, with_facts}
use Rattle.mdb_driver_pools.specs.declared.trouble.Asked.TheVariants.{Nothing}
use Rattle.mdb_topology.specs.declared.monitors.monitoring.Monitoring.TheVariants.{Checked}
use Rattle.mdb_topology.specs.declared.transition.Transition.{Transition}
use Rattle.mdb_topology.specs.declared.topology.TopologyCore.{TopologyCore}
use Rattle.mdb_driver_rules.specs.Answer.{reply_to}
use Rattle.mdb_topology.specs.Changing.{IsUnchanged, IsWithCheck, IsUntroubled}
use Rattle.mdb_topology.specs.Checking.{Ends}
use Rattle.mdb_driver_rules.specs.Description.{applied, rule_after, description_of, change_by}
use Rattle.mdb_driver_rules.specs.Errors.{Trouble}
use Rattle.mdb_driver_rules.specs.Facts.{trouble, clear_by, is_clear}
use Rattle.mdb_driver_rules.specs.Homes.{is_here, begun}
use Rattle.mdb_topology.specs.Marking.{spoken, IsOfPool, IsMarking, MarkPasses, FailsTo, FailsAs}
use Rattle.mdb_driver_rules.specs.Monitors.{check_result, runs, heartbeat}
use Rattle.mdb_driver_rules.specs.Refusal.{first_past, first_refusal, refusal}
use Rattle.mdb_topology.specs.Standing.{StandsFor}
use Rattle.mdb_driver_pools.specs.Standing.{at_address, is_here_among}
use Rattle.mdb_topology.specs.Stepping.{Follows}
use Rattle.mdb_driver_rules.specs.Turns.{in_turn}
use Rattle.mdb_topology.proofs.OfMonitors.StepAtMonitor.{number-is}
use Rattle.mdb_topology.proofs.OfMonitors.CheckEnds.{passes, beats-are, free, watches}
use Rattle.mdb_topology.proofs.Marks.WhichSteps.{all_parts, met, met-of-pool, marking-by}
use Rattle.mdb_driver_rules.proofs.NumbersWithinLimits.{take_numbers, first-free}
use Rattle.mdb_topology.proofs.Marks.BecomesOfStep.{mark-exhausts, mark-follows, mark-spares}
use Rattle.mdb_topology.proofs.WholeSteps.RefusedOfNoPool.{outside-refusal}
use Rattle.mdb_driver_rules.proofs.SameHistories.{IsPlain}
use Rattle.mdb_topology.proofs.Publications.WhichSteps.{rule-stopped, rule-unstopped}
use Rattle.mdb_topology.proofs.OfMonitors.ChangesNoPool.{Watches, follows-watch}

-- the pool of the address
pub here-at : (w : TopologyCore) (a : ServerAddress) (p i : ℕ) → i ≡ p → is_here_among w.pools.cores.items a p ≡ true → at_address w.pools.cores.items a ≡ Some i
here-at w a p i e there = number-is (at_address w.pools.cores.items a) p there ∙ ap Some (sym e)

-- a check that did not fail
pub untroubled-else : (came : BeatenResult) → ((e : Error) → came ≡ Err e → ⊥) → IsUntroubled came
untroubled-else (Ok r more) differs = tt
untroubled-else (Err e) differs = differs e refl
untroubled-else (Cancelled e) differs = tt

module _ (w : TopologyCore) (h : List Item) (z : StandsFor w h) (m : ℕ) (l : w.pools.last ≤ m) (a : ServerAddress) (p d : ℕ) (error : Error) (there : is_here_among w.pools.cores.items a p ≡ true) (running : runs h p ≡ true)
    (mode : w.options.load_balanced ≡ false) where
  abbrev o : Options
  o = w.options

  abbrev t : TopologyDescription
  t = w.description

  abbrev u : TopologyDescription
  u = updated t (failed a error)

  abbrev act : Act
  act = Beaten a p d (Err error)

  abbrev step : Step
  step = record { moment = m; act = act }

  abbrev k : List Item
  k = begun h step

  abbrev beats : List Fact
  beats = heartbeat o h act

  abbrev pub its_trouble : Trouble
  its_trouble = met w h z m l a p error

  begun-here : is_here k a p ≡ true
  begun-here = ap (λ v. is_number v p) (z.pools.fit.open_are a) ∙ there

  troubled : trouble o h step ≡ Some its_trouble
  troubled = rw begun-here refl

  passes-here : first_refusal o h step ≡ None
  passes-here = passes w h z m l a p d there (Err error) running mode

  free-here : take_numbers beats ≡ false
  free-here = free w h z m l a p d there (Err error) running

  pub failure-of-pool : IsOfPool o its_trouble p a error true Nothing
  failure-of-pool = met-of-pool w h z m l a p error mode

  failure-marking : w.stopped ≡ false → IsMarking w h step u its_trouble
  failure-marking g =
      marking-by w h z m l act a error its_trouble p true Nothing failure-of-pool passes-here (rule-unstopped w h z m l act g ∙ rw begun-here refl) troubled (λ k. refl) refl

  -- once the driver was stopped it tells nothing but its event
  module _ (stop : w.stopped ≡ true) where
    ruled : rule_after o h step ≡ None
    ruled = rule-stopped w h z m l act stop

    silent : (k : List Item) → in_turn m (spoken o h step) k ≡ []
    silent k =
        ap (λ r. in_turn m (all_parts o m r (description_of o h) (trouble o h step) (is_some (change_by r (description_of o h)))) k) ruled
        ∙ (ap (λ v. in_turn m (all_parts o m None (description_of o h) v false) k) troubled ∙ rw mode refl)

    replies : (k : List Item) → reply_to o h step k act ≡ Changed false
    replies k =
        ap (λ r. Changed (is_some (change_by r (description_of o h)) || is_clear (clear_by o (is_some (change_by r (description_of o h))) (trouble o h step)))) ruled
        ∙ (ap (λ v. Changed (is_clear (clear_by o false v))) troubled ∙ rw mode refl)

    spared-late : refusal o h step ≡ None
    spared-late =
        let known : description_of o k ≡ t = ap (λ r. applied r (description_of o h)) ruled ∙ z.described.known in
        outside-refusal o h m act tt None passes-here (subst (λ v. length v.servers ≤ 128) (sym known) z.described.few)
        (ap (λ fs. first_past o m k (beats ++ fs)) (silent (with_facts m beats k)) ∙ (ap (first_past o m k) (append-nil beats) ∙ first-free o m k beats free-here))

  -- its mark would pass the limit of the generation
  pub failure-spent : w.stopped ≡ false → MarkPasses w m u its_trouble (Some Generation) → refusal o h step ≡ Some (Exhausted Generation)
  failure-spent g past = mark-exhausts w h z step l a error its_trouble (failure-marking g) tt free-here (Exhausted Generation) refl past

  -- or passes none
  pub failure-spared : (w.stopped ≡ false → MarkPasses w m u its_trouble None) → refusal o h step ≡ None
  failure-spared past = on w.stopped refl
    where
      on : (b : Bool) → w.stopped ≡ b → refusal o h step ≡ None
      on true g = spared-late g
      on false g = mark-spares w h z step l a error its_trouble (failure-marking g) tt free-here (past g)

  module _ (x y : MonitorCore) (f : Finish) (at_p : slice_get w.monitors.items p ≡ Some x) (ends : Ends x y d (check_result a (Err error)) f) where
    beats-here : beats ≡ Sdam f.event ∷ []
    beats-here = beats-are w h z m l a p d there (Err error) running mode x y f at_p ends

    watches-here : (n : Transition) → n.monitoring ≡ Checked p y w.fresh → Watches w h step n
    watches-here = watches w h z m l a p d there (Err error) running mode x y f at_p ends

    follows-late : w.stopped ≡ true → (y0 n : Transition) → IsUnchanged y0 → IsWithCheck y0 n (Checked p y w.fresh) f.event → Follows w n step h
    follows-late stop y0 n r c =
        let v = c.others in
        let replied : n.reply ≡ Changed false = ap (λ e. e.reply) v ∙ r.reply in
        follows-watch w h z step l n (subst IsPlain (sym replied) tt) (ap (λ e. e.changes.items) v ∙ r.changes) (ap (λ e. e.monitors.items) v ∙ r.monitors) (ap (λ e. e.description) v ∙ r.known) (ap (λ e. e.stops) v ∙ r.goes_on)
        (c.facts ∙ (ap (λ fs. Sdam f.event ∷ fs) r.facts ∙ sym beats-here)) tt (silent stop) passes-here (ruled stop) (λ fs. replies stop (with_facts m fs k) ∙ sym replied) (first-free o m k beats free-here) (watches-here n (ap (λ e. e.monitoring) v))

    -- it is told
    pub failure-told : (n : Transition) → FailsAs w m (Checked p y w.fresh) f.event u its_trouble n → Follows w n step h
    failure-told n r = on w.stopped refl r.1
      where
        on : (b : Bool) → w.stopped ≡ b → FailsTo w m u its_trouble b r.0 → Follows w n step h
        on true g s = follows-late g r.0 n s r.2
        on false g s =
            let v = r.2.others in
            mark-follows w h z step l a error its_trouble (failure-marking g) tt free-here r.0 n s (ap (λ e. e.reply) v) (ap (λ e. e.changes) v) (ap (λ e. e.description) v) (ap (λ e. e.monitors) v) (ap (λ e. e.stops) v)
            (r.2.facts ∙ ap (λ fs. fs ++ r.0.facts.items) (sym beats-here)) (watches-here n (ap (λ e. e.monitoring) v))
