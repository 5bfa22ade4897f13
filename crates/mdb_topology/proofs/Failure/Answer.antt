-- What becomes of a failure that marks a server, and of one that marks none, by what was planned.
use Rattle.std.proofs.Common.{ℕ, ◌≡◌, ◌≤◌, ◌&&◌, Bool, true, false, if◌then◌else◌, List, [], length, Option, Some, None, is_some, refl, sym, ◌∙◌, ap, subst}
use Rattle.std.specs.Prelude.{slice_get, unwrap_or}
use Rattle.mdb_base.specs.declared.address.ServerAddress.{ServerAddress}
use Rattle.mdb_base.specs.declared.error.Error.{Error}
use Rattle.mdb_base.specs.declared.object_id.ObjectId.{ObjectId}
use Rattle.mdb_base.specs.declared.options.Options.{Options}
use Rattle.mdb_describe.specs.declared.topology.TopologyDescription.{TopologyDescription}
use Rattle.mdb_describe.specs.declared.diff.Diff.{Diff}
use Rattle.mdb_describe.specs.Descriptions.{failed}
use Rattle.mdb_describe.specs.Differences.{difference}
use Rattle.mdb_describe.specs.Servers.{in_order, is_known}
use Rattle.mdb_describe.specs.Update.{updated}
use Rattle.mdb_events.specs.declared.fact.Fact.{Fact}
use Rattle.mdb_log.specs.declared.reply.Reply.TheVariants.{Done}
use Rattle.mdb_log.specs.declared.reply.What.TheVariants.{Generation}
use Rattle.mdb_log.specs.declared.step.Act.TheVariants.{Failed}
use Rattle.mdb_log.specs.declared.step.FailedAt.{FailedAt}
use Rattle.mdb_log.specs.declared.step.Step.{Step}
use Rattle.mdb_log.specs.History.{Item, of_pool}
use Rattle.mdb_log.specs.Opening.{pool_options}
use Rattle.mdb_pool.specs.Core.{PoolCore}
use Rattle.mdb_pool.specs.Now.{exhausted_now, is_live_now, is_pending_now}
use Rattle.mdb_pool.specs.Refusing.{refusal_now}
use Rattle.mdb_pool.proofs.Told.OfQueries.{pending-lives}
use Rattle.mdb_pool_rules.specs.Serving.{IsServed}
use Rattle.mdb_driver_pools.specs.declared.pool_change.PoolChange.{PoolChange}
use Rattle.mdb_driver_pools.specs.declared.trouble.Asked.{Asked}
use Rattle.mdb_driver_pools.specs.declared.trouble.Asked.TheVariants.{Nothing}
use Rattle.mdb_topology.specs.declared.monitors.monitoring.Monitoring.TheVariants.{Same}
use Rattle.mdb_topology.specs.declared.transition.Transition.{Transition}
use Rattle.mdb_topology.specs.declared.topology.TopologyCore.{TopologyCore}
use Rattle.mdb_driver_rules.specs.Current.{establishing}
use Rattle.mdb_driver_rules.specs.Description.{Rule, updates}
use Rattle.mdb_driver_rules.specs.Errors.{case_of}
use Rattle.mdb_topology.specs.Failing.{regards_now, clears_after, service_after, asked_after, TellsFailure, IsToldOf}
use Rattle.mdb_driver_pools.specs.Failing.{IsFailing, StillFails, Fails}
use Rattle.mdb_driver_pools.specs.Planned.{CanTake, LeadsAll, PlansMore}
use Rattle.mdb_driver_rules.specs.Publishing.{telling, told_by}
use Rattle.mdb_driver_rules.specs.Refusal.{ran_out, refusal}
use Rattle.mdb_topology.specs.Standing.{StandsFor, StandsForSome}
use Rattle.mdb_driver_pools.specs.Standing.{at_address}
use Rattle.mdb_topology.specs.Stepping.{Follows}
use Rattle.mdb_driver_pools.specs.Telling.{Comes}
use Rattle.mdb_driver_rules.specs.Turns.{in_turn}
use Rattle.mdb_topology.proofs.Publications.OfDifference.{open-known}
use Rattle.mdb_driver_pools.proofs.Failure.AcceptedAfterClear.{pending-now, still-fails}
use Rattle.mdb_topology.proofs.Failure.Becomes.{failure-refusal, failure-follows}
use Rattle.mdb_topology.proofs.Failure.MarkOfNoPool.{Constant, mark-constant}
use Rattle.mdb_topology.proofs.Failure.Means.{means-nothing, means-service, means-mark}
use Rattle.mdb_driver_pools.proofs.Failure.PoolsStand.{failing}
use Rattle.mdb_topology.proofs.Failure.Trouble.{failed-place}
use Rattle.mdb_topology.proofs.WholeSteps.TopologyStep.{early-later}
use Rattle.mdb_driver_rules.proofs.StaysKnown.{marked-known, marked-length, marked-ordered}
use Rattle.mdb_driver_pools.proofs.OnePool.FoundAt.{fits-at, number-at}

-- the step is one of the failure
abbrev step-is : (s : PoolCore) (step : Step) (error : Error) (d : IsFailing s step error) → step ≡ failing step.moment s.pool d.connection d.at error
step-is s step error d = ap (λ a. record { moment = step.moment; act = a }) d.act_is

module _ (w : TopologyCore) (st : StandsForSome w) (i : ℕ) (s : PoolCore) (there : slice_get w.pools.cores.items i ≡ Some s) (step : Step) (error : Error) (d : IsFailing s step error) where
  served : IsServed s.options (of_pool s.pool st.0)
  served = subst (λ q. IsServed q (of_pool s.pool st.0)) (sym (st.1.pools.fit.each i s there).options) (st.1.pools.served s.pool)

  -- after a clear the failure is still accepted
  pub still-at : (service : Option ObjectId) → StillFails s step service error
  still-at service = still-fails s (of_pool s.pool st.0) (fits-at (pool_options w.options) w.pools.cores.items st.0 st.1.pools.fit i s there) served step error d service

  -- the connection that is pending
  pub live-at : (c : ℕ) (at : FailedAt) → step.act ≡ Failed i c at error → is_live_now s c ≡ true
  live-at c at e = pending-lives s c (subst (λ n. is_pending_now s n ≡ true) same pending)
    where
      pending : is_pending_now s d.connection ≡ true
      pending = pending-now s (of_pool s.pool st.0) (fits-at (pool_options w.options) w.pools.cores.items st.0 st.1.pools.fit i s there) served step error d

      both : Failed s.pool d.connection d.at error ≡ Failed i c at error
      both = sym d.act_is ∙ e

      same : d.connection ≡ c
      same = cc

-- what was planned of a mark is told so
pub told-of : (w : TopologyCore) (st : StandsForSome w) (m : ℕ) (l : w.pools.last ≤ m) (u : TopologyDescription) (y : Option Diff) (touched : ServerAddress → Bool) (changes : List PoolChange) (facts : List Fact) → difference w.description.servers u.servers ≡ y
    → PlansMore w.options m w.pools.cores.items (length w.pools.cores.items) touched (telling w.options m w.description u y) [] [] [] changes [] facts → IsToldOf w m u facts
told-of w st m l u y touched changes facts differs p k begins =
    let pools : List PoolCore = w.pools.cores.items in
    let can : CanTake m pools pools (length pools) touched = record { agrees = λ a e. (refl, λ i f. refl); count = refl; early = early-later pools w.pools.last m l st.1.early } in
    let led : (later : List PoolCore) × LeadsAll p.added pools later = p.planned_are.leads pools can in
    let comes : Comes w.options m (in_turn m (telling w.options m w.description u y) k) led.0 [] facts k = p.planned_are.tells pools led.0 can led.1 k begins in
    ap (λ d. in_turn m (telling w.options m w.description u d) k) differs ∙ sym comes.added

module _ (w : TopologyCore) (h : List Item) (z : StandsFor w h) (step : Step) (l : w.pools.last ≤ step.moment) (i : ℕ) (s : PoolCore) (there : slice_get w.pools.cores.items i ≡ Some s) (error : Error) where
  abbrev o : Options
  o = w.options

  abbrev t : TopologyDescription
  t = w.description

  abbrev pools : List PoolCore
  pools = w.pools.cores.items

  abbrev m : ℕ
  m = step.moment

  -- nothing is told
  abbrev silent : Constant m []
  silent = record { facts = []; calm = tt; free = refl; same = λ k. refl }

  -- no server is marked
  module _ (b : Bool) (service : Option ObjectId) (f : TellsFailure o h step s None b service error Nothing) where
    abbrev c : ℕ
    c = f.failing.connection

    abbrev at : FailedAt
    at = f.failing.at

    abbrev is : step ≡ failing m s.pool c at error
    is = step-is s step error f.failing

    moved : TellsFailure o h (failing m s.pool c at error) s None b service error Nothing
    moved = subst (λ x. TellsFailure o h x s None b service error Nothing) is f

    -- it is refused where the generation that it clears is at its limit, and for nothing else
    pub unmarked-refusal : (q : Bool) → b && exhausted_now s service ≡ q → refusal o h step ≡ ran_out (if q then Some Generation else None)
    unmarked-refusal q e =
        subst (λ x. refusal o h x ≡ ran_out (if q then Some Generation else None)) (sym is)
        (failure-refusal w h z m l i s there c at error None b service Nothing moved silent z.described.few q e)

    pub unmarked-follows : (n : Transition) → Fails b pools i step service error Nothing [] n.changes.items [] n.facts.items → n.reply ≡ Done → n.description ≡ None → n.monitors.items ≡ [] → n.monitoring ≡ Same → n.stops ≡ false → Follows w n step h
    unmarked-follows n r reply known none nothing goes_on =
        let v : unwrap_or n.description t ≡ t = ap (λ y. unwrap_or y t) known in
        subst (λ x. Follows w n x h) (sym is)
        (failure-follows w h z m l i s there c at error None b service Nothing moved silent z.described.few n
        (subst (λ x. Fails b pools i x service error Nothing [] n.changes.items [] n.facts.items) is r) reply known none nothing goes_on
        (subst (λ y. in_order y.servers ≡ true) (sym v) z.described.ordered) (subst (λ y. length y.servers ≤ 128) (sym v) z.described.few)
        (λ a. ap (λ y. is_known a y.servers) v))

  -- the server is marked
  module _ (here : at_address pools s.address ≡ Some i) (b : Bool) (asked : Asked) (f : TellsFailure o h step s (Some (updates (failed s.address error))) b None error asked) where
    abbrev u : TopologyDescription
    u = updated t (failed s.address error)

    abbrev rule : Option Rule
    rule = Some (updates (failed s.address error))

    known : is_known s.address t.servers ≡ true
    known = sym (open-known w (h, z) s.address) ∙ ap is_some here

    abbrev told : Constant m (told_by o m rule t)
    told = mark-constant s.address error t known z.described.ordered o m (difference t.servers u.servers) refl

    few : length u.servers ≤ 128
    few = subst (λ c. c ≤ 128) (sym (marked-length s.address error t)) z.described.few

    abbrev mark-is : step ≡ failing m s.pool f.failing.connection f.failing.at error
    mark-is = step-is s step error f.failing

    mark-moved : TellsFailure o h (failing m s.pool f.failing.connection f.failing.at error) s rule b None error asked
    mark-moved = subst (λ x. TellsFailure o h x s rule b None error asked) mark-is f

    pub marked-refusal : (q : Bool) → b && exhausted_now s None ≡ q → refusal o h step ≡ ran_out (if q then Some Generation else None)
    marked-refusal q e =
        subst (λ x. refusal o h x ≡ ran_out (if q then Some Generation else None)) (sym mark-is)
        (failure-refusal w h z m l i s there f.failing.connection f.failing.at error rule b None asked mark-moved told few q e)

    pub marked-follows : (before : List Fact) (n : Transition) → IsToldOf w m u before → Fails b pools i step None error asked [] n.changes.items before n.facts.items → n.reply ≡ Done → n.description ≡ Some u → n.monitors.items ≡ [] → n.monitoring ≡ Same → n.stops ≡ false → Follows w n step h
    marked-follows before n first r reply described none nothing goes_on =
        let v : unwrap_or n.description t ≡ u = ap (λ y. unwrap_or y t) described in
        let same : before ≡ told.facts = sym (first h z.pools) ∙ told.same h in
        subst (λ x. Follows w n x h) (sym mark-is)
        (failure-follows w h z m l i s there f.failing.connection f.failing.at error rule b None asked mark-moved told few n
        (subst (λ fs. Fails b pools i (failing m s.pool f.failing.connection f.failing.at error) None error asked [] n.changes.items fs n.facts.items) same
        (subst (λ x. Fails b pools i x None error asked [] n.changes.items before n.facts.items) mark-is r)) reply described none nothing goes_on
        (subst (λ y. in_order y.servers ≡ true) (sym v) (marked-ordered s.address error t ∙ z.described.ordered)) (subst (λ y. length y.servers ≤ 128) (sym v) few)
        (λ a. ap (λ y. is_known a y.servers) v ∙ marked-known s.address error t a))

  -- which of them it is
  module _ (c : ℕ) (at : FailedAt) (act : step.act ≡ Failed i c at error) (live : is_live_now s c ≡ true) (d : IsFailing s step error) where
    number : s.pool ≡ i
    number = number-at (pool_options o) pools h z.pools.fit i s there

    abbrev step-here : step ≡ failing m s.pool c at error
    step-here = ap (λ a. record { moment = m; act = a }) act ∙ ap (λ p. failing m p c at error) (sym number)

    accepted : refusal_now s (failing m s.pool c at error) ≡ None
    accepted = ap (refusal_now s) (sym step-here) ∙ d.accepted

    pub at-nothing : regards_now w s c at error && is_some (case_of (establishing at) error) ≡ false → TellsFailure o h step s None false None error Nothing
    at-nothing e = subst (λ y. TellsFailure o h y s None false None error Nothing) (sym step-here) (means-nothing w h z m l i s there c live at error accepted e)

    pub at-service : regards_now w s c at error ≡ true → o.load_balanced ≡ true → is_some (case_of (establishing at) error) ≡ true
        → TellsFailure o h step s None (is_some (service_after s c at error)) (service_after s c at error) error Nothing
    at-service current balanced row =
        subst (λ y. TellsFailure o h y s None (is_some (service_after s c at error)) (service_after s c at error) error Nothing) (sym step-here) (means-service w h z m l i s there c live at error accepted current balanced row)

    pub at-mark : regards_now w s c at error ≡ true → o.load_balanced ≡ false → is_some (case_of (establishing at) error) ≡ true
        → TellsFailure o h step s (Some (updates (failed s.address error))) (is_some (difference t.servers (updated t (failed s.address error)).servers) && clears_after s c error) None error (asked_after error)
    at-mark current normal row =
        subst (λ y. TellsFailure o h y s (Some (updates (failed s.address error))) (is_some (difference t.servers (updated t (failed s.address error)).servers) && clears_after s c error) None error (asked_after error)) (sym step-here)
        (means-mark w h z m l i s there c live at error accepted current normal row)

    pub at-place : regards_now w s c at error ≡ true → at_address pools s.address ≡ Some i
    at-place current = failed-place w h z m i s there c live at error current
