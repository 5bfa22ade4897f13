use Rattle.std.proofs.Common.{◌≡◌, ◌∙◌, ◌&&◌, Bool, not, is_some, slice_get, true, false, None, Some, sym, ap, subst}
use Rattle.std.proofs.lemmas.Result.{IfOk-weaker}
use Rattle.mdb_describe.specs.Descriptions.{failed}
use Rattle.mdb_describe.specs.Differences.{difference}
use Rattle.mdb_describe.specs.Update.{updated}
use Rattle.mdb_log.specs.declared.checked.BeatenResult.TheVariants.{Err}
use Rattle.mdb_log.specs.declared.step.Act.TheVariants.{Beaten}
use Rattle.mdb_driver_pools.specs.declared.trouble.Asked.TheVariants.{Nothing}
use Rattle.mdb_log.specs.declared.reply.Refused.TheVariants.{NotChecking, WrongMode, Exhausted}
use Rattle.mdb_log.specs.declared.reply.What.TheVariants.{Generation}
use Rattle.mdb_monitor.specs.Standing.{runs}
use Rattle.mdb_topology.specs.declared.monitors.monitoring.Monitoring.TheVariants.{Checked}
use Rattle.mdb_topology.specs.Changing.{known_with, ConcludesAs}
use Rattle.mdb_topology.specs.Marking.{check_spends, IsOfPool, FailsAs}
use Rattle.mdb_topology.specs.Checking.{Ends}
use Rattle.mdb_driver_rules.specs.Monitors.{runs as runs_at, check_result, monitor_items}
use Rattle.mdb_driver_rules.specs.Refusal.{may_want, refusal}
use Rattle.mdb_pool.specs.Now.{exhausted_now}
use Rattle.mdb_pool_rules.specs.Refusal.{wrong_service}
use Rattle.mdb_topology.specs.Stepping.{BecomesOf, Follows}
use Rattle.mdb_driver_pools.specs.Standing.{is_here_among}
use Rattle.mdb_topology.proofs.OfMonitors.CheckEnds.{follows-beaten-away, beaten-idle, beaten-mode, concluded}
use Rattle.mdb_topology.proofs.OfMonitors.CheckFailed.{here-at, untroubled-else, its_trouble, failure-of-pool, failure-told}
use Rattle.mdb_topology.proofs.Marks.AtItsLimitByCheck.{check-spent, check-wants}
use Rattle.mdb_driver_pools.proofs.OnePool.FoundAt.{open-lives}
use Rattle.mdb_topology.proofs.Marks.AtItsLimit.{wants-after, clear-accepted, not-both, some-place}
use Rattle.mdb_driver_rules.proofs.General.OnePosition.{some-same}
use Rattle.mdb_topology.proofs.topology.TopologyCore.beaten.Goals as goal

pub returns-in_default-clause-becomes : goal.returns-in_default-clause-becomes
returns-in_default-clause-becomes c h z =
    let w = c.args.self.now in
    let m = c.args.step.now.moment in
    let a = c.args.address.now in
    let p = c.args.pool in
    let e = c.of_reply.ensures in
    let away : is_here_among w.pools.cores.items a p ≡ false = sym c.in_default.ensures.here in
    subst (λ x. Follows w c.of_reply.result (record { moment = m; act = x }) h) (sym c.requires.act)
    (follows-beaten-away w h z m c.requires.in_time a p c.args.duration c.args.came.now away c.if-self.false c.of_reply.result e.changes e.monitors e.description e.stops e.facts e.monitoring e.reply)

pub returns-then-not-running-clause-becomes : goal.returns-then-not-running-clause-becomes
returns-then-not-running-clause-becomes c h z =
    let w = c.args.self.now in
    let m = c.args.step.now.moment in
    let a = c.args.address.now in
    let p = c.args.pool in
    let ms = w.monitors.items in
    let x = c.at.result.now in
    let own : c.in-Some.index ≡ p = c.in-Some.ensures.index in
    let at_p : slice_get ms p ≡ Some x = subst (λ q. slice_get ms q ≡ Some x) own (c.at.ensures) in
    let idle : runs_at h p ≡ false = sym (c.if-not-running.ensures.items (monitor_items h p) (z.monitors.each p x at_p)) in
    subst (λ v. refusal w.options h (record { moment = m; act = v }) ≡ Some NotChecking) (sym c.requires.act)
    (beaten-idle w h z m c.requires.in_time a p c.args.duration (sym c.in-Some.ensures.here) c.args.came.now idle)

pub returns-then-self-2-clause-becomes : goal.returns-then-self-2-clause-becomes
returns-then-self-2-clause-becomes c h z =
    let w = c.args.self.now in
    let m = c.args.step.now.moment in
    let a = c.args.address.now in
    let p = c.args.pool in
    let ms = w.monitors.items in
    let x = c.at.result.now in
    let own : c.in-Some.index ≡ p = c.in-Some.ensures.index in
    let at_p : slice_get ms p ≡ Some x = subst (λ q. slice_get ms q ≡ Some x) own (c.at.ensures) in
    let running : runs_at h p ≡ true = sym (c.if-not-running.ensures.items (monitor_items h p) (z.monitors.each p x at_p)) in
    subst (λ v. refusal w.options h (record { moment = m; act = v }) ≡ Some WrongMode) (sym c.requires.act)
    (beaten-mode w h z m c.requires.in_time a p c.args.duration (sym c.in-Some.ensures.here) c.args.came.now running c.if-self-2.true)

pub overspends_by_check-requires-clause-there : goal.overspends_by_check-requires-clause-there
overspends_by_check-requires-clause-there c =
    let w = c.args.self.now in
    open-lives w.pools.cores.items c.args.address.now c.in-Some.index (here-at w c.args.address.now c.args.pool c.in-Some.index c.in-Some.ensures.index (sym c.in-Some.ensures.here))

pub returns-then-overspends_by_check-clause-becomes : goal.returns-then-overspends_by_check-clause-becomes
returns-then-overspends_by_check-clause-becomes c h z =
    let w = c.args.self.now in
    let m = c.args.step.now.moment in
    let a = c.args.address.now in
    let p = c.args.pool in
    let ms = w.monitors.items in
    let x = c.at.result.now in
    let own : c.in-Some.index ≡ p = c.in-Some.ensures.index in
    let at_p : slice_get ms p ≡ Some x = subst (λ q. slice_get ms q ≡ Some x) own (c.at.ensures) in
    let there = sym c.in-Some.ensures.here in
    let running : runs_at h p ≡ true = sym (c.if-not-running.ensures.items (monitor_items h p) (z.monitors.each p x at_p)) in
    let here = here-at w a p c.in-Some.index own there in
    let s = some-place w.pools.cores.items a c.in-Some.index here in
    let spent : check_spends w s.0 a c.args.came.now ≡ true = sym (c.overspends_by_check.ensures s.0 s.1) ∙ c.if-overspends_by_check.true in
    subst (λ v. refusal w.options h (record { moment = m; act = v }) ≡ Some (Exhausted Generation)) (sym c.requires.act)
    (check-spent w h z m c.requires.in_time a p c.args.duration there running c.if-self-2.false s.0 (subst (λ q. slice_get w.pools.cores.items q ≡ Some s.0) own s.1) c.args.came.now spent)

pub with_end-requires-clause-running : goal.with_end-requires-clause-running
with_end-requires-clause-running c x at_i =
    let ms = c.args.self.now.monitors.items in
    let s = c.at.result.now in
    let here : slice_get ms c.in-Some.index ≡ Some s = c.at.ensures in
    subst (λ v. runs v ≡ true) (some-same s x (slice_get ms c.in-Some.index) here at_i) (sym c.if-not-running.ensures.machine)

pub returns-in_err-monitor-clause-wants : goal.returns-in_err-monitor-clause-wants
returns-in_err-monitor-clause-wants c = wants-after c.args.self.now c.args.step.now _ (λ h z.
    let w = c.args.self.now in
    let m = c.args.step.now.moment in
    let a = c.args.address.now in
    let p = c.args.pool in
    let ms = w.monitors.items in
    let x = c.at.result.now in
    let own : c.in-Some.index ≡ p = c.in-Some.ensures.index in
    let at_p : slice_get ms p ≡ Some x = subst (λ q. slice_get ms q ≡ Some x) own (c.at.ensures) in
    let there = sym c.in-Some.ensures.here in
    let running : runs_at h p ≡ true = sym (c.if-not-running.ensures.items (monitor_items h p) (z.monitors.each p x at_p)) in
    let here = here-at w a p c.in-Some.index own there in
    let s = some-place w.pools.cores.items a c.in-Some.index here in
    let spare : check_spends w s.0 a c.args.came.now ≡ false = sym (c.overspends_by_check.ensures s.0 s.1) ∙ c.if-overspends_by_check.false in
    subst (λ v. may_want w.options h (record { moment = m; act = v }) ≡ true) (sym c.requires.act)
    (check-wants w h z m c.requires.in_time a p c.args.duration there running c.if-self-2.false s.0 (subst (λ q. slice_get w.pools.cores.items q ≡ Some s.0) own s.1) c.args.came.now spare))

pub returns-in-Ok-clause-becomes : goal.returns-in-Ok-clause-becomes
returns-in-Ok-clause-becomes c =
    let w = c.args.self.now in
    let m = c.args.step.now.moment in
    let a = c.args.address.now in
    let p = c.args.pool in
    let ms = w.monitors.items in
    let x = c.at.result.now in
    let y = c.in_ok-monitor.monitor in
    let f = c.in_ok-monitor.finish in
    let own : c.in-Some.index ≡ p = c.in-Some.ensures.index in
    let at_i : slice_get ms c.in-Some.index ≡ Some x = c.at.ensures in
    let at_p : slice_get ms p ≡ Some x = subst (λ q. slice_get ms q ≡ Some x) own at_i in
    let ends : Ends x y c.args.duration (check_result a c.args.came.now) f = c.in_ok-monitor.ensures x at_i in
    IfOk-weaker c.conclude.result _ _ (λ stepped r h z.
    let running : runs_at h p ≡ true = sym (c.if-not-running.ensures.items (monitor_items h p) (z.monitors.each p x at_p)) in
    subst (λ v. BecomesOf w (record { moment = m; act = v }) stepped h) (sym c.requires.act)
    (concluded w h z m c.requires.in_time a p c.args.duration (sym c.in-Some.ensures.here) c.args.came.now running c.if-self-2.false x y f at_p ends (untroubled-else c.args.came.now c.in_default-came.not-Err) (known_with w c.in-Ok.server) c.in-Ok.ensures stepped
    (subst (λ q. ConcludesAs w m (Checked q y w.fresh) f.event (known_with w c.in-Ok.server) stepped) own r))) c.conclude.ensures.concludes

pub returns-in-Ok-clause-wants : goal.returns-in-Ok-clause-wants
returns-in-Ok-clause-wants c = wants-after c.args.self.now c.args.step.now _ (λ h z.
    let w = c.args.self.now in
    let m = c.args.step.now.moment in
    let a = c.args.address.now in
    let p = c.args.pool in
    let ms = w.monitors.items in
    let x = c.at.result.now in
    let own : c.in-Some.index ≡ p = c.in-Some.ensures.index in
    let at_p : slice_get ms p ≡ Some x = subst (λ q. slice_get ms q ≡ Some x) own (c.at.ensures) in
    let there = sym c.in-Some.ensures.here in
    let running : runs_at h p ≡ true = sym (c.if-not-running.ensures.items (monitor_items h p) (z.monitors.each p x at_p)) in
    let here = here-at w a p c.in-Some.index own there in
    let s = some-place w.pools.cores.items a c.in-Some.index here in
    let spare : check_spends w s.0 a c.args.came.now ≡ false = sym (c.overspends_by_check.ensures s.0 s.1) ∙ c.if-overspends_by_check.false in
    subst (λ v. may_want w.options h (record { moment = m; act = v }) ≡ true) (sym c.requires.act)
    (check-wants w h z m c.requires.in_time a p c.args.duration there running c.if-self-2.false s.0 (subst (λ q. slice_get w.pools.cores.items q ≡ Some s.0) own s.1) c.args.came.now spare))

pub returns-in-Err-after_check-clause-wants : goal.returns-in-Err-after_check-clause-wants
returns-in-Err-after_check-clause-wants c = λ h z.
    let w = c.args.self.now in
    let m = c.args.step.now.moment in
    let a = c.args.address.now in
    let p = c.args.pool in
    let ms = w.monitors.items in
    let x = c.at.result.now in
    let own : c.in-Some.index ≡ p = c.in-Some.ensures.index in
    let at_p : slice_get ms p ≡ Some x = subst (λ q. slice_get ms q ≡ Some x) own (c.at.ensures) in
    let there = sym c.in-Some.ensures.here in
    let running : runs_at h p ≡ true = sym (c.if-not-running.ensures.items (monitor_items h p) (z.monitors.each p x at_p)) in
    let here = here-at w a p c.in-Some.index own there in
    let s = some-place w.pools.cores.items a c.in-Some.index here in
    let spare : check_spends w s.0 a c.args.came.now ≡ false = sym (c.overspends_by_check.ensures s.0 s.1) ∙ c.if-overspends_by_check.false in
    subst (λ v. may_want w.options h (record { moment = m; act = v }) ≡ true) (sym c.requires.act)
    (check-wants w h z m c.requires.in_time a p c.args.duration there running c.if-self-2.false s.0 (subst (λ q. slice_get w.pools.cores.items q ≡ Some s.0) own s.1) c.args.came.now spare)

pub fail-requires-clause-here : goal.fail-requires-clause-here
fail-requires-clause-here c = here-at c.args.self.now c.args.address.now c.args.pool c.in-Some.index c.in-Some.ensures.index (sym c.in-Some.ensures.here)

pub fail-requires-clause-accepted : goal.fail-requires-clause-accepted
fail-requires-clause-accepted c going cleared s at_s =
    let w = c.args.self.now in
    let a = c.args.address.now in
    let e = c.get.result.now in
    let came : c.args.came.now ≡ Err e = c.in-Err.is ∙ ap Err (sym c.get.ensures) in
    let changes : Bool = is_some (difference w.description.servers (updated w.description (failed a e)).servers) && true in
    let spare : check_spends w s a (Err e) ≡ false = ap (check_spends w s a) (sym came) ∙ (sym (c.overspends_by_check.ensures s at_s) ∙ c.if-overspends_by_check.false) in
    clear-accepted w c.requires.stands c.in-Some.index s at_s c.args.step.now.moment c.requires.in_time None e (ap (λ b. wrong_service b None) c.if-self-2.false)
    (not-both changes (exhausted_now s None) (sym (ap (λ b. not b && (changes && exhausted_now s None)) going) ∙ spare) cleared)

pub returns-in-Err-clause-becomes : goal.returns-in-Err-clause-becomes
returns-in-Err-clause-becomes c h z =
    let w = c.args.self.now in
    let m = c.args.step.now.moment in
    let a = c.args.address.now in
    let p = c.args.pool in
    let ms = w.monitors.items in
    let x = c.at.result.now in
    let own : c.in-Some.index ≡ p = c.in-Some.ensures.index in
    let at_p : slice_get ms p ≡ Some x = subst (λ q. slice_get ms q ≡ Some x) own (c.at.ensures) in
    let there = sym c.in-Some.ensures.here in
    let running : runs_at h p ≡ true = sym (c.if-not-running.ensures.items (monitor_items h p) (z.monitors.each p x at_p)) in
    let d = c.args.duration in
    let e = c.get.result.now in
    let came : c.args.came.now ≡ Err e = c.in-Err.is ∙ ap Err (sym c.get.ensures) in
    let y = c.in_ok-monitor.monitor in
    let f = c.in_ok-monitor.finish in
    let at_i : slice_get ms c.in-Some.index ≡ Some x = c.at.ensures in
    let ends : Ends x y d (check_result a (Err e)) f = subst (λ v. Ends x y d (check_result a v) f) came (c.in_ok-monitor.ensures x at_i) in
    let met = its_trouble w h z m c.requires.in_time a p d e there running c.if-self-2.false in
    subst (λ v. Follows w c.in_ok-next.next (record { moment = m; act = v }) h) (sym c.requires.act)
    (subst (λ v. Follows w c.in_ok-next.next (record { moment = m; act = Beaten a p d v }) h) (sym came)
    (failure-told w h z m c.requires.in_time a p d e there running c.if-self-2.false x y f at_p ends c.in_ok-next.next
    (subst (λ q. FailsAs w m (Checked q y w.fresh) f.event (updated w.description (failed a e)) met c.in_ok-next.next) own
    (c.in_ok-next.ensures.fails met (subst (λ q. IsOfPool w.options met q a e true Nothing) (sym own) (failure-of-pool w h z m c.requires.in_time a p d e there running c.if-self-2.false))))))

pub returns-in_err-next-clause-wants : goal.returns-in_err-next-clause-wants
returns-in_err-next-clause-wants c = wants-after c.args.self.now c.args.step.now _ (λ h z.
    let w = c.args.self.now in
    let m = c.args.step.now.moment in
    let a = c.args.address.now in
    let p = c.args.pool in
    let ms = w.monitors.items in
    let x = c.at.result.now in
    let own : c.in-Some.index ≡ p = c.in-Some.ensures.index in
    let at_p : slice_get ms p ≡ Some x = subst (λ q. slice_get ms q ≡ Some x) own (c.at.ensures) in
    let there = sym c.in-Some.ensures.here in
    let running : runs_at h p ≡ true = sym (c.if-not-running.ensures.items (monitor_items h p) (z.monitors.each p x at_p)) in
    let here = here-at w a p c.in-Some.index own there in
    let s = some-place w.pools.cores.items a c.in-Some.index here in
    let spare : check_spends w s.0 a c.args.came.now ≡ false = sym (c.overspends_by_check.ensures s.0 s.1) ∙ c.if-overspends_by_check.false in
    subst (λ v. may_want w.options h (record { moment = m; act = v }) ≡ true) (sym c.requires.act)
    (check-wants w h z m c.requires.in_time a p c.args.duration there running c.if-self-2.false s.0 (subst (λ q. slice_get w.pools.cores.items q ≡ Some s.0) own s.1) c.args.came.now spare))
