use Rattle.std.proofs.Common.{◌≡◌, ◌<◌, true, false, length, slice_get, Some, get_or, sym, subst, ap, refl, arith}
use Rattle.std.proofs.lemmas.Option.{slice_get-get_or}
use Rattle.mdb_topology.specs.declared.transition.Transition.{Transition}
use Rattle.mdb_topology.specs.declared.monitors.monitoring.Monitoring.TheVariants.{Checked}
use Rattle.mdb_topology.specs.Checking.{Measures}
use Rattle.mdb_topology.specs.Stepping.{Follows}
use Rattle.mdb_driver_pools.specs.Standing.{is_here_among}
use Rattle.mdb_driver_pools.proofs.InMemory.LivingPools.{lives-within}
use Rattle.mdb_topology.proofs.OfMonitors.CheckFailed.{here-at}
use Rattle.mdb_topology.proofs.OfMonitors.RoundTrips.{follows-away, follows-sample}
use Rattle.mdb_driver_pools.proofs.OnePool.FoundAt.{open-lives}
use Rattle.mdb_topology.proofs.WholeSteps.OneMoreEntry.{as-many}
use Rattle.mdb_driver_rules.specs.Refusal.{may_want}
use Rattle.mdb_topology.proofs.Publications.WhichSteps.{passes-time}
use Rattle.mdb_topology.proofs.WholeSteps.ComesBeforeMemory.{untroubled-wants}
use Rattle.mdb_log.specs.declared.step.Act.TheVariants as Do
use Rattle.mdb_topology.proofs.Marks.AtItsLimit.{wants-after}
use Rattle.mdb_topology.proofs.topology.TopologyCore.rtt.Goals as goal

pub returns-in_default-clause-becomes : goal.returns-in_default-clause-becomes
returns-in_default-clause-becomes c h z =
    let w = c.args.self.now in
    let m = c.args.step.now.moment in
    let a = c.args.address.now in
    let p = c.args.pool in
    let e = c.of_reply.ensures in
    let away : is_here_among w.pools.cores.items a p ≡ false = sym c.in_default.ensures.here in
    subst (λ x. Follows w c.of_reply.result (record { moment = m; act = x }) h) (sym c.requires.act)
    (follows-away w h z m c.requires.in_time a p c.args.sample c.if-self.false c.of_reply.result e.changes e.monitors e.description e.stops e.facts away e.monitoring e.reply)

pub returns-clause-becomes : goal.returns-clause-becomes
returns-clause-becomes c h z =
    let w = c.args.self.now in
    let m = c.args.step.now.moment in
    let a = c.args.address.now in
    let p = c.args.pool in
    let i = c.in-Some.index in
    let y = c.in_ok-monitor.monitor in
    let r = c.of_reply-2.result in
    let e = c.of_reply-2.ensures in
    let n : Transition = record { reply = r.reply; facts = r.facts; changes = r.changes; description = r.description; monitors = r.monitors; monitoring = Checked i y w.fresh; stops = r.stops } in
    let there : is_here_among w.pools.cores.items a p ≡ true = sym c.in-Some.ensures.here in
    let own : i ≡ p = c.in-Some.ensures.index in
    let opened = lives-within w.pools.cores.items i (open-lives w.pools.cores.items a i (here-at w a p i own there)) in
    let many = as-many w.options w.pools.cores.items w.monitors.items h z.pools.fit z.monitors in
    let within : i < length w.monitors.items = omega (arith, many, opened) in
    let at_i : slice_get w.monitors.items i ≡ Some (get_or w.monitors.items i y) = slice_get-get_or w.monitors.items i y within in
    let x = get_or w.monitors.items i y in
    let measures : Measures x y c.args.sample c.in_ok-monitor.average = c.in_ok-monitor.ensures x at_i in
    subst (λ v. Follows w n (record { moment = m; act = v }) h) (sym c.requires.act)
    (follows-sample w h z m c.requires.in_time a p c.args.sample c.if-self.false n e.changes e.monitors e.description e.stops e.facts there x y (subst (λ q. slice_get w.monitors.items q ≡ Some x) own at_i)
    c.in_ok-monitor.average measures (ap (λ q. Checked q y w.fresh) own) e.reply)

pub returns-in_err-monitor-clause-wants : goal.returns-in_err-monitor-clause-wants
returns-in_err-monitor-clause-wants c = wants-after c.args.self.now c.args.step.now _ (λ h z.
    let w = c.args.self.now in
    let m = c.args.step.now.moment in
    subst (λ v. may_want w.options h (record { moment = m; act = v }) ≡ true) (sym c.requires.act)
    (untroubled-wants w h z (Do.Rtt c.args.address.now c.args.pool c.args.sample) m tt refl (passes-time w h z m c.requires.in_time (Do.Rtt c.args.address.now c.args.pool c.args.sample) (rw c.if-self.false refl)) refl refl))
