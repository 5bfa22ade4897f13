use Rattle.std.proofs.Common.{◌≤◌, List, length, sym, ◌∙◌, subst}
use Rattle.std.proofs.lemmas.Result.{on_ok_weaker}
use Rattle.mdb_log.specs.History.{Item}
use Rattle.mdb_topology.specs.declared.topology.TopologyCore.{TopologyCore}
use Rattle.mdb_driver_rules.specs.Description.{description_of}
use Rattle.mdb_topology.specs.Standing.{StandsFor}
use Rattle.mdb_driver_pools.specs.Taking.{IsReady, Performs}
use Rattle.mdb_topology.proofs.WholeSteps.PoolStep.{pool-logs, pool-reply}
use Rattle.mdb_topology.proofs.WholeSteps.QuietStep.{follows-idle}
use Rattle.mdb_topology.proofs.topology.TopologyCore.enter_pool_step.Goals as goal

pub act-requires-clause-known : goal.act-requires-clause-known
act-requires-clause-known c = λ r. c.requires.stands.1.known r ∙ c.requires.stands.1.pools.fit.names r

few : (w : TopologyCore) (h : List Item) → StandsFor w h → length (description_of w.options h).servers ≤ 128
few w h z = subst (λ t. length t.servers ≤ 128) (sym z.described.known) z.described.few

pub accept-requires : goal.accept-requires
accept-requires c =
    let w = c.args.self.now in
    let h = c.requires.stands.0 in
    let z = c.requires.stands.1 in
    let e = c.of_reply-next.ensures in
    let rests = subst (λ x. Performs w.options w.pools.cores.items c.args.step.now x h) c.in-Idle.is (c.act.ensures.performs w.options h z.pools z.counts.last_is (few w h z)) in
    record { follows = (h, z, follows-idle w h z c.args.step.now c.requires.in_time c.of_reply-next.result e.changes e.facts e.monitors e.monitoring c.requires.act e.reply e.description e.stops rests) }

pub returns-in-Idle-clause-logs : goal.returns-in-Idle-clause-logs
returns-in-Idle-clause-logs c =
    let w = c.args.self.now in
    let e = c.of_reply-next.ensures in
    on_ok_weaker c.accept.result (λ f h z.
    let rests = subst (λ x. Performs w.options w.pools.cores.items c.args.step.now x h) c.in-Idle.is (c.act.ensures.performs w.options h z.pools z.counts.last_is (few w h z)) in
    f h z (follows-idle w h z c.args.step.now c.requires.in_time c.of_reply-next.result e.changes e.facts e.monitors e.monitoring c.requires.act e.reply e.description e.stops rests)) c.accept.ensures.logs

pub returns-in_ok-reply-in-Concerns-clause-logs : goal.returns-in_ok-reply-in-Concerns-clause-logs
returns-in_ok-reply-in-Concerns-clause-logs c = λ h z.
    let w = c.args.self.now in
    let ready = subst (IsReady w.pools.cores.items c.args.step.now) c.in-Concerns.is c.act.ensures.ready in
    let performs = subst (λ x. Performs w.options w.pools.cores.items c.args.step.now x h) c.in-Concerns.is (c.act.ensures.performs w.options h z.pools z.counts.last_is (few w h z)) in
    pool-logs w c.enter_at.new.self h z c.args.step.now c.requires.in_time c.requires.act c.in-Concerns.place ready.0 ready.1 ready.3 performs c.args.log.now c.enter_at.new.log c.args.seat c.in_ok-reply-in-Concerns.reply
    (c.in_ok-reply-in-Concerns.ensures.enters ready.0 ready.1)

pub returns-in_ok-reply-in-Concerns-clause-reply : goal.returns-in_ok-reply-in-Concerns-clause-reply
returns-in_ok-reply-in-Concerns-clause-reply c = λ h z.
    let w = c.args.self.now in
    let ready = subst (IsReady w.pools.cores.items c.args.step.now) c.in-Concerns.is c.act.ensures.ready in
    let performs = subst (λ x. Performs w.options w.pools.cores.items c.args.step.now x h) c.in-Concerns.is (c.act.ensures.performs w.options h z.pools z.counts.last_is (few w h z)) in
    pool-reply w c.enter_at.new.self h z c.args.step.now c.requires.in_time c.requires.act c.in-Concerns.place ready.0 ready.1 ready.3 performs c.args.log.now c.enter_at.new.log c.args.seat c.in_ok-reply-in-Concerns.reply
    (c.in_ok-reply-in-Concerns.ensures.enters ready.0 ready.1)
