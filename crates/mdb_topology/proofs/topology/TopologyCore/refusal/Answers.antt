use Rattle.std.proofs.Common.{◌≤◌, length, sym, ◌∙◌, subst}
use Rattle.mdb_driver_rules.specs.Description.{description_of}
use Rattle.mdb_topology.specs.Stepping.{BecomesOf}
use Rattle.mdb_driver_pools.proofs.OnePool.BecomesOfAct.{accepted-answer, cause-is}
use Rattle.mdb_driver_rules.proofs.TwoKinds.{topology-rest}
use Rattle.mdb_topology.proofs.topology.TopologyCore.refusal.Goals as goal

pub act-requires-clause-known : goal.act-requires-clause-known
act-requires-clause-known c = λ r. c.requires.stands.1.known r ∙ c.requires.stands.1.pools.fit.names r

pub topology_act-requires-clause-act : goal.topology_act-requires-clause-act
topology_act-requires-clause-act c = topology-rest c.args.step.now.act c.requires.act (sym c.is_pool_act.ensures ∙ c.if-is_pool_act.false)

pub returns-then-is_pool_act-clause-why : goal.returns-then-is_pool_act-clause-why
returns-then-is_pool_act-clause-why c h z =
    let w = c.args.self.now in
    let few : length (description_of w.options h).servers ≤ 128 = subst (λ t. length t.servers ≤ 128) (sym z.described.known) z.described.few in
    c.refusal.ensures ∙ cause-is w.options w.pools.cores.items c.args.step.now c.act.result h (c.act.ensures.performs w.options h z.pools z.counts.last_is few)

pub returns-in-Refused-clause-why : goal.returns-in-Refused-clause-why
returns-in-Refused-clause-why c h z =
    sym (subst (λ x. BecomesOf c.args.self.now c.args.step.now x h) c.in-Refused.is (c.in_ok-why.ensures.becomes h z))

pub returns-in-Accepted-clause-why : goal.returns-in-Accepted-clause-why
returns-in-Accepted-clause-why c h z =
    let f = subst (λ x. BecomesOf c.args.self.now c.args.step.now x h) c.in-Accepted.is (c.in_ok-why.ensures.becomes h z) in
    sym (accepted-answer c.args.self.now.options h c.args.step.now c.in-Accepted.next.reply c.in-Accepted.next.facts.items f.answer_is f.accepted)

pub returns-in-Repeated-clause-why : goal.returns-in-Repeated-clause-why
returns-in-Repeated-clause-why c h z =
    let f = subst (λ x. BecomesOf c.args.self.now c.args.step.now x h) c.in-Repeated.is (c.in_ok-why.ensures.becomes h z) in
    sym (accepted-answer c.args.self.now.options h c.args.step.now c.in-Repeated.next.reply c.in-Repeated.next.facts.items f.answer_is f.accepted)
