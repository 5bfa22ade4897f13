use Rattle.std.proofs.Common.{List, OnOk, Some, sym, ◌∙◌, subst}
use Rattle.mdb_log.specs.History.{Item}
use Rattle.std.proofs.lemmas.Result.{on_ok_weaker}
use Rattle.mdb_topology.specs.Standing.{StandsFor}
use Rattle.mdb_topology.specs.Stepping.{with_place, BecomesOf, Follows, Logs}
use Rattle.mdb_driver_rules.proofs.TwoKinds.{topology-rest}
use Rattle.mdb_topology.proofs.topology.TopologyCore.log_step.Goals as goal

pub returns-in-Accepted-clause-logs : goal.returns-in-Accepted-clause-logs
returns-in-Accepted-clause-logs c =
    let w = c.args.self.now in
    let step = c.args.step.now in
    let logs = subst (λ x. OnOk c.accept.result ((h : List Item) → StandsFor x h → Follows x c.in-Accepted.next step h → Logs x c.accept.new.self c.args.log.now c.accept.new.log c.args.seat step h)) c.in_ok-why.ensures.same c.accept.ensures.logs in
    on_ok_weaker c.accept.result (λ f h z. f h z (subst (λ x. BecomesOf w step x h) c.in-Accepted.is (c.in_ok-why.ensures.becomes h z))) logs

pub returns-in-Repeated-clause-logs : goal.returns-in-Repeated-clause-logs
returns-in-Repeated-clause-logs c =
    let w = c.args.self.now in
    let step = c.args.step.now in
    let n = c.in-Repeated.next in
    let s = c.in-Repeated.server in
    let logs = subst (λ x. OnOk c.accept-in-Repeated.result ((h : List Item) → StandsFor x h → Follows x (with_place (Some s) x n) step h → Logs x c.accept-in-Repeated.new.self c.args.log.now c.accept-in-Repeated.new.log c.args.seat step h)) c.in_ok-why.ensures.same c.accept-in-Repeated.ensures.logs in
    on_ok_weaker c.accept-in-Repeated.result (λ f h z. f h z (subst (λ x. BecomesOf w step x h) c.in-Repeated.is (c.in_ok-why.ensures.becomes h z))) logs

pub topology_act-requires-clause-act : goal.topology_act-requires-clause-act
topology_act-requires-clause-act c = topology-rest c.args.step.now.act c.requires.act (sym c.is_pool_act.ensures ∙ c.if-is_pool_act.false)
