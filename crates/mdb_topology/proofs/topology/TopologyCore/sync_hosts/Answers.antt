use Rattle.std.proofs.Common.{◌≡◌, IfOk, OnOk, List, subst}
use Rattle.mdb_log.specs.declared.step.Act.TheVariants as act
use Rattle.mdb_log.specs.History.{Item}
use Rattle.mdb_driver_rules.specs.Answer.{answer}
use Rattle.mdb_topology.specs.Standing.{StandsFor}
use Rattle.mdb_topology.specs.Stepping.{IsLogged}
use Rattle.mdb_topology.proofs.topology.TopologyCore.sync_hosts.Goals as goal

pub returns-clause-logs : goal.returns-clause-logs
returns-clause-logs c =
    subst (λ k. OnOk c.step.result (IsLogged c.args.self.now c.step.new.self c.args.log.now c.step.new.log c.args.seat (record { moment = c.args.moment; act = act.Hosts k }))) c.new.ensures c.step.ensures.logs

pub returns-clause-reply : goal.returns-clause-reply
returns-clause-reply c =
    subst (λ k. IfOk c.step.result (λ told. (h : List Item) → StandsFor c.args.self.now h → told ≡ (answer c.args.self.now.options h (record { moment = c.args.moment; act = act.Hosts k })).reply)) c.new.ensures c.step.ensures.reply
