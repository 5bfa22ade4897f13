use Rattle.std.proofs.Common.{◌≡◌, IfOk, List, subst}
use Rattle.mdb_log.specs.declared.step.Act.TheVariants as act
use Rattle.mdb_log.specs.declared.checked.HelloResult.TheVariants as hello
use Rattle.mdb_log.specs.History.{Item}
use Rattle.mdb_driver_rules.specs.Answer.{answer}
use Rattle.mdb_topology.specs.Standing.{StandsFor}
use Rattle.mdb_topology.proofs.topology.TopologyCore.update.Goals as goal

pub returns-clause-reply : goal.returns-clause-reply
returns-clause-reply c =
    subst (λ k. IfOk c.step.result (λ told. (h : List Item) → StandsFor c.args.self.now h → told ≡ (answer c.args.self.now.options h (record { moment = c.args.moment; act = act.Hello c.args.address c.args.pool (hello.Ok c.args.rtt k) })).reply)) c.in_ok-held.ensures c.step.ensures.reply
