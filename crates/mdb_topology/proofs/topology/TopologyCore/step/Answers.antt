use Rattle.std.proofs.Common.{sym, subst}
use Rattle.mdb_topology.specs.Logging.{IsDriverOf}
use Rattle.mdb_topology.proofs.WholeSteps.CoreOfManyPools.{in-either, still-driver}
use Rattle.mdb_topology.proofs.DriverOpened.ScriptsLog.{still-opened}
use Rattle.mdb_topology.proofs.topology.TopologyCore.step.Goals as goal

pub returns-clause-driver : goal.returns-clause-driver
returns-clause-driver c = λ z.
    let w = c.args.self.now in
    let v = c.log_step.new.self in
    let before = c.args.log.now in
    let after = c.log_step.new.log in
    in-either c.log_step.result _ _ (IsDriverOf v after) c.log_step.ensures.logs c.log_step.ensures.err_log
    (λ logs. still-driver w v before after c.args.seat c.args.step.now z c.log_step.ensures.options logs c.requires.act)
    (λ same. in-either c.log_step.result _ _ (IsDriverOf v after) c.log_step.ensures.logs c.log_step.ensures.err_core
    (λ logs. still-driver w v before after c.args.seat c.args.step.now z c.log_step.ensures.options logs c.requires.act)
    (λ kept. subst (IsDriverOf v) (sym same) (still-opened w v before z kept)))
