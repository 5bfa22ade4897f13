use Rattle.std.proofs.Common.{[]}
use Rattle.mdb_log.specs.declared.step.Act.TheVariants.{Request}
use Rattle.mdb_log.specs.Driver.{IsEntry}
use Rattle.mdb_log.proofs.Coming.{came}
use Rattle.mdb_topology.specs.Logging.{IsDriverOf}
use Rattle.mdb_checks_mid.proofs.closed_pools.ask_again.Goals as goal

pub returns-in-Ok : goal.returns-in-Ok
returns-in-Ok c =
    came c.step-told.result (λ reply e. IsEntry 0 (record { moment = c.args.moment; act = Request 3 c.in-Some.address }) reply e) [] c.args.log.now c.step-told.new.log c.step-told.ensures.entry
    (IsDriverOf c.step-told.new.self) c.step-told.ensures.err_log (λ more is. c.step-told.ensures.stands c.args.log.now more c.requires.stands is)

pub returns-in-Err : goal.returns-in-Err
returns-in-Err c =
    came c.step-told.result (λ reply e. IsEntry 0 (record { moment = c.args.moment; act = Request 3 c.in-Some.address }) reply e) [] c.args.log.now c.step-told.new.log c.step-told.ensures.entry
    (IsDriverOf c.step-told.new.self) c.step-told.ensures.err_log (λ more is. c.step-told.ensures.stands c.args.log.now more c.requires.stands is)
