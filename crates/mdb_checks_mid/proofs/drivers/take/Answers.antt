use Rattle.std.proofs.Common.{[]}
use Rattle.mdb_log.specs.Driver.{IsEntry}
use Rattle.mdb_log.proofs.Coming.{came}
use Rattle.mdb_topology.specs.Logging.{IsDriverOf}
use Rattle.mdb_checks_mid.proofs.drivers.take.Goals as goal

pub returns-then-is_err : goal.returns-then-is_err
returns-then-is_err c =
    came c.step-told.result (λ reply e. IsEntry 0 (record { moment = c.args.moment; act = c.args.act }) reply e) [] c.args.log.now c.step-told.new.log c.step-told.ensures.entry
    (IsDriverOf c.step-told.new.self) c.step-told.ensures.err_log (λ more is. c.step-told.ensures.stands c.args.log.now more c.requires.stands is)

pub returns : goal.returns
returns c =
    came c.step-told.result (λ reply e. IsEntry 0 (record { moment = c.args.moment; act = c.args.act }) reply e) [] c.args.log.now c.step-told.new.log c.step-told.ensures.entry
    (IsDriverOf c.step-told.new.self) c.step-told.ensures.err_log (λ more is. c.step-told.ensures.stands c.args.log.now more c.requires.stands is)
