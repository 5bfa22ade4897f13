use Rattle.std.proofs.Common.{[]}
use Rattle.mdb_log.specs.Driver.{IsEntry}
use Rattle.mdb_log.proofs.Coming.{came}
use Rattle.mdb_log.proofs.whole.step_whole.Goals as goal

pub returns-clause-stands : goal.returns-clause-stands
returns-clause-stands g c =
    came c.step.result (λ reply e. IsEntry c.args.seat c.args.step.now reply e) [] c.args.log.now c.step.new.log c.step.ensures.entry (g.C.Core.stands c.step.new.self) c.step.ensures.err_log
    (λ more is. c.step.ensures.stands c.args.log.now more c.requires.stands is)
