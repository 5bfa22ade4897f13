use Rattle.std.proofs.Common.{refl}
use Rattle.mdb_log.specs.History.{history_of}
use Rattle.mdb_driver_rules.specs.Lines.{log_of}
use Rattle.mdb_excluded.specs.Entries.{usual}
use Rattle.mdb_excluded.specs.Steps.{errs, harmless}
use Rattle.mdb_excluded.specs.Scripts.{holding}
use Rattle.mdb_excluded.proofs.Marks.{clears-told}
use Rattle.mdb_excluded.proofs.steps.clears_always.Goals as goal

-- nothing is caused
pub returns-clause-excluded : goal.returns-clause-excluded
returns-clause-excluded c = λ reply facts some. ((refl, refl), refl, λ later w. let e = clears-told usual (history_of (log_of holding)) (errs 1 harmless) (record { reply = reply; facts = facts }) 0 reply w.1.1.1.0.causes some in cc)
