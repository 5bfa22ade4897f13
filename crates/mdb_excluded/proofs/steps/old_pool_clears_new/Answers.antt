use Rattle.std.proofs.Common.{refl}
use Rattle.mdb_log.specs.History.{history_of}
use Rattle.mdb_driver_rules.specs.Lines.{log_of}
use Rattle.mdb_excluded.specs.Entries.{lost}
use Rattle.mdb_excluded.specs.Steps.{normal, errs}
use Rattle.mdb_excluded.specs.Scripts.{reopened}
use Rattle.mdb_excluded.proofs.Marks.{clears-told}
use Rattle.mdb_excluded.proofs.steps.old_pool_clears_new.Goals as goal

-- nothing is caused
pub returns-clause-excluded : goal.returns-clause-excluded
returns-clause-excluded c = λ reply facts some. ((refl, refl), refl, λ later w. let e = clears-told normal (history_of (log_of reopened)) (errs 1 lost) (record { reply = reply; facts = facts }) 2 reply w.1.1.1.1.1.1.1.0.causes some in cc)
