use Rattle.std.proofs.Common.{refl}
use Rattle.mdb_log.specs.History.{history_of}
use Rattle.mdb_driver_rules.specs.Lines.{log_of}
use Rattle.mdb_excluded.specs.Steps.{normal, alone, greets}
use Rattle.mdb_excluded.specs.Scripts.{begun}
use Rattle.mdb_excluded.proofs.Marks.{ready-told}
use Rattle.mdb_excluded.proofs.steps.never_ready.Goals as goal

-- the pool's being marked ready is caused
pub returns : goal.returns
returns c = λ reply facts accepted none. (
  (refl, refl),
  refl,
  λ later w. let e = ready-told normal (history_of (log_of begun)) (greets 0 alone) (record { reply = reply; facts = facts }) 0 reply accepted w.1.0.causes none in cc,
)
