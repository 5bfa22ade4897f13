-- A check runs since the last failure or cancellation exactly where one runs.
use Rattle.std.proofs.Common.{◌≡◌, List, [], ◌∷◌, refl}
use Rattle.mdb_monitor.specs.declared.check.CheckResult.TheVariants.{Ok, Err, Cancelled}
use Rattle.mdb_monitor.specs.Items.{MonitorItem, began, ended, measured, since, is_running}

pub running-since : (h : List MonitorItem) → is_running (since h) ≡ is_running h
running-since [] = refl
running-since (began fresh ∷ h) = refl
running-since (ended duration (Ok reply more) ∷ h) = refl
running-since (ended duration (Err error) ∷ h) = refl
running-since (ended duration (Cancelled error) ∷ h) = refl
running-since (measured sample ∷ h) = running-since h
