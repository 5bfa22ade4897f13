-- What a monitor that stands for some items tells of all that was done at it.
use Rattle.std.proofs.Common.{ℕ, ◌≡◌, Bool, true, false, Some, None, is_some, if◌then◌else◌, List, refl, ap, ◌∙◌}
use Rattle.mdb_monitor.specs.declared.monitor.MonitorCore.{MonitorCore}
use Rattle.mdb_monitor.specs.Items.{MonitorItem, since, is_running, fresh_of}
use Rattle.mdb_monitor.specs.Standing.{StandsFor, runs}
use Rattle.mdb_monitor.proofs.Since.{running-since}

some-if : (b : Bool) (x : ℕ) → is_some (if b then Some x else None) ≡ b
some-if true x = refl
some-if false x = refl

-- a check runs at the monitor exactly where the last one that began did not end
pub runs-is : (m : MonitorCore) (h : List MonitorItem) → StandsFor m h → runs m ≡ is_running h
runs-is m h f = ap is_some f.running ∙ some-if (is_running (since h)) (fresh_of (since h)) ∙ running-since h
