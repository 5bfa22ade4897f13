-- What becomes of the monitors and watchers by what a step does at them.
use Rattle.std.specs.Prelude.{ℕ, ◌≡◌, true, false, List, ◌∷◌, set, unwrap_or, ⊤}
use Rattle.mdb_log.specs.Connections.{has}
use Rattle.mdb_base.specs.declared.options.Options.{Options}
use Rattle.mdb_monitor.specs.declared.check.Begin.{Begin}
use Rattle.mdb_monitor.specs.declared.check.CheckResult.{CheckResult}
use Rattle.mdb_monitor.specs.declared.check.Finish.{Finish}
use Rattle.mdb_monitor.specs.Endings.{finish_row}
use Rattle.mdb_monitor.specs.Average.{mean}
use Rattle.mdb_monitor.specs.Beginnings.{begin_row}
use Rattle.mdb_monitor.specs.Items.{MonitorItem, began, ended, measured, since, samples}
use Rattle.mdb_monitor.specs.Standing.{StandsFor as MonitorStands}
use Rattle.mdb_monitor.specs.declared.monitor.MonitorCore.{MonitorCore}
use Rattle.mdb_topology.specs.declared.monitors.monitoring.Monitoring.{Monitoring}
use Rattle.mdb_topology.specs.declared.monitors.monitoring.Monitoring.TheVariants.{Same, Checked, Asked}

-- the monitors that there are
abbrev pub monitors_after : Monitoring → List MonitorCore → List MonitorCore
monitors_after Same monitors = monitors
monitors_after (Checked i monitor numbers) monitors = set monitors i monitor
monitors_after (Asked watchers) monitors = monitors

-- how many checks began so far that connected
abbrev pub numbers_after : Monitoring → ℕ → ℕ
numbers_after Same numbers = numbers
numbers_after (Checked i monitor numbers) before = numbers
numbers_after (Asked watchers) numbers = numbers

-- the watchers who ask
abbrev pub watchers_after : Monitoring → List ℕ → List ℕ
watchers_after Same watchers = watchers
watchers_after (Checked i monitor numbers) watchers = watchers
watchers_after (Asked watchers) before = watchers

-- it is at one of the monitors that memory keeps
abbrev pub IsPlaced : Monitoring → List ℕ → Type 0
IsPlaced Same kept = ⊤
IsPlaced (Checked i monitor numbers) kept = has i kept ≡ true
IsPlaced (Asked watchers) kept = ⊤

-- the greatest number of a monitor's connection
abbrev pub number_limit : Options → ℕ
number_limit o = unwrap_or o.limit_monitor 4294967295

-- The monitor x becomes y by a check that begins with the fresh number.
pub record Begins (x y : MonitorCore) (number : ℕ) (b : Begin) : Type 0 where
  pub setting : y.setting ≡ x.setting
  pub stands : (xs : List MonitorItem) → MonitorStands x xs → MonitorStands y (began number ∷ xs)
  pub begin : (xs : List MonitorItem) → MonitorStands x xs → b ≡ begin_row x.setting (since xs) number

-- The monitor x becomes y by one more round trip, with the average afterwards.
pub record Measures (x y : MonitorCore) (sample average : ℕ) : Type 0 where
  pub setting : y.setting ≡ x.setting
  pub stands : (xs : List MonitorItem) → MonitorStands x xs → MonitorStands y (measured sample ∷ xs)
  pub mean_is : (xs : List MonitorItem) → MonitorStands x xs → average ≡ mean (samples x.setting.allow_streaming (measured sample ∷ since xs))

-- The monitor x becomes y by the end of the check that runs.
pub record Ends (x y : MonitorCore) (duration : ℕ) (result : CheckResult) (f : Finish) : Type 0 where
  pub setting : y.setting ≡ x.setting
  pub stands : (xs : List MonitorItem) → MonitorStands x xs → MonitorStands y (ended duration result ∷ xs)
  pub finish : (xs : List MonitorItem) → MonitorStands x xs → f ≡ finish_row x.setting (since xs) duration result false
