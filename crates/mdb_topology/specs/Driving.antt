-- What the lines of a script come to: the first opens a driver, and each later one is a step of it.
use Rattle.std.specs.Prelude.{◌≡◌, Bool, true, false, List, [], ◌∷◌, Option, Some, None}
use Rattle.mdb_base.specs.declared.options.Options.{Options}
use Rattle.mdb_base.specs.OptionRules.{broken_rule}
use Rattle.mdb_log.specs.declared.log.Entry.{Entry}
use Rattle.mdb_log.specs.declared.step.Step.{Step}
use Rattle.mdb_log.specs.declared.step.Act.{Act}
use Rattle.mdb_log.specs.declared.step.Act.TheVariants as act
use Rattle.mdb_topology.specs.declared.topology.TopologyCore.{TopologyCore}
use Rattle.mdb_topology.specs.declared.driver.Driver.{Driver}
use Rattle.mdb_driver_rules.specs.Acts.{is_driver_act}
use Rattle.mdb_topology.specs.Logging.{opening_step, IsDriverOf}

-- The first line opens a driver.
abbrev pub opens_seeds : Act → Bool
opens_seeds (act.Open o) = true
opens_seeds _ = false

-- the step may come after these steps
abbrev pub may_come : List Step → Step → Bool
may_come [] step = opens_seeds step.act
may_come (first ∷ steps) step = is_driver_act step.act

-- The step opens a driver with options that keep their rules.
pub record IsFirstStep (s : Step) : Type 0 where
  pub options : Options
  pub step_is : s ≡ opening_step options
  pub fits : broken_rule options ≡ None

-- the step may be taken after the log
abbrev pub IsTaken : List Entry → Step → Type 0
IsTaken [] s = IsFirstStep s
IsTaken (first ∷ log) s = is_driver_act s.act ≡ true

abbrev pub Holds : Option TopologyCore → List Entry → Type 0
Holds None log = log ≡ []
Holds (Some w) log = IsDriverOf w log

-- the log is that of the driver, once it is open
abbrev pub Stands : Driver → List Entry → Type 0
Stands d log = Holds d.core log
