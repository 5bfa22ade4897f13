-- When a driver stands for a log, and which steps may come after one.
use Rattle.std.specs.Prelude.{ℕ, ◌≡◌, false, List, [], ◌∷◌, ◌++◌, All, None, ⊤}
use Rattle.mdb_base.specs.declared.options.Options.{Options}
use Rattle.mdb_base.specs.OptionRules.{broken_rule}
use Rattle.mdb_log.specs.declared.log.Entry.{Entry}
use Rattle.mdb_log.specs.declared.step.Step.{Step}
use Rattle.mdb_log.specs.declared.step.Act.TheVariants as act
use Rattle.mdb_log.specs.Acts.{IsDriverAct}
use Rattle.mdb_log.specs.History.{history_of}
use Rattle.mdb_log.specs.Opening.{is_opening, pool_options}
use Rattle.mdb_log.specs.LegalLog.{IsOrderly, IsLegal, OpensSeeds}
use Rattle.mdb_log.specs.Beside.{EntriesGrantFresh, KeepsLimits, GrantsAllFresh}
use Rattle.mdb_topology.specs.declared.topology.TopologyCore.{TopologyCore}
use Rattle.mdb_driver_rules.specs.Lines.{entry_after}
use Rattle.mdb_topology.specs.Standing.{StandsFor}

-- the step that opens a driver with these options
abbrev pub opening_step : Options → Step
opening_step o = record { moment = 0; act = act.Open o }

-- Some driver with these options stood for the log.
pub record Stood (o : Options) (log : List Entry) : Type 0 where
  pub driver : TopologyCore
  pub own : driver.options ≡ o
  pub stands : StandsFor driver (history_of log)

-- The entry is the answer to its step after the log, whichever seat made it. The step is one that a driver takes, and some driver stood for the log with the entry.
pub record IsDriven (o : Options) (log : List Entry) (e : Entry) : Type 0 where
  pub answers : e ≡ entry_after e.seat log e.step
  pub taken : IsDriverAct e.step.act
  pub stood : Stood o (log ++ e ∷ [])

-- so is each of the entries, after the log and those before it
abbrev pub AreDriven : Options → List Entry → List Entry → Type 0
AreDriven o log [] = ⊤
AreDriven o log (e ∷ es) = IsDriven o log e × AreDriven o (log ++ e ∷ []) es

-- The log is that of a driver which was opened by its first entry, and then took the steps of the others, each with its answer.
pub record IsDriverOf (w : TopologyCore) (log : List Entry) : Type 0 where
  pub fits : broken_rule w.options ≡ None
  pub seat : ℕ
  pub entries : List Entry
  pub logged : log ≡ entry_after seat [] (opening_step w.options) ∷ entries
  pub began : Stood w.options (entry_after seat [] (opening_step w.options) ∷ [])
  pub driven : AreDriven w.options (entry_after seat [] (opening_step w.options) ∷ []) entries
  pub opens : OpensSeeds w.options (history_of (entry_after seat [] (opening_step w.options) ∷ []))
  pub later : All (λ e. is_opening e.step.act ≡ false) entries
  pub orderly : IsOrderly (pool_options w.options) (history_of (entry_after seat [] (opening_step w.options) ∷ []))
  pub legal : IsLegal (pool_options w.options) (history_of (entry_after seat [] (opening_step w.options) ∷ [])) entries
  pub fresh : EntriesGrantFresh (pool_options w.options) (history_of (entry_after seat [] (opening_step w.options) ∷ [])) entries
  pub stands : StandsFor w (history_of log)

-- What a log keeps beside its legality: every pool was within its limits after every item, and no grant gave an available connection that was stale or idle.
pub record IsKept (log : List Entry) : Type 0 where
  pub within : KeepsLimits log
  pub fresh : GrantsAllFresh log
