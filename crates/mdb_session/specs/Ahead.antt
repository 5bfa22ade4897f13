-- What a log tells of checks of servers beforehand.
use Rattle.std.specs.Prelude.{ℕ, ◌-◌, ◌^◌, min, List, Option, Some, None}
use Rattle.mdb_base.specs.declared.address.ServerAddress.{ServerAddress}
use Rattle.mdb_base.specs.declared.options.Options.{Options}
use Rattle.mdb_log.specs.declared.checked.BeatenResult.{BeatenResult}
use Rattle.mdb_log.specs.declared.log.Entry.{Entry}
use Rattle.mdb_log.specs.declared.step.Act.{Act}
use Rattle.mdb_log.specs.declared.step.Act.TheVariants.{Beaten}
use Rattle.mdb_log.specs.History.{Item, history_of, open_pool}
use Rattle.mdb_monitor.specs.declared.check.Begin.{Begin}
use Rattle.mdb_monitor.specs.declared.check.Next.{Next}
use Rattle.mdb_monitor.specs.Beginnings.{begin_row}
use Rattle.mdb_driver_rules.specs.Ahead.{next_after}
use Rattle.mdb_driver_rules.specs.Lines.{options_of}
use Rattle.mdb_driver_rules.specs.Monitors.{fresh, recent, setting}

-- The number of the next connection of a monitor. A check that makes a connection past 32 bits is refused, and the greatest number stands for its.
abbrev pub next_number : List Item → ℕ
next_number h = min (fresh h) (2 ^ 32 - 1)

-- what the check does that begins now, by the pool that is open at the address
abbrev pub check_of : Options → List Item → ServerAddress → Option ℕ → Option Begin
check_of o h a None = None
check_of o h a (Some p) = Some (begin_row (setting o a) (recent h p) (next_number h))

-- what the check of the server does that begins after the log, if a pool is open there
abbrev pub check_after : List Entry → ServerAddress → Option Begin
check_after log a = check_of (options_of log) (history_of log) a (open_pool (history_of log) a)

-- what follows the check of the server that ends so after the log, if a pool is open there
abbrev pub following : List Entry → ServerAddress → BeatenResult → Option Next
following log a came = next_after (options_of log) (history_of log) a came

-- what follows the check that the act ends, if it ends one
abbrev pub next_in : List Entry → Act → Option Next
next_in log (Beaten a p duration came) = following log a came
next_in log _ = None
