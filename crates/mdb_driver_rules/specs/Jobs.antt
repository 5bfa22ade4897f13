-- The jobs of pending connections.
use Rattle.std.specs.Prelude.{ℕ, List, Option, Some, None}
use Rattle.mdb_base.specs.declared.options.Options.{Options}
use Rattle.mdb_log.specs.declared.job.Job.{Job}
use Rattle.mdb_log.specs.declared.log.Entry.{Entry}
use Rattle.mdb_log.specs.History.{Item, of_pool, history_of}
use Rattle.mdb_log.specs.Homes.{Home}
use Rattle.mdb_log.specs.Opening.{pool_options}
use Rattle.mdb_pool_rules.specs.Jobs.{job_in}
use Rattle.mdb_driver_rules.specs.Homes.{home_at}
use Rattle.mdb_driver_rules.specs.Lines.{options_of}

-- the job of a connection of the pool, and none where there is no pool
abbrev pub job_at : Options → List Item → ℕ → Option Home → Option Job
job_at o h c None = None
job_at o h c (Some x) = job_in x.number x.address (pool_options o) (of_pool x.number h) c

-- the job of a connection after a log, by the numbers of its pool and its own
abbrev pub job_after : List Entry → ℕ → ℕ → Option Job
job_after log p c = job_at (options_of log) (history_of log) c (home_at (history_of log) p)
