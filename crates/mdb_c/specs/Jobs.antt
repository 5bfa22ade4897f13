-- What a worker is told of the connection that it is to establish.
use Rattle.std.specs.Prelude.{ℕ, List, Option, option_map}
use Rattle.mdb_base.specs.Spelling.{address}
use Rattle.mdb_log.specs.declared.job.Job.{Job}
use Rattle.mdb_log.specs.declared.log.Entry.{Entry}
use Rattle.mdb_driver_rules.specs.Jobs.{job_after}

-- the text of the address of a job, if there is one
abbrev pub address_of : Option Job → Option (List ℕ)
address_of job = option_map (λ j. address j.address) job

-- the text of the address to which the pending connection of a pool goes, by the numbers of the pool and its own
abbrev pub job_address : List Entry → ℕ → ℕ → Option (List ℕ)
job_address log p c = address_of (job_after log p c)
