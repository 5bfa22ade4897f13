-- Worked examples of jobs, and of what a log tells, computed.
use Rattle.std.specs.Prelude.{◌≡◌, List, [], ◌∷◌, Some, None, refl, codes}
use Rattle.mdb_base.specs.declared.error.ErrorKind.TheVariants.{Network}
use Rattle.mdb_log.specs.declared.generation.PoolGeneration.TheVariants.{Normal, LoadBalanced}
use Rattle.mdb_log.specs.declared.checked.HelloResult.TheVariants.{Ok, Err}
use Rattle.mdb_log.specs.declared.step.Step.{Step}
use Rattle.mdb_log.specs.declared.step.Act.TheVariants.{Open, Request, Failed, Hello, ClusterTime, Stop}
use Rattle.mdb_log.specs.declared.step.FailedAt.TheVariants.{Post}
use Rattle.mdb_driver_rules.specs.Lines.{log_of, publications}
use Rattle.mdb_driver_rules.specs.Jobs.{job_after}
use Rattle.mdb_driver_rules.proofs.Worked.Scripts.{a, S, plain, balanced, at_moment, speaks, error}

-- the first connection failed for its service, and another one is pending
abbrev failed : List Step
failed = at_moment 0 (Open balanced) ∷ at_moment 0 (Request 1 a) ∷ at_moment 2 (Failed 0 1 (Post (Some S)) (error Network (codes "x"))) ∷ at_moment 3 (Request 2 a) ∷ []

job-failed : job_after (log_of failed) 0 1 ≡ None
job-failed = refl

job-pending : job_after (log_of failed) 0 2 ≡ Some (record { pool = 0; id = 2; address = a; generation = record { pool = 0; generation = LoadBalanced ((S, 1) ∷ []) } })
job-pending = refl

job-of-no-pool : job_after (log_of failed) 1 1 ≡ None
job-of-no-pool = refl

-- a normal pool was cleared once, and is ready again
abbrev cleared : List Step
cleared = at_moment 0 (Open (plain (a ∷ []))) ∷ at_moment 1 (Hello a 0 (Ok 5 (speaks 21))) ∷ at_moment 2 (Hello a 0 (Err (error Network (codes "x")))) ∷ at_moment 3 (Hello a 0 (Ok 5 (speaks 21))) ∷ at_moment 4 (Request 1 a) ∷ []

job-cleared : job_after (log_of cleared) 0 1 ≡ Some (record { pool = 0; id = 1; address = a; generation = record { pool = 0; generation = Normal 1 } })
job-cleared = refl

-- the opening, each hello, the time and the first stop publish
published-all : publications (log_of (at_moment 0 (Open (plain (a ∷ []))) ∷ at_moment 1 (Hello a 0 (Ok 5 (speaks 21))) ∷ at_moment 2 (ClusterTime (record { 0 = 7 })) ∷ at_moment 3 (Request 1 a) ∷ at_moment 4 Stop ∷ at_moment 5 Stop ∷ [])) ≡ 4
published-all = refl
