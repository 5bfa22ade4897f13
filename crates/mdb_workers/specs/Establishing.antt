-- Calls of an establisher, and how their answers are reported.
use Rattle.std.specs.Prelude.{◌≡◌, ℕ, Bool, true, false, List, [], ◌∷◌, ◌++◌, Option, Result, Ok, Err}
use Rattle.mdb_base.specs.Outside.{Rose}
use Rattle.mdb_base.specs.declared.object_id.ObjectId.{ObjectId}
use Rattle.mdb_log.specs.declared.job.Job.{Job}
use Rattle.mdb_log.specs.declared.step.Act.{Act}
use Rattle.mdb_log.specs.declared.step.Act.TheVariants.{Established as ReportMade, Failed as ReportFailed}
use Rattle.mdb_log.specs.declared.step.Established.{Established}
use Rattle.mdb_log.specs.declared.step.FailedAt.{FailedAt}
use Rattle.mdb_log.specs.declared.step.FailedAt.TheVariants.{Pre, Post}
use Rattle.mdb_workers.specs.declared.establishing.Call.{Call}
use Rattle.mdb_workers.specs.declared.establishing.EstablishError.{EstablishError}
use Rattle.mdb_workers.specs.declared.establishing.EstablishError.TheVariants.{Refused, OutOfMemory}

abbrev pub call : Job → Result Established EstablishError → Call
call job answer = record { job = job; answer = answer }

-- one call more, unless it was answered that there is no memory
abbrev pub calls_after : List Call → Job → Result Established EstablishError → List Call
calls_after calls job (Err OutOfMemory) = calls
calls_after calls job answer = calls ++ call job answer ∷ []

-- the count rose where the job was refused, and stays else
abbrev pub Counts : ℕ → ℕ → Result Established EstablishError → Type 0
Counts before now (Err (Refused after_hello service error)) = Rose before now
Counts before now answer = now ≡ before

-- the count rose where there was no memory, and stays else
abbrev pub CountsWants : ℕ → ℕ → Result Established EstablishError → Type 0
CountsWants before now (Err OutOfMemory) = Rose before now
CountsWants before now answer = now ≡ before

-- a refusal after the hello is one of the service that the server named
abbrev pub failed_at : Bool → Option ObjectId → FailedAt
failed_at true service = Post service
failed_at false service = Pre

-- The act reports this answer for the connection.
abbrev pub Reports : ℕ → ℕ → Result Established EstablishError → Act → Type 0
Reports pool id (Ok made) act = act ≡ ReportMade pool id made
Reports pool id (Err (Refused after_hello service error)) act = act ≡ ReportFailed pool id (failed_at after_hello service) error
Reports pool id (Err OutOfMemory) act = ⊥
