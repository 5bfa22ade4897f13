-- What a step of a pool that stands alone comes to.
use Rattle.std.specs.Prelude.{◌≡◌, ℕ, List, [], length, map, if◌then◌else◌, ◌==◌, Option, Some, None, pos}
use Rattle.mdb_base.specs.declared.error.Error.{Error}
use Rattle.mdb_base.specs.declared.error.ErrorKind.{ErrorKind}
use Rattle.mdb_base.specs.declared.error.ErrorKind.TheVariants as kind
use Rattle.mdb_base.specs.declared.object_id.ObjectId.{ObjectId}
use Rattle.mdb_events.specs.declared.fact.Fact.{Fact}
use Rattle.mdb_log.specs.declared.reply.Reply.{Reply}
use Rattle.mdb_log.specs.declared.step.Established.{Established}
use Rattle.mdb_log.specs.declared.step.FailedAt.{FailedAt}
use Rattle.mdb_log.specs.declared.step.FailedAt.TheVariants.{Pre, Post}
use Rattle.mdb_pool_session.specs.declared.pool_act.PoolAct.{PoolAct}
use Rattle.mdb_pool_session.specs.PoolLogs.{PoolLog, answer_after, logged, step_of}
use Rattle.mdb_session.specs.Facts.{filled}
use Rattle.mdb_session.specs.Numbers.{reply_numbers}
use Rattle.mdb_session.specs.PoolFacts.{pool_fact_numbers}
use Rattle.mdb_session.specs.declared.at.At.{At}
use Rattle.mdb_session.specs.declared.told.Told.{Told}

-- An answer is told: its reply, how many facts it has, and where they fit their numbers, in place of those before.
pub record TellsAnswer (says : Reply) (made : List Fact) (before after : Told) : Type 0 where
  pub reply : after.reply ≡ reply_numbers says
  pub count : after.count ≡ length made
  pub facts : after.facts ≡ filled (map pool_fact_numbers made) before.facts

-- The log that a slot held got the entry of what was done then, by the seat, and this is told of it.
abbrev pub IsPoolStepped : Option PoolLog → Option PoolLog → At → PoolAct → Told → Told → Type 0
IsPoolStepped old new at act before after =
    (l : PoolLog) × (old ≡ Some l) × (new ≡ Some (logged at.seat l (step_of l at.moment act))) × TellsAnswer (answer_after l (step_of l at.moment act)).reply (answer_after l (step_of l at.moment act)).facts before after

-- an error of this kind that says nothing else
abbrev pub error_of : ErrorKind → Error
error_of kind = record { kind = kind; labels = []; topology_version = None; message = [] }

-- why a pool is cleared, counted from 0: a network error, a network timeout, or any other error
abbrev pub cause_of : ℕ → Option ErrorKind
cause_of n = if n == 0 then Some kind.Network else if n == 1 then Some kind.NetworkTimeout else if n == 2 then Some kind.Other else None

-- a connection that was established to this service, if there is one; its wire version and its number at the server stay with the embedder
abbrev pub established_to : Option ObjectId → Established
established_to service = record { wire = pos 0; service_id = service; server_id = None }

-- a connection that failed, after the server named a service, if it named one
abbrev pub failed_at : Option ObjectId → FailedAt
failed_at None = Pre
failed_at (Some service) = Post (Some service)
