-- The steps of checking out and in, and what is told of their replies.
use Rattle.std.specs.Prelude.{◌≡◌, ℕ, true, false, Bool, IsTrue, List, ⊤}
use Rattle.mdb_log.specs.declared.log.Entry.{Entry}
use Rattle.mdb_log.specs.declared.pooled.PooledConnection.{PooledConnection}
use Rattle.mdb_log.specs.declared.step.Act.{Act}
use Rattle.mdb_log.specs.declared.step.Act.TheVariants.{Collect, GiveUp, Return}
use Rattle.mdb_log.specs.declared.step.Step.{Step}
use Rattle.mdb_log.specs.declared.step.Use.{Use}
use Rattle.mdb_log.specs.declared.reply.Reply.{Reply}
use Rattle.mdb_log.specs.declared.reply.Reply.TheVariants.{Pooled, Establishing, Waiting, Ended, Refused}
use Rattle.mdb_log.specs.Driver.{is_in_time}
use Rattle.mdb_shared.specs.declared.checkout.Poll.{Poll}
use Rattle.mdb_shared.specs.declared.checkout.Poll.TheVariants.{Ready, NotYet, Ended as PollEnded, Refused as PollRefused}
use Rattle.mdb_shared.specs.declared.checkout.BackWhy.{BackWhy}
use Rattle.mdb_shared.specs.declared.checkout.BackWhy.TheVariants.{Refused as BackRefused, OutOfMemory}
use Rattle.mdb_turns.specs.Stepping.{SeatView, Stepped, OnlySaw}

-- Steps that name no moment are made at 0, and raised like all others.
abbrev pub collecting : ℕ → Step
collecting request = record { moment = 0; act = Collect request }

abbrev pub returning : PooledConnection → Use → Step
returning connection used = record { moment = 0; act = Return connection.party used }

abbrev pub giving_up : ℕ → Step
giving_up request = record { moment = 0; act = GiveUp request }

-- the reply that the poll tells
abbrev pub told_by : Poll → Reply
told_by (Ready connection) = Pooled connection.pool connection.id
told_by (NotYet reply) = reply
told_by (PollEnded end) = Ended end
told_by (PollRefused why) = Refused why

abbrev pub is_pending : Reply → Bool
is_pending Waiting = true
is_pending (Establishing pool id) = true
is_pending _ = false

-- A connection in hand names the request as its party. A request that isn't ready yet waits, or its connection is being established.
abbrev pub Names : ℕ → Poll → Type 0
Names request (Ready connection) = connection.party ≡ request
Names request (NotYet reply) = IsTrue (is_pending reply)
Names request _ = ⊤

-- a return that was refused was in time
abbrev pub is_back_in_time : Act → BackWhy → Bool
is_back_in_time act (BackRefused why) = is_in_time act (Refused why)
is_back_in_time act OutOfMemory = true

module _ {T : Type 0} (stands : T → List Entry → Type 0) where
  -- the return was refused, and that is its entry's reply; or there was no memory, and no entry
  abbrev pub ComesBack : SeatView → SeatView → Step → BackWhy → Type 0
  ComesBack s s' step (BackRefused why) = Stepped stands s s' step (Refused why)
  ComesBack s s' step OutOfMemory = OnlySaw s s'
