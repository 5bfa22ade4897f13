-- What is tried again until there is memory.
use Rattle.std.specs.Prelude.{◌≡◌, ℕ, Bool, true, false, List, [], ◌∷◌, Option, Some, None}
use Rattle.mdb_base.specs.declared.error.Error.{Error}
use Rattle.mdb_log.specs.declared.log.Entry.{Entry}
use Rattle.mdb_log.specs.declared.step.Act.{Act}
use Rattle.mdb_log.specs.declared.step.FailedAt.TheVariants.{Pre}
use Rattle.mdb_log.specs.declared.step.Step.{Step}
use Rattle.mdb_turns.specs.Stepping.{SeatView}
use Rattle.mdb_log.specs.declared.pooled.PooledConnection.{PooledConnection}
use Rattle.mdb_log.specs.declared.step.Act.TheVariants.{Failed, Return}
use Rattle.mdb_log.specs.declared.step.Use.{Use}
use Rattle.mdb_log.specs.declared.reply.Reply.TheVariants.{Done, Refused as IsRefused}
use Rattle.mdb_shared.specs.declared.checkout.BackWhy.{BackWhy}
use Rattle.mdb_shared.specs.declared.checkout.BackWhy.TheVariants.{Refused as BackRefused, OutOfMemory}
use Rattle.mdb_workers.specs.declared.persisting.Tried.{Tried}
use Rattle.mdb_workers.specs.declared.persisting.Tried.TheVariants.{Back, Refused, Again}
use Rattle.mdb_workers.specs.Making.{Made, OneMore}
use Rattle.mdb_workers.specs.Working.{IsWant, ReportsLeft}

-- The act that reports what was left: that of the step, or else that the connection failed before the hello for lack of memory.
abbrev pub LeftAct : ℕ → ℕ → Option Step → Act → Type 0
LeftAct pool id (Some step) act = act ≡ step.act
LeftAct pool id None act = (error : Error) × IsWant error × (act ≡ Failed pool id Pre error)

-- what is tried again, and what not
abbrev pub tried_by : PooledConnection → BackWhy → Tried
tried_by connection (BackRefused why) = Refused record { connection = connection; why = why }
tried_by connection OutOfMemory = Again connection

module _ {T : Type 0} (stands : T → List Entry → Type 0) where
  -- one entry with this act, or there was no memory for it
  abbrev pub IsTry : SeatView → SeatView → Act → Bool → Type 0
  IsTry s s' act true = (e : Entry) × (e.step.act ≡ act) × Made stands s s' (e ∷ [])
  IsTry s s' act false = Made stands s s' []

  -- one entry reports what was left, or there was no memory for it
  abbrev pub ReportsLeftIf : ℕ → ℕ → Option Step → SeatView → SeatView → Bool → Type 0
  ReportsLeftIf pool id step s s' true = (e : Entry) × ReportsLeft pool id step e × Made stands s s' (e ∷ [])
  ReportsLeftIf pool id step s s' false = Made stands s s' []

  -- The connection came back; or the return was refused, or there was no memory for it, and the connection is still there.
  abbrev pub TriedBack : SeatView → SeatView → PooledConnection → Use → Tried → Type 0
  TriedBack s s' connection used Back = OneMore stands s s' (Return connection.party used) Done
  TriedBack s s' connection used (Refused back) = (back.connection ≡ connection) × OneMore stands s s' (Return connection.party used) (IsRefused back.why)
  TriedBack s s' connection used (Again held) = (held ≡ connection) × Made stands s s' []
