-- Checking a connection out: its request, and then questions how it stands until that is settled.
use Rattle.std.specs.Prelude.{◌≡◌, ℕ, IsTrue, List, [], ◌∷◌, ◌++◌, ◌⊎◌, Result, Ok, Err, Some, slice_get, ⊤}
use Rattle.mdb_base.specs.declared.address.ServerAddress.{ServerAddress}
use Rattle.mdb_log.specs.declared.log.Entry.{Entry}
use Rattle.mdb_log.specs.declared.pooled.PooledConnection.{PooledConnection}
use Rattle.mdb_log.specs.declared.step.Act.TheVariants.{Request, Collect, GiveUp}
use Rattle.mdb_log.specs.declared.reply.Refused.{Refused as WhyRefused}
use Rattle.mdb_log.specs.declared.reply.Refused.TheVariants.{UnknownRequest}
use Rattle.mdb_log.specs.declared.reply.Reply.TheVariants.{Pooled, Done, Ended as HasEnded, Refused as IsRefused}
use Rattle.mdb_shared.specs.Checkout.{is_pending}
use Rattle.mdb_turns.specs.Stepping.{SeatView}
use Rattle.mdb_shared.specs.Seats.{Each, HasCore}
use Rattle.mdb_handles.specs.declared.asking.CheckOutError.{CheckOutError}
use Rattle.mdb_handles.specs.declared.asking.CheckOutError.TheVariants.{Ended, Refused, OutOfTime, GaveUp, OutOfMemory}
use Rattle.mdb_workers.specs.Making.{Made}

-- the answer is what this entry tells of the request
abbrev pub Tells : ℕ → Entry → Result PooledConnection CheckOutError → Type 0
Tells request e (Ok connection) = (e.reply ≡ Pooled connection.pool connection.id) × (connection.party ≡ request)
Tells request e (Err (Ended end)) = e.reply ≡ HasEnded end
Tells request e (Err (Refused why)) = e.reply ≡ IsRefused why
Tells request e (Err OutOfTime) = (e.step.act ≡ GiveUp request) × (e.reply ≡ Done)
Tells request e (Err GaveUp) = ⊥
Tells request e (Err OutOfMemory) = ⊥

-- the request waits, or its connection is being established
abbrev pub IsOpen : Entry → Type 0
IsOpen e = IsTrue (is_pending e.reply)

-- A question how the request stands; or, where the caller's time may be over, the request is given up.
abbrev pub Asks : Type 0 → ℕ → Entry → Type 0
Asks MayEnd request e = (e.step.act ≡ Collect request) ⊎ (MayEnd × (e.step.act ≡ GiveUp request))

-- questions how the request stands
abbrev pub AskFor : Type 0 → ℕ → List Entry → Type 0
AskFor MayEnd request es = Each (Asks MayEnd request) es

-- the request at the address, and then questions how it stands
abbrev pub Requests : Type 0 → ℕ → ServerAddress → List Entry → Type 0
Requests MayEnd request address [] = ⊤
Requests MayEnd request address (e ∷ es) = (e.step.act ≡ Request request address) × AskFor MayEnd request es

-- an entry of the log gives the request up
abbrev pub IsGivenUp : ℕ → List Entry → Type 0
IsGivenUp request log = (k : ℕ) × (e : Entry) × (slice_get log k ≡ Some e) × (e.step.act ≡ GiveUp request) × (e.reply ≡ Done)

-- none came too late, or one: it was refused, since the request isn't known any more
abbrev pub IsTooLate : List Entry → Type 0
IsTooLate [] = ⊤
IsTooLate (e ∷ []) = e.reply ≡ IsRefused UnknownRequest
IsTooLate (e ∷ f ∷ es) = ⊥

module _ {T : Type 0} (stands : T → List Entry → Type 0) where
  -- the log that the seat has seen tells that another seat gave the request up
  abbrev pub SeesGivenUp : ℕ → SeatView → Type 0
  SeesGivenUp request s = IsGivenUp request s.seen × HasCore stands s

  -- why a question or a give-up that was refused tells no more: its reason, or that the request isn't known since another seat gave it up
  abbrev pub TellsWhy : ℕ → WhyRefused → SeatView → CheckOutError → Type 0
  TellsWhy request why s (Refused told) = told ≡ why
  TellsWhy request why s GaveUp = (why ≡ UnknownRequest) × SeesGivenUp request s
  TellsWhy request why s _ = ⊥

  -- The entries are of this kind. All but the last were answered that the request is open, and the answer is what the last one tells. After want of
  -- memory all were answered so. Where another seat gave the request up all were, but for one that may have come too late.
  abbrev pub Settled : (List Entry → Type 0) → ℕ → SeatView → SeatView → Result PooledConnection CheckOutError → Type 0
  Settled Kind request s s' (Err OutOfMemory) = (es : List Entry) × Made stands s s' es × Kind es × Each IsOpen es
  Settled Kind request s s' (Err GaveUp) = (es late : List Entry) × Made stands s s' (es ++ late) × Kind (es ++ late) × Each IsOpen es × IsTooLate late × SeesGivenUp request s'
  Settled Kind request s s' answer = (es : List Entry) × (e : Entry) × Made stands s s' (es ++ e ∷ []) × Kind (es ++ e ∷ []) × Each IsOpen es × Tells request e answer

  -- questions alone, for a request that was made
  abbrev pub Collected : Type 0 → ℕ → SeatView → SeatView → Result PooledConnection CheckOutError → Type 0
  Collected MayEnd request = Settled (AskFor MayEnd request) request

  -- the request is given up, and the answer is what that tells, or that another seat gave it up before
  abbrev pub LeftBy : ℕ → SeatView → SeatView → Result PooledConnection CheckOutError → Type 0
  LeftBy request s s' (Err OutOfMemory) = Made stands s s' []
  LeftBy request s s' (Err GaveUp) = (e : Entry) × Made stands s s' (e ∷ []) × (e.step.act ≡ GiveUp request) × (e.reply ≡ IsRefused UnknownRequest) × SeesGivenUp request s'
  LeftBy request s s' answer = (e : Entry) × Made stands s s' (e ∷ []) × (e.step.act ≡ GiveUp request) × Tells request e answer

  abbrev pub SettledFrom : Type 0 → ℕ → ServerAddress → SeatView → SeatView → Result PooledConnection CheckOutError → Type 0
  SettledFrom MayEnd request address = Settled (Requests MayEnd request address) request

  -- without a limit: the caller never gives up
  abbrev pub CheckedOut : ℕ → ServerAddress → SeatView → SeatView → Result PooledConnection CheckOutError → Type 0
  CheckedOut = SettledFrom ⊥

  -- with a limit: the last entry may give the request up
  abbrev pub CheckedOutWithin : ℕ → ServerAddress → SeatView → SeatView → Result PooledConnection CheckOutError → Type 0
  CheckedOutWithin = SettledFrom ⊤
