-- Filling a pool by warm requests.
use Rattle.std.specs.Prelude.{◌≡◌, ℕ, ◌+◌, ◌<◌, ◌≤◌, Bool, true, false, not, IsTrue, List, [], ◌∷◌, length, Option, Some, None, ⊤}
use Rattle.mdb_base.specs.declared.address.ServerAddress.{ServerAddress}
use Rattle.mdb_log.specs.declared.log.Entry.{Entry}
use Rattle.mdb_log.specs.declared.step.Act.TheVariants.{Warm}
use Rattle.mdb_log.specs.declared.reply.Reply.{Reply}
use Rattle.mdb_log.specs.declared.reply.Reply.TheVariants.{Establishing}
use Rattle.mdb_turns.specs.Stepping.{SeatView}
use Rattle.mdb_shared.specs.Seats.{Each}
use Rattle.mdb_workers.specs.declared.filling.Fill.{Fill}
use Rattle.mdb_workers.specs.Making.{Made}

abbrev pub is_establishing : Reply → Bool
is_establishing (Establishing pool id) = true
is_establishing _ = false

-- the reply that names these numbers
abbrev pub told_reply : Option (ℕ × ℕ) → Option Reply
told_reply (Some (pool, id)) = Some (Establishing pool id)
told_reply None = None

-- a connection was made for the entry's request
abbrev pub GoesOn : Entry → Type 0
GoesOn e = IsTrue (is_establishing e.reply)

-- warm requests at the address, numbered from this number
abbrev pub AreWarm : ServerAddress → ℕ → List Entry → Type 0
AreWarm address number [] = ⊤
AreWarm address number (e ∷ es) = (e.step.act ≡ Warm number address) × AreWarm address (number + 1) es

-- the reply of the last entry, and for each entry before it a connection was made
abbrev pub EndsIn : Option Reply → List Entry → Type 0
EndsIn last [] = last ≡ None
EndsIn last (e ∷ []) = last ≡ Some e.reply
EndsIn last (e ∷ f ∷ es) = GoesOn e × EndsIn last (f ∷ es)

-- the last reply is no connection that was made
abbrev pub is_stopped : Option Reply → Bool
is_stopped (Some reply) = not (is_establishing reply)
is_stopped None = false

module _ {T : Type 0} (stands : T → List Entry → Type 0) where
  -- One warm request after the other until one isn't answered by a connection that was made, or the budget is spent.
  abbrev pub Filled : ServerAddress → ℕ → ℕ → SeatView → SeatView → Fill → Type 0
  Filled address first budget s s' fill =
      (es : List Entry) × Made stands s s' es × AreWarm address first es × EndsIn fill.last es
      × (length es ≡ fill.made) × (fill.made ≤ budget) × (fill.made < budget → IsTrue (is_stopped fill.last))

  -- There was no memory for one of the warm requests: those before it stand in the log.
  abbrev pub FilledInPart : ServerAddress → ℕ → ℕ → SeatView → SeatView → Type 0
  FilledInPart address first budget s s' = (es : List Entry) × Made stands s s' es × AreWarm address first es × Each GoesOn es × (length es < budget)
