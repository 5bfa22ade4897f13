-- What calls add: entries of the seat, one behind the other, each behind all that the seat had seen.
use Rattle.std.specs.Prelude.{◌≡◌, ℕ, List, [], ◌∷◌, ◌++◌, max, IsTrue}
use Rattle.mdb_log.specs.declared.log.Entry.{Entry}
use Rattle.mdb_log.specs.declared.step.Act.{Act}
use Rattle.mdb_log.specs.declared.reply.Reply.{Reply}
use Rattle.mdb_log.specs.Driver.{StartsWith, is_in_time}
use Rattle.mdb_log.specs.declared.reply.Reply.TheVariants.{Refused}
use Rattle.mdb_shared.specs.declared.checkout.BackWhy.{BackWhy}
use Rattle.mdb_shared.specs.declared.checkout.BackWhy.TheVariants.{Refused as BackRefused, OutOfMemory}
use Rattle.mdb_turns.specs.Stepping.{SeatView, last_in}
use Rattle.mdb_shared.specs.Seats.{FoundBusy}

module _ {T : Type 0} (stands : T → List Entry → Type 0) where
  -- The entry stands right behind this log, with this seat's number. Its step was made at this moment, or at that of the last accepted step where that is
  -- later, so it wasn't refused because of its time. A core stands for the log with the entry.
  abbrev pub IsBehind : ℕ → ℕ → List Entry → Entry → Type 0
  IsBehind moment n log e = (e.seat ≡ n) × (e.step.moment ≡ max moment (last_in log)) × IsTrue (is_in_time e.step.act e.reply) × ((core : T) × stands core (log ++ e ∷ []))

  -- The entries stand one behind the other, from what was seen to what is seen now. Others' entries may stand between them.
  abbrev pub InOrder : ℕ → ℕ → List Entry → List Entry → List Entry → Type 0
  InOrder moment n seen [] now = StartsWith now seen
  InOrder moment n seen (e ∷ es) now = (log : List Entry) × StartsWith log seen × IsBehind moment n log e × InOrder moment n (log ++ e ∷ []) es now

  -- The seat has these entries more and no others, each made at this moment, raised to the last one. Its failed tries found other seats' turns.
  abbrev pub MadeAt : ℕ → SeatView → SeatView → List Entry → Type 0
  MadeAt moment s s' es = (s'.driver ≡ s.driver) × (s'.number ≡ s.number) × InOrder moment s.number s.seen es s'.seen × (s'.mine ≡ s.mine ++ es) × FoundBusy s s'

  -- The entries stand one behind the other, each made at a moment of this kind, raised to the last one.
  abbrev pub InOrderWhen : (ℕ → Type 0) → ℕ → List Entry → List Entry → List Entry → Type 0
  InOrderWhen When n seen [] now = StartsWith now seen
  InOrderWhen When n seen (e ∷ es) now =
      (log : List Entry) × StartsWith log seen × ((moment : ℕ) × When moment × IsBehind moment n log e) × InOrderWhen When n (log ++ e ∷ []) es now

  -- The seat has these entries more and no others, each made at a moment of this kind, raised to the last one.
  abbrev pub MadeWhen : (ℕ → Type 0) → SeatView → SeatView → List Entry → Type 0
  MadeWhen When s s' es = (s'.driver ≡ s.driver) × (s'.number ≡ s.number) × InOrderWhen When s.number s.seen es s'.seen × (s'.mine ≡ s.mine ++ es) × FoundBusy s s'

  -- Calls that are given no moment step at 0, raised to the last moment.
  abbrev pub Made : SeatView → SeatView → List Entry → Type 0
  Made = MadeAt 0

  -- One entry more, with this act and this reply.
  abbrev pub OneMoreAt : ℕ → SeatView → SeatView → Act → Reply → Type 0
  OneMoreAt moment s s' act reply = (e : Entry) × (e.step.act ≡ act) × (e.reply ≡ reply) × MadeAt moment s s' (e ∷ [])

  abbrev pub OneMore : SeatView → SeatView → Act → Reply → Type 0
  OneMore = OneMoreAt 0

  -- The return was refused, and that is its entry's reply; or there was no memory, and no entry.
  abbrev pub StaysOut : SeatView → SeatView → Act → BackWhy → Type 0
  StaysOut s s' act (BackRefused why) = OneMore s s' act (Refused why)
  StaysOut s s' act OutOfMemory = Made s s' []
