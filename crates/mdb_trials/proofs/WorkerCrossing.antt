-- What a thread may take with it that works from a seat.
use base.Fml.{Lft}
use mir.Syntax.{Sym, Lifetime}
use denote.RattleType.{RattleType}
use denote.Ref.{ShrRef}
use denote.Param.Send.{IsSend, IsSync, struct_send, recorded_send, shr_send}
use denote.Struct.Declared.{shape, field}
use denote.Struct.Tuple.{TupleAt, type_at}
use Rattle.std.proofs.Common.{[], ◌∷◌}
use Rattle.std.proofs.alloc.Global.TheSendSync.{the_send as heap_crosses}
use Rattle.std.proofs.sync.atomic.AtomicU64.TheSendSync.{the_sync as counter}
use Rattle.std.specs.contracts.alloc.Global as Heap
use Rattle.std.specs.contracts.sync.atomic.AtomicU64 as Counter
use Rattle.mdb_log.specs.declared.driver.Core as Core
use Rattle.mdb_shared.specs.contracts.driver.SharedDriver as Driver
use Rattle.mdb_shared.specs.contracts.seat.Seat as Seat
use Rattle.mdb_shared.proofs.Crossing.{seat_crosses, driver_lends}

module _ (C : RattleType) (g : Core.Ghosts C.Denot) where
  -- the closure captured the driver, the runtime, the allocator, the seat and a flag
  pub worker_crosses : (ν : Sym) (R : RattleType) (ℓ ℓ' ℓ'' : Lifetime) (κ κ' κ'' : Lft) → IsSend C → IsSync R
      → IsSend (TupleAt ν (ShrRef ℓ κ (Driver.the_row C g) ∷ ShrRef ℓ' κ' R ∷ Heap.the_row ∷ Seat.the_row C g ∷ ShrRef ℓ'' κ'' Counter.the_row ∷ []))
  worker_crosses ν R ℓ ℓ' ℓ'' κ κ' κ'' s r =
      let T = type_at ν (ShrRef ℓ κ (Driver.the_row C g) ∷ ShrRef ℓ' κ' R ∷ Heap.the_row ∷ Seat.the_row C g ∷ ShrRef ℓ'' κ'' Counter.the_row ∷ []) in
      recorded_send (field T).row _ _ T.to_one (struct_send (shape T) (shr_send ℓ κ (Driver.the_row C g) (driver_lends C g s), (shr_send ℓ' κ' R r, (heap_crosses, (seat_crosses C g s, (shr_send ℓ'' κ'' Counter.the_row counter, tt))))))
