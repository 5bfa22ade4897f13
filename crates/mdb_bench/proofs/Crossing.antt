-- What a thread may take with it, and what the threads share.
use base.Fml.{Lft}
use mir.Syntax.{Sym, Lifetime}
use denote.RattleType.{RattleType}
use denote.Ref.{ShrRef}
use denote.Param.Send.{IsSend, IsSync, struct_send, struct_sync, recorded_send, recorded_sync, shr_sync, sendable}
use denote.Struct.Declared.{shape, field}
use denote.Struct.Tuple.{TupleAt, type_at}
use Rattle.std.proofs.Common.{[], ◌∷◌}
use Rattle.std.proofs.Crossing.{crosses}
use Rattle.std.proofs.alloc.Global.TheSendSync.{the_sync as heap}
use Rattle.std.specs.contracts.alloc.Global as Heap
use Rattle.mdb_log.specs.declared.driver.Core as Core
use Rattle.mdb_shared.specs.contracts.driver.SharedDriver as Driver
use Rattle.mdb_shared.proofs.Crossing.{seat_crosses, driver_lends}
use Rattle.mdb_bench.specs.contracts.hall.Hall as Hall
use Rattle.mdb_bench.specs.contracts.roles.Played as Played
use Rattle.mdb_bench.proofs.errors.BenchError.TheSendSync.{the_field_send as error}
use Rattle.mdb_bench.proofs.hall.Hall.TheSendSync.{the_sync as hall}

module _ (C : RattleType) (g : Core.Ghosts C.Denot) where
  pub played_crosses : IsSend C → IsSend (Played.the_row C g)
  played_crosses s = recorded_send (Played.the_field C g).row _ _ (Played.the_type C g).to_one (struct_send (shape (Played.the_type C g)) (seat_crosses C g s, (search (error, crosses, sendable) depth 20, tt)))

  -- the closure that plays a part captured the driver, the runtime, the allocator and the hall
  pub closure_lends : (ν : Sym) (R : RattleType) (ℓ ℓ' ℓ'' : Lifetime) (κ κ' κ'' : Lft) → IsSend C → IsSync R
      → IsSync (TupleAt ν (ShrRef ℓ κ (Driver.the_row C g) ∷ ShrRef ℓ' κ' R ∷ Heap.the_row ∷ ShrRef ℓ'' κ'' Hall.the_row ∷ []))
  closure_lends ν R ℓ ℓ' ℓ'' κ κ' κ'' s r =
      let T = type_at ν (ShrRef ℓ κ (Driver.the_row C g) ∷ ShrRef ℓ' κ' R ∷ Heap.the_row ∷ ShrRef ℓ'' κ'' Hall.the_row ∷ []) in
      recorded_sync (field T).row _ _ T.to_one (struct_sync (shape T) (shr_sync ℓ κ (Driver.the_row C g) (driver_lends C g s), (shr_sync ℓ' κ' R r, (heap, (shr_sync ℓ'' κ'' Hall.the_row hall, tt)))))
