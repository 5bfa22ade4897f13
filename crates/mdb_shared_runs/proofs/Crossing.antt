-- What a player takes to its thread, and what the threads share.
use base.Fml.{Lft}
use mir.Syntax.{Sym, Lifetime}
use denote.Builtin.{u32}
use denote.RattleType.{RattleType}
use denote.Ref.{ShrRef}
use denote.Slice.{ShrSlice}
use denote.Param.Send.{IsSend, IsSync, struct_send, struct_sync, recorded_send, recorded_sync, shr_sync, shr_slice_sync, sendable}
use denote.Struct.Declared.{shape, field}
use denote.Struct.Tuple.{TupleAt, type_at}
use Rattle.std.proofs.Common.{[], ◌∷◌}
use Rattle.std.proofs.Crossing.{crosses}
use Rattle.std.proofs.alloc.Global.TheSendSync.{the_sync as heap}
use Rattle.std.specs.contracts.alloc.Global as Heap
use Rattle.mdb_base.proofs.out_of_memory.OutOfMemory.TheSendSync.{the_field_send as memory}
use Rattle.mdb_log.specs.declared.driver.Core as Core
use Rattle.mdb_shared.specs.contracts.driver.SharedDriver as Driver
use Rattle.mdb_shared.proofs.Crossing.{seat_crosses, driver_lends}
use Rattle.mdb_shared_runs.specs.contracts.player.Player as Player
use Rattle.mdb_shared_runs.specs.contracts.player.Played as Played
use Rattle.mdb_log.specs.contracts.step.Step as Step
use Rattle.mdb_shared_runs.proofs.Lending.{step}

number : IsSend u32
number = search sendable

number_lends : IsSync u32
number_lends = search sendable

pub steps : IsSync Step.the_row
steps = search (step, recorded_sync)

module _ (C : RattleType) (g : Core.Ghosts C.Denot) where
  pub part_crosses : IsSend C → IsSend (Player.the_field C g).row
  part_crosses s = struct_send (shape (Player.the_type C g)) (number, (seat_crosses C g s, tt))

  -- a seat beside what became of its part
  pub played_crosses : IsSend C → IsSend (Played.the_row C g)
  played_crosses s = recorded_send (Played.the_field C g).row _ _ (Played.the_type C g).to_one (struct_send (shape (Played.the_type C g)) (seat_crosses C g s, (search (memory, crosses, sendable) depth 20, tt)))

  -- the closure that plays a player has the count of players, the steps, the gate, the runtime, the allocator and the driver
  pub closure_lends : (ν : Sym) (R G S : RattleType) (ℓ ℓ₁ ℓ₂ ℓ₃ : Lifetime) (κ κ₁ κ₂ κ₃ : Lft) → IsSend C → IsSync R → IsSync G → IsSync S
      → IsSync (TupleAt ν (u32 ∷ ShrSlice ℓ₃ κ₃ S ∷ ShrRef ℓ₁ κ₁ G ∷ ShrRef ℓ κ R ∷ Heap.the_row ∷ ShrRef ℓ₂ κ₂ (Driver.the_row C g) ∷ []))
  closure_lends ν R G S ℓ ℓ₁ ℓ₂ ℓ₃ κ κ₁ κ₂ κ₃ c r a s =
      let T = type_at ν (u32 ∷ ShrSlice ℓ₃ κ₃ S ∷ ShrRef ℓ₁ κ₁ G ∷ ShrRef ℓ κ R ∷ Heap.the_row ∷ ShrRef ℓ₂ κ₂ (Driver.the_row C g) ∷ []) in
      recorded_sync (field T).row _ _ T.to_one
      (struct_sync (shape T) (number_lends, (shr_slice_sync ℓ₃ κ₃ S s, (shr_sync ℓ₁ κ₁ G a, (shr_sync ℓ κ R r, (heap, (shr_sync ℓ₂ κ₂ (Driver.the_row C g) (driver_lends C g c), tt)))))))

-- for `search`: where the core may cross, players do
pub ruleset players = (part_crosses, crosses, sendable)
