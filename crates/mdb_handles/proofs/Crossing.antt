-- Handles may cross threads, and the seats that are lent may be shared, where the core may cross and the runtime may be shared.
use denote.RattleType.{RattleType}
use denote.Ref.{NamedLft}
use denote.Param.Send.{IsSend, IsSync, struct_send, struct_sync, recorded_send, recorded_sync, view_send, shr_send, sendable}
use denote.Struct.Declared.{shape}
use Rattle.std.proofs.Crossing.{Vec-send}
use Rattle.std.proofs.alloc.Global.TheSendSync.{the_field_send as heap_crosses}
use Rattle.std.proofs.sync.Condvar.TheSendSync.{the_field_sync as bell}
use Rattle.std.proofs.sync.Mutex.TheSendSync.{the_sync as lock}
use Rattle.std.specs.contracts.option.Option as Option
use Rattle.mdb_log.specs.declared.driver.Core as Core
use Rattle.mdb_shared.specs.contracts.driver.SharedDriver as Driver
use Rattle.mdb_shared.proofs.Crossing.{seat_crosses, driver_lends}
use Rattle.mdb_workers.specs.contracts.access.Access as Access
use Rattle.mdb_handles.specs.contracts.handle.Handle as Handle
use Rattle.mdb_handles.specs.contracts.handle.Handle.TheInside as Inside
use Rattle.mdb_handles.specs.contracts.spare_seats.SpareSeats as Spare
use Rattle.mdb_handles.proofs.numbers.PartyNumbers.TheSendSync.{the_send as numbers}

option_crosses : (T : RattleType) → IsSend T → IsSend (Option.the_row T)
option_crosses T s = search sendable depth 12

module _ (ℓ : NamedLft) (C R : RattleType) (g : Core.Ghosts C.Denot) where
  access_crosses : IsSend C → IsSync R → IsSend (Access.the_field ℓ C R g).row
  access_crosses c r = struct_send (shape (Access.the_type ℓ C R g)) (shr_send _ _ (Driver.the_row C g) (driver_lends C g c), (shr_send _ _ R r, (heap_crosses, tt)))

  pub handle_crosses : IsSend C → IsSync R → IsSend (Handle.the_row ℓ C R g)
  handle_crosses c r = view_send (Inside.the_row ℓ C R g) _ _ _ _ (recorded_send (Inside.the_field ℓ C R g).row _ _ (Inside.the_type ℓ C R g).to_one (struct_send (shape (Inside.the_type ℓ C R g)) (access_crosses c r, (seat_crosses C g c, (numbers, tt)))))

  pub spare_lends : IsSend C → IsSync R → IsSync (Spare.the_row ℓ C R g)
  spare_lends c r =
      let place : IsSend (Option.the_row (Handle.the_row ℓ C R g)) = option_crosses (Handle.the_row ℓ C R g) (handle_crosses c r) in
      recorded_sync (Spare.the_field ℓ C R g).row _ _ (Spare.the_type ℓ C R g).to_one (struct_sync (shape (Spare.the_type ℓ C R g)) (lock _ (Vec-send _ place), (bell, tt)))
