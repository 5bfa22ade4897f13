-- Journals, seats and drivers may cross threads. Each is shown by its parts, since one `search` over all of them meets its limit.
use denote.Builtin.{u32, u64}
use denote.RattleType.{RattleType}
use denote.Param.Send.{IsSend, IsSync, recorded_send, struct_send, view_send, recorded_sync, struct_sync, view_sync, array_sync, sendable}
use denote.Struct.Declared.{shape}
use Rattle.std.proofs.Crossing.{crosses}
use Rattle.std.proofs.sync.atomic.AtomicU64.TheSendSync.{the_sync as counter}
use Rattle.atomic_table.proofs.shared.Seat.TheSendSync as place
use Rattle.atomic_table.proofs.owned.Table.TheSendSync as table
use Rattle.mdb_log.proofs.Crossing.{log}
use Rattle.mdb_log.specs.declared.driver.Core as Core
use Rattle.mdb_shared.specs.contracts.driver.SharedDriver as Driver
use Rattle.mdb_shared.specs.contracts.driver.SharedDriver.TheInside as DriverInside
use Rattle.mdb_shared.specs.contracts.seat.Seat as Seat
use Rattle.mdb_shared.specs.contracts.seat.Seat.TheInside as SeatInside
use Rattle.mdb_past.proofs.past.Past.TheSendSync.{the_send as past}
use Rattle.mdb_journal.specs.contracts.journal.Journal as Journal
use Rattle.mdb_journal.specs.contracts.journal.Journal.TheInside as JournalInside
use Rattle.mdb_turns.specs.contracts.records.Records as Records
use Rattle.mdb_turns.specs.contracts.records.Records.TheInside as RecordsInside

number : IsSend u32
number = search sendable

duration : IsSend u64
duration = search sendable

pub journal : IsSend Journal.the_row
journal = view_send JournalInside.the_row _ _ _ _ (recorded_send JournalInside.the_field.row _ _ JournalInside.the_type.to_one (struct_send (shape JournalInside.the_type) (search (past, crosses, sendable) depth 20, (duration, (log, (duration, (search (crosses, sendable), tt)))))))

records : IsSend Records.the_row
records = view_send RecordsInside.the_row _ _ _ _ (recorded_send RecordsInside.the_field.row _ _ RecordsInside.the_type.to_one (struct_send (shape RecordsInside.the_type) (journal, tt)))

module _ (C : RattleType) (g : Core.Ghosts C.Denot) where
  pub seat_crosses : IsSend C → IsSend (Seat.the_row C g)
  seat_crosses s = view_send (SeatInside.the_row C g) _ _ _ _ (recorded_send (SeatInside.the_field C g).row _ _ (SeatInside.the_type C g).to_one (struct_send (shape (SeatInside.the_type C g)) (search (place.the_send, records, crosses, sendable) depth 20, (number, tt))))

  pub driver_lends : IsSend C → IsSync (Driver.the_row C g)
  driver_lends s = view_sync (DriverInside.the_row C g) _ _ _ _ (recorded_sync (DriverInside.the_field C g).row _ _ (DriverInside.the_type C g).to_one (struct_sync (shape (DriverInside.the_type C g)) (search (table.the_field_sync, records, crosses, sendable) depth 20, (search sendable, (array_sync _ 8 counter, (counter, (counter, tt)))))))

-- for `search`: what has a seat or lends a driver crosses where its core may
pub ruleset seats = (seat_crosses, driver_lends, crosses, sendable)
