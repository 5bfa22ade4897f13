-- A session may cross to another thread.
use denote.Param.Send.{IsSend, recorded_send, struct_send, view_send, sendable}
use denote.Struct.Declared.{shape}
use Rattle.std.proofs.Crossing.{crosses}
use Rattle.mdb_log.proofs.Crossing.{log}
use Rattle.mdb_topology.proofs.Crossing.{driver_crosses}
use Rattle.mdb_past.proofs.past.Past.TheSendSync.{the_send as past}
use Rattle.mdb_session.specs.contracts.session.Session as Session
use Rattle.mdb_session.specs.contracts.session.Session.TheInside as Kept

pub session : IsSend Session.the_row
session = view_send Kept.the_row _ _ _ _ (recorded_send Kept.the_field.row _ _ Kept.the_type.to_one (struct_send (shape Kept.the_type) (driver_crosses, (search (past, crosses, sendable) depth 20, (log, tt)))))
