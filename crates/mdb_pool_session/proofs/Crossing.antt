-- A session of a pool may cross to another thread.
use denote.Param.Send.{IsSend, recorded_send, struct_send, view_send, sendable}
use denote.Struct.Declared.{shape}
use Rattle.std.proofs.Crossing.{crosses}
use Rattle.mdb_log.proofs.Crossing.{log}
use Rattle.mdb_pool.proofs.pool_core.PoolCore.TheSendSync.{the_send as core}
use Rattle.mdb_past.proofs.past.Past.TheSendSync.{the_send as past}
use Rattle.mdb_pool_session.specs.contracts.pool_session.PoolSession as Session
use Rattle.mdb_pool_session.specs.contracts.pool_session.PoolSession.TheInside as Kept

pub session : IsSend Session.the_row
session = view_send Kept.the_row _ _ _ _ (recorded_send Kept.the_field.row _ _ Kept.the_type.to_one (struct_send (shape Kept.the_type) (core, (search (past, crosses, sendable) depth 20, (log, tt)))))
