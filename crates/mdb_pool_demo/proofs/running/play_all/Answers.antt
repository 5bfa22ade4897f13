use denote.Exit.{yes}
use denote.Param.{param}
use denote.Param.Send.{param_send, param_sync, arg_send, arg_sync}
use Rattle.std.proofs.Common.{codes}
use Rattle.mdb_shared.specs.contracts.seat.Seat as Seat
use Rattle.mdb_shared.proofs.Crossing.{seat_crosses}
use Rattle.mdb_pool_demo.proofs.Crossing.{closure_lends}
use Rattle.mdb_pool_demo.proofs.running.play_all.Goals as goal

pub map_vec-requires-send-J : goal.map_vec-requires-send-J
map_vec-requires-send-J g c = λ κs w. param_send 1 _ (arg_send _ yes (Seat.the_row (param 0 g.row.C) g.C.Core) (seat_crosses (param 0 g.row.C) g.C.Core c.type_bounds.send-C))

-- the text is the name of the closure
pub map_vec-requires-sync-F : goal.map_vec-requires-sync-F
map_vec-requires-sync-F g c = λ κs w. param_sync 4 _ (arg_sync _ yes _ (closure_lends (param 0 g.row.C) g.C.Core (codes "mdb_pool_demo::running::fn::play_all::map_vec+Self") (param 1 g.row.R) _ _ _ _ _ _ c.type_bounds.send-C c.type_bounds.sync-R))
