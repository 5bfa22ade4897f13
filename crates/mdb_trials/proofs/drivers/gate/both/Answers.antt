use denote.Exit.{yes}
use denote.Param.{param}
use denote.Param.Send.{param_send, arg_send}
use Rattle.std.proofs.Common.{codes}
use Rattle.mdb_trials.proofs.WorkerCrossing.{worker_crosses}
use Rattle.mdb_trials.proofs.drivers.gate.both.Goals as goal

-- the text is the name of the closure
pub join-worked-requires-send-F : goal.join-worked-requires-send-F
join-worked-requires-send-F g c = λ κs w. param_send 1 _ (arg_send _ yes _ (worker_crosses (param 0 g.row.C) g.C.Core (codes "mdb_trials::drivers::gate::fn::both::join+arg2+Self") (param 1 g.row.R) _ _ _ _ _ _ c.type_bounds.send-C c.type_bounds.sync-R))
