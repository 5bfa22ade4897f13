use Rattle.std.proofs.Common.{◌∙◌}
use Rattle.mdb_monitor.proofs.Standing.{runs-is}
use Rattle.mdb_monitor.proofs.monitor.MonitorCore.running.Goals as goal

pub returns-clause-items : goal.returns-clause-items
returns-clause-items c = λ h f. c.is_some.ensures ∙ runs-is c.args.self.now h f
