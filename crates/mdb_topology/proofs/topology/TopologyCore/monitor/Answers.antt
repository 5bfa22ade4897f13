use Rattle.std.proofs.Common.{ap, is_some, sym, ◌∙◌}
use Rattle.mdb_topology.proofs.OfMonitors.NextCheck.{opened-kept, opened-some, opened-setting, opened-stands}
use Rattle.mdb_topology.proofs.topology.TopologyCore.monitor.Goals as goal

pub returns-in-Some-clause-opened : goal.returns-in-Some-clause-opened
returns-in-Some-clause-opened c = λ h z. ap is_some c.monitor_at.ensures ∙ opened-some c.args.self.now h z c.args.address.now c.in-Some.index (sym c.in-Some.ensures)

pub returns-in-Some-clause-stands : goal.returns-in-Some-clause-stands
returns-in-Some-clause-stands c = λ h p m z e at. opened-stands c.args.self.now h z c.args.address.now c.in-Some.index (sym c.in-Some.ensures) p m e (opened-kept c.args.self.now h z c.args.address.now c.in-Some.index (sym c.in-Some.ensures) ∙ (sym c.monitor_at.ensures ∙ at))

pub returns-in-Some-clause-setting : goal.returns-in-Some-clause-setting
returns-in-Some-clause-setting c = λ h m z at. opened-setting c.args.self.now h z c.args.address.now c.in-Some.index (sym c.in-Some.ensures) m (opened-kept c.args.self.now h z c.args.address.now c.in-Some.index (sym c.in-Some.ensures) ∙ (sym c.monitor_at.ensures ∙ at))
