use Rattle.std.proofs.Common.{[], refl, sym, ap, ◌∙◌}
use Rattle.mdb_monitor.specs.Endings.{next_of}
use Rattle.mdb_monitor.specs.Standing.{setting_of}
use Rattle.mdb_topology.proofs.OfMonitors.NextCheck.{follows-next}
use Rattle.mdb_topology.proofs.topology.TopologyCore.next_after.Goals as goal

pub returns : goal.returns
returns c = λ h z.
    let s = setting_of c.in-Some.monitor.now in
    follows-next c.args.self.now h z c.args.address.now (sym (c.in-Some.ensures.opened h z)) c.args.came.now s (c.in-Some.ensures.setting h c.in-Some.monitor.now z refl) c.is_available.result c.is_available.ensures
    c.next_after-next.result (c.next_after-next.ensures [] 0 ∙ ap (λ r. next_of r c.is_available.result s.allow_streaming) c.in_ok-ended.ensures)
