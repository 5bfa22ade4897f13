use Rattle.std.proofs.Common.{◌≡◌, ◌∙◌, slice_get, Some, subst}
use Rattle.mdb_topology.specs.Checking.{Begins}
use Rattle.mdb_driver_rules.proofs.General.OnePosition.{some-same}
use Rattle.mdb_topology.proofs.topology.TopologyCore.with_check.Goals as goal

pub returns : goal.returns
returns c x at_i =
    let ms = c.args.self.now.monitors.items in
    let y = c.in_ok-monitor.monitor in
    let s = c.at.result.now in
    let here : slice_get ms c.args.index ≡ Some s = c.at.ensures in
    let same : y ≡ x = c.in_ok-monitor.ensures.cases ∙ some-same s x (slice_get ms c.args.index) here at_i in
    let e = c.in_ok-begin.ensures in
    subst (λ v. Begins v c.begin.new.self c.args.number c.in_ok-begin.begin) same (record { setting = e.setting; stands = e.stands; begin = e.begins })
