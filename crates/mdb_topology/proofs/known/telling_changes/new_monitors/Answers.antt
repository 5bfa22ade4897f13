use Rattle.std.proofs.Common.{map}
use Rattle.mdb_topology.proofs.OfMonitors.MonitorsOfPools.{settings-more}
use Rattle.mdb_topology.proofs.known.telling_changes.new_monitors.Goals as goal

pub loop-change-preserved : goal.loop-change-preserved
loop-change-preserved c =
    let inv = c.loop-change.invariant in
    let added = c.in_ok-add_monitor.ensures in
    record {
      settings = settings-more c.args.options.now c.args.changes.now c.loop-change.change-index c.change-item.result (map (λ m. m.setting) c.loop-change.made.items) (map (λ m. m.setting) c.add_monitor.new.made.items) c.loop-change-test.true c.change-item.is inv.settings added.settings;
      stand = added.stand inv.stand;
    }
