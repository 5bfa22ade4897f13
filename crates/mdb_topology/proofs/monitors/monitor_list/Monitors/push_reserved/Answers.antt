use Rattle.std.proofs.Common.{◌≡◌, ◌+◌, ◌<◌, ◌++◌, ◌∷◌, [], length, sym, ap, arith}
use Rattle.mdb_topology.specs.declared.monitors.watched.Watched.{Watched}
use Rattle.mdb_topology.specs.Watching.{MonitorList}
use Rattle.mdb_driver_pools.proofs.InMemory.StillLives.{length-last}
use Rattle.mdb_topology.proofs.InMemory.WatchedPools.{more-watched}
use Rattle.mdb_topology.proofs.monitors.monitor_list.Monitors.push_reserved.Goals as goal

pub invariant_of-self : goal.invariant_of-self
invariant_of-self c =
    let s = c.self.inside in
    let fewer : length s.all.value < s.room = rw (ap (λ (v : MonitorList). v.items) c.self.view_is, ap (λ (v : MonitorList). v.room) c.self.view_is) c.requires in
    let more : length (s.all.value ++ c.args.monitor ∷ []) ≡ length s.all.value + 1 = length-last s.all.value c.args.monitor in
    let added : Watched = record { place = length s.all.value; monitor = c.args.monitor } in
    let longer : length (s.kept.items ++ added ∷ []) ≡ length s.kept.items + 1 = length-last s.kept.items added in
    rw (c.of-all.ensures, c.push_reserved.ensures.items, c.self.invariant.1)
    (more-watched s.all.value c.args.monitor s.kept.items c.self.invariant.0, sym more, omega (arith, fewer), omega (arith, fewer, longer, c.push_reserved.ensures.capacity, c.self.invariant.1, c.self.invariant.3))
