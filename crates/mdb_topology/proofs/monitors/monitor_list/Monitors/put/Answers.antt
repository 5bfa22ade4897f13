use Rattle.std.proofs.Common.{◌≡◌, ◌==◌, true, length, position, set, Some, None, sym, ◌∙◌, ap}
use Rattle.std.proofs.lemmas.List.{length-set}
use Rattle.mdb_log.specs.Connections.{has}
use Rattle.mdb_topology.specs.declared.monitors.watched.Watched.{Watched}
use Rattle.mdb_topology.specs.Watching.{places, MonitorList}
use Rattle.mdb_topology.proofs.InMemory.WatchedPools.{put-found, put-of, put-watched}
use Rattle.mdb_topology.proofs.monitors.monitor_list.Monitors.put.Goals as goal

pub unreachable-requires : goal.unreachable-requires
unreachable-requires c =
    let kept = c.self.inside.kept.items in
    let is_there : has c.args.place (places kept) ≡ true = ap (λ (v : MonitorList). has c.args.place v.kept) c.self.view_is ∙ c.requires in
    let none : position (λ (x : Watched). x.place == c.args.place) kept ≡ None = ap (position (λ (x : Watched). x.place == c.args.place)) (sym c.as_slice.ensures.value) ∙ (sym c.index_at.ensures ∙ c.in_default.is) in
    put-found kept c.args.place is_there none

pub invariant_of-self : goal.invariant_of-self
invariant_of-self c =
    let s = c.self.inside in
    let put : Watched = record { place = c.args.place; monitor = c.args.monitor } in
    let found : position (λ (x : Watched). x.place == c.args.place) s.kept.items ≡ Some c.in-Some.index = ap (position (λ (x : Watched). x.place == c.args.place)) (sym c.as_slice.ensures.value) ∙ (sym c.index_at.ensures ∙ c.in-Some.is) in
    let as_many : length (set s.all.value c.args.place c.args.monitor) ≡ length s.all.value = length-set s.all.value c.args.place c.args.monitor in
    let as_long : length (set s.kept.items c.in-Some.index put) ≡ length s.kept.items = length-set s.kept.items c.in-Some.index put in
    rw c.of-all.ensures (put-watched s.all.value c.args.place c.args.monitor s.kept.items c.in-Some.index c.self.invariant.0 found, c.self.invariant.1 ∙ sym as_many, c.self.invariant.2, rw as_long c.self.invariant.3)

pub returns-clause-kept : goal.returns-clause-kept
returns-clause-kept c =
    let s = c.self.inside in
    let found : position (λ (x : Watched). x.place == c.args.place) s.kept.items ≡ Some c.in-Some.index = ap (position (λ (x : Watched). x.place == c.args.place)) (sym c.as_slice.ensures.value) ∙ (sym c.index_at.ensures ∙ c.in-Some.is) in
    (put-of s.all.value c.args.place c.args.monitor s.kept.items c.in-Some.index c.self.invariant.0.each c.self.invariant.0.apart found).1 ∙ ap (λ (v : MonitorList). v.kept) c.self.view_is
