use Rattle.std.proofs.Common.{◌≡◌, ◌==◌, find, true, false, Some, None, sym, ◌∙◌, ap}
use Rattle.std.specs.Prelude.{option_copied, option_map, slice_get}
use Rattle.mdb_log.specs.Connections.{has}
use Rattle.mdb_topology.specs.declared.monitors.watched.Watched.{Watched}
use Rattle.mdb_topology.specs.Watching.{places, MonitorList}
use Rattle.mdb_topology.proofs.InMemory.WatchedPools.{none-kept, there-kept, watched-is}
use Rattle.mdb_topology.proofs.monitors.monitor_list.Monitors.at.Goals as goal

pub unreachable-requires : goal.unreachable-requires
unreachable-requires c =
    let kept = c.self.inside.kept.items in
    let none : find (λ (x : Watched). x.place == c.args.place) kept ≡ None = ap (find (λ (x : Watched). x.place == c.args.place)) (sym c.as_slice.ensures.value) ∙ (sym c.watched_at.ensures ∙ ap option_copied c.in-None.is) in
    let gone : has c.args.place (places kept) ≡ false = none-kept kept c.args.place none in
    let there : has c.args.place (places kept) ≡ true = ap (λ (v : MonitorList). has c.args.place v.kept) c.self.view_is ∙ c.requires in
    cc

pub returns : goal.returns
returns c =
    let s = c.self.inside in
    let found : find (λ (x : Watched). x.place == c.args.place) s.kept.items ≡ Some c.in-Some.watched.now = ap (find (λ (x : Watched). x.place == c.args.place)) (sym c.as_slice.ensures.value) ∙ (sym c.watched_at.ensures ∙ ap option_copied c.in-Some.is) in
    let there : has c.args.place (places s.kept.items) ≡ true = ap (λ (v : MonitorList). has c.args.place v.kept) c.self.view_is ∙ c.requires in
    sym (ap (λ (v : MonitorList). slice_get v.items c.args.place) c.self.view_is)
    ∙ there-kept s.all.value (places s.kept.items) c.args.place c.in-Some.watched.now.monitor there (sym (ap (option_map (λ (x : Watched). x.monitor)) found) ∙ watched-is s.all.value s.kept.items c.args.place c.self.invariant.0.each)
