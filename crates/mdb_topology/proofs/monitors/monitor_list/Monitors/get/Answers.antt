use Rattle.std.proofs.Common.{◌≡◌, ◌==◌, find, Some, None, sym, ◌∙◌, ap}
use Rattle.std.specs.Prelude.{option_copied, option_map}
use Rattle.mdb_topology.specs.declared.monitors.watched.Watched.{Watched}
use Rattle.mdb_topology.proofs.InMemory.WatchedPools.{watched-is}
use Rattle.mdb_topology.proofs.monitors.monitor_list.Monitors.get.Goals as goal

pub returns-in-Some : goal.returns-in-Some
returns-in-Some c =
    let found : find (λ (x : Watched). x.place == c.args.place) c.self.inside.kept.items ≡ Some c.in-Some.watched.now =
    ap (find (λ (x : Watched). x.place == c.args.place)) (sym c.as_slice.ensures.value) ∙ (sym c.watched_at.ensures ∙ ap option_copied c.in-Some.is) in
    rw (← c.self.view_is) (sym (ap (option_map (λ (x : Watched). x.monitor)) found) ∙ watched-is c.self.inside.all.value c.self.inside.kept.items c.args.place c.self.invariant.0.each)

pub returns-in-None : goal.returns-in-None
returns-in-None c =
    let found : find (λ (x : Watched). x.place == c.args.place) c.self.inside.kept.items ≡ None =
    ap (find (λ (x : Watched). x.place == c.args.place)) (sym c.as_slice.ensures.value) ∙ (sym c.watched_at.ensures ∙ ap option_copied c.in-None.is) in
    rw (← c.self.view_is) (sym (ap (option_map (λ (x : Watched). x.monitor)) found) ∙ watched-is c.self.inside.all.value c.self.inside.kept.items c.args.place c.self.invariant.0.each)
