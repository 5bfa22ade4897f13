use Rattle.std.proofs.Common.{rules, ◌≡◌, ◌≤◌, filter, length, sym, ◌∙◌, ap, subst, arith}
use Rattle.std.specs.Prelude.{vec_capacity}
use Rattle.std.proofs.lemmas.Fn.{filter_same}
use Rattle.mdb_log.specs.Connections.{has}
use Rattle.mdb_topology.specs.declared.monitors.watched.Watched.{Watched}
use Rattle.mdb_driver_pools.specs.Living.{lives_at}
use Rattle.mdb_topology.specs.Watching.{places, IsWatched, MonitorList}
use Rattle.mdb_topology.proofs.InMemory.WatchedPools.{fewer-many, fewer-watched, gone-has, kept-has}
use Rattle.mdb_topology.proofs.monitors.monitor_list.Monitors.let_go.Goals as goal

pub invariant_of-self : goal.invariant_of-self
invariant_of-self c =
    let s = c.self.inside in
    let left : c.retain.new.self.items ≡ filter (λ (x : Watched). lives_at c.args.cores.now.items x.place) s.kept.items = filter_same _ (λ (x : Watched). lives_at c.args.cores.now.items x.place) _ (λ x b f' k. search rules) _ _ c.retain.ensures.filtered in
    let most : length c.retain.new.self.items ≤ length s.kept.items = subst (λ ys. length ys ≤ length s.kept.items) (sym left) (fewer-many (λ p. lives_at c.args.cores.now.items p) s.kept.items) in
    let room : vec_capacity c.retain.new.self ≡ vec_capacity s.kept = c.retain.ensures.capacity in
    (subst (λ ys. IsWatched s.all.value ys) (sym left) (fewer-watched (λ p. lives_at c.args.cores.now.items p) s.all.value s.kept.items c.self.invariant.0), c.self.invariant.1, c.self.invariant.2, omega (arith, most, room, c.self.invariant.3))

pub returns-clause-kept : goal.returns-clause-kept
returns-clause-kept c p lives =
    let s = c.self.inside in
    let left : c.retain.new.self.items ≡ filter (λ (x : Watched). lives_at c.args.cores.now.items x.place) s.kept.items = filter_same _ (λ (x : Watched). lives_at c.args.cores.now.items x.place) _ (λ x b f' k. search rules) _ _ c.retain.ensures.filtered in
    ap (λ ys. has p (places ys)) left ∙ (kept-has (λ q. lives_at c.args.cores.now.items q) s.kept.items p lives ∙ ap (λ (v : MonitorList). has p v.kept) c.self.view_is)

pub returns-clause-gone : goal.returns-clause-gone
returns-clause-gone c p none =
    let s = c.self.inside in
    let left : c.retain.new.self.items ≡ filter (λ (x : Watched). lives_at c.args.cores.now.items x.place) s.kept.items = filter_same _ (λ (x : Watched). lives_at c.args.cores.now.items x.place) _ (λ x b f' k. search rules) _ _ c.retain.ensures.filtered in
    ap (λ ys. has p (places ys)) left ∙ gone-has (λ q. lives_at c.args.cores.now.items q) s.kept.items p none
