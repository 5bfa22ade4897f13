use Rattle.std.proofs.Common.{ℕ, ◌≡◌, ◌&&◌, ◌||◌, true, nat_lt, List, length, refl, sym, ◌∙◌, ap, subst}
use Rattle.std.specs.Prelude.{nat_le}
use Rattle.std.proofs.lemmas.List.{length-set}
use Rattle.mdb_log.specs.Connections.{has}
use Rattle.mdb_monitor.specs.declared.monitor.MonitorCore.{MonitorCore}
use Rattle.mdb_topology.specs.declared.monitors.monitoring.Monitoring.{Monitoring}
use Rattle.mdb_topology.specs.declared.monitors.monitoring.Monitoring.TheVariants.{Same, Checked, Asked}
use Rattle.mdb_topology.specs.Checking.{monitors_after}
use Rattle.mdb_topology.specs.Watching.{MonitorList}
use Rattle.mdb_topology.proofs.topology.TopologyCore.take.Goals as goal

as-many : (x : Monitoring) (ms : List MonitorCore) → length (monitors_after x ms) ≡ length ms
as-many Same ms = refl
as-many (Checked i m numbers) ms = length-set ms i m
as-many (Asked watchers) ms = refl

-- those that were kept before and those that came are kept when the last came
kept-then : (x : Monitoring) (before watched pushed : MonitorList) → watched.items ≡ monitors_after x before.items → watched.kept ≡ before.kept
    → ((p : ℕ) → has p watched.kept || (nat_le (length watched.items) p && nat_lt p (length pushed.items)) ≡ true → has p pushed.kept ≡ true)
    → (later : List MonitorCore) → later ≡ pushed.items → (p : ℕ) → has p before.kept || (nat_le (length before.items) p && nat_lt p (length later)) ≡ true → has p pushed.kept ≡ true
kept-then x before watched pushed items kept pushes later same p cond =
    let many : length watched.items ≡ length before.items = ap length items ∙ as-many x before.items in
    pushes p
    (subst (λ (ks : List ℕ). has p ks || (nat_le (length watched.items) p && nat_lt p (length pushed.items)) ≡ true) (sym kept)
    (subst (λ (n : ℕ). has p before.kept || (nat_le n p && nat_lt p (length pushed.items)) ≡ true) (sym many)
    (subst (λ (ms : List MonitorCore). has p before.kept || (nat_le (length before.items) p && nat_lt p (length ms)) ≡ true) same cond)))

pub returns-in-Some-clause-kept : goal.returns-in-Some-clause-kept
returns-in-Some-clause-kept c = λ p lives cond.
    c.let_go.ensures.kept p lives
    ∙ kept-then c.args.monitoring c.args.self.now.monitors c.watch.new.self.monitors c.push_all.new.monitors c.watch.ensures.monitors c.watch.ensures.kept c.push_all.ensures.kept c.let_go.new.self.items c.let_go.ensures.items p cond

pub returns-in_default-clause-kept : goal.returns-in_default-clause-kept
returns-in_default-clause-kept c = λ p lives cond.
    c.let_go.ensures.kept p lives
    ∙ kept-then c.args.monitoring c.args.self.now.monitors c.watch.new.self.monitors c.push_all.new.monitors c.watch.ensures.monitors c.watch.ensures.kept c.push_all.ensures.kept c.let_go.new.self.items c.let_go.ensures.items p cond
