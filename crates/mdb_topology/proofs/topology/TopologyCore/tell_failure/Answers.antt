use Rattle.std.proofs.Common.{◌≡◌, ◌&&◌, [], length, Some, None, is_some, sym, ◌∙◌, ap, subst}
use Rattle.std.specs.Prelude.{slice_get}
use Rattle.mdb_describe.specs.Differences.{difference}
use Rattle.mdb_topology.specs.Failing.{IsToldOf}
use Rattle.mdb_driver_pools.specs.Failing.{Fails}
use Rattle.mdb_driver_pools.specs.Clearing.{AcceptsClear}
use Rattle.mdb_driver_pools.specs.Planned.{PlansMore}
use Rattle.mdb_driver_rules.specs.Publishing.{telling}
use Rattle.mdb_driver_rules.specs.Touching.{touched_by}
use Rattle.mdb_topology.proofs.Failure.Answer.{still-at, told-of}
use Rattle.mdb_topology.proofs.topology.TopologyCore.tell_failure.Goals.{then-changed, else-changed}
use Rattle.mdb_topology.proofs.topology.TopologyCore.tell_failure.Goals as goal

pub publish_mark-requires-clause-marked : goal.publish_mark-requires-clause-marked
publish_mark-requires-clause-marked c = (c.args.address.now, c.args.trouble.now.error.now, c.requires.marked)

pub plan_failure-requires-clause-still : goal.plan_failure-requires-clause-still
plan_failure-requires-clause-still c = λ s at.
    let there : slice_get c.args.self.now.pools.cores.items c.args.trouble.now.index ≡ Some s = subst (λ v. slice_get v.pools.cores.items c.args.trouble.now.index ≡ Some s) c.in_ok-planned.ensures.same at in
    still-at c.args.self.now c.requires.stands c.args.trouble.now.index s there c.args.step.now c.args.trouble.now.error.now (c.requires.failing s there) None

pub returns-clause-told : goal.returns-clause-told
returns-clause-told c =
    let w = c.args.self.now in
    let o = w.options in
    let t = w.description in
    let u = c.args.later.now in
    let step = c.args.step.now in
    let m = step.moment in
    let i = c.args.trouble.now.index in
    let e = c.args.trouble.now.error.now in
    let pools = w.pools.cores.items in
    let d = c.in_ok-diff.diff in
    let planned = c.in_ok-planned.planned.items in
    let before = c.publish_mark.new.facts.items in
    let changes = c.plan_failure.new.changes.items in
    let after = c.plan_failure.new.facts.items in
    let differs : difference t.servers u.servers ≡ d = sym c.in_ok-diff.ensures.difference in
    let p : PlansMore o m pools (length pools) (touched_by u d) (telling o m t u d) [] [] [] planned [] before =
    subst (λ fs. PlansMore o m pools (length pools) (touched_by u d) (telling o m t u d) [] [] [] planned fs before) c.new-facts.ensures.items c.in_ok-planned.ensures.planned in
    let told : IsToldOf w m u before = told-of w c.requires.stands m c.requires.in_time u d (touched_by u d) planned before differs p in
    let cleared : c.if-changed.cleared ≡ is_some (difference t.servers u.servers) && c.args.trouble.now.clears = elim c.if-changed.branch [
      | then-changed w ↦ w.cleared-is ∙ ap (λ b. b && c.args.trouble.now.clears) (sym (ap is_some differs ∙ (sym c.is_some-changed.ensures ∙ w.if-changed.true)))
      | else-changed w ↦ w.cleared-is ∙ (w.if-changed.false ∙ ap (λ b. b && c.args.trouble.now.clears) (sym (ap is_some differs ∙ (sym c.is_some-changed.ensures ∙ w.if-changed.false))))
    ] in
    let asked = c.args.trouble.now.asked in
    let fails : Fails (is_some (difference t.servers u.servers) && c.args.trouble.now.clears) pools i step None e asked [] changes before after =
    subst (λ b. Fails b pools i step None e asked [] changes before after) cleared
    (subst (λ cs. Fails c.if-changed.cleared pools i step None e asked cs changes before after) c.new-changes.ensures.items
    (subst (λ v. Fails c.if-changed.cleared v.pools.cores.items i step None e asked c.new-changes.result.items changes before after) c.in_ok-planned.ensures.same c.in_ok-plan_failure.ensures.fails)) in
    (before, told, fails)

pub plan_failure-requires-clause-accepted : goal.plan_failure-requires-clause-accepted
plan_failure-requires-clause-accepted c wanted =
    let t = c.args.self.now.description in
    let u = c.args.later.now in
    let d = c.in_ok-diff.diff in
    let differs : difference t.servers u.servers ≡ d = sym c.in_ok-diff.ensures.difference in
    let cleared : c.if-changed.cleared ≡ is_some (difference t.servers u.servers) && c.args.trouble.now.clears = elim c.if-changed.branch [
      | then-changed w ↦ w.cleared-is ∙ ap (λ b. b && c.args.trouble.now.clears) (sym (ap is_some differs ∙ (sym c.is_some-changed.ensures ∙ w.if-changed.true)))
      | else-changed w ↦ w.cleared-is ∙ (w.if-changed.false ∙ ap (λ b. b && c.args.trouble.now.clears) (sym (ap is_some differs ∙ (sym c.is_some-changed.ensures ∙ w.if-changed.false))))
    ] in
    subst (λ v. AcceptsClear v.pools.cores.items c.args.trouble.now.index c.args.step.now.moment None c.args.trouble.now.error.now) (sym c.in_ok-planned.ensures.same)
    (c.requires.accepted (sym cleared ∙ wanted))
