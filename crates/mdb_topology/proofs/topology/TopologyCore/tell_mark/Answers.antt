use Rattle.std.proofs.Common.{◌≡◌, true, ◌&&◌, ◌++◌, [], length, None, is_some, sym, ◌∙◌, ap, subst}
use Rattle.mdb_describe.specs.Descriptions.{failed}
use Rattle.mdb_describe.specs.Differences.{difference}
use Rattle.mdb_describe.specs.Update.{updated}
use Rattle.mdb_driver_pools.specs.Living.{lives_at}
use Rattle.mdb_topology.specs.Marking.{MarkTold}
use Rattle.mdb_driver_pools.specs.Clearing.{AcceptsClear, Clears, asked_of}
use Rattle.mdb_driver_pools.specs.Planned.{PlansMore}
use Rattle.mdb_driver_rules.specs.Publishing.{telling}
use Rattle.mdb_driver_rules.specs.Touching.{touched_by}
use Rattle.mdb_topology.proofs.Marks.ComesTo.{mark-comes}
use Rattle.mdb_topology.proofs.topology.TopologyCore.tell_mark.Goals.{then-changed, else-changed}
use Rattle.mdb_driver_pools.proofs.OnePool.FoundAt.{open-lives}
use Rattle.mdb_topology.proofs.topology.TopologyCore.tell_mark.Goals as goal

pub publish_mark-requires-clause-marked : goal.publish_mark-requires-clause-marked
publish_mark-requires-clause-marked c = (c.args.address.now, c.args.trouble.now.error.now, c.requires.marked)

pub returns-clause-told : goal.returns-clause-told
returns-clause-told c x of =
    let w = c.args.self.now in
    let o = w.options in
    let t = w.description in
    let m = c.args.step.now.moment in
    let pools = w.pools.cores.items in
    let e = c.requires.marked in
    let d = c.in_ok-diff.diff in
    let changes = c.in_ok-changes.changes.items in
    let facts = c.publish_mark.new.facts.items in
    let later = c.plan_clear.new.changes.items in
    let between = c.plan_clear.new.facts.items in
    let differs : difference t.servers (updated t (failed c.args.address.now c.args.trouble.now.error.now)).servers ≡ d = sym (subst (λ v. d ≡ difference t.servers v.servers) e c.in_ok-diff.ensures.difference) in
    let p : PlansMore o m pools (length pools) (touched_by (updated t (failed c.args.address.now c.args.trouble.now.error.now)) d) (telling o m t (updated t (failed c.args.address.now c.args.trouble.now.error.now)) d) [] [] [] changes [] facts =
    subst (λ v. PlansMore o m pools (length pools) (touched_by v d) (telling o m t v d) [] [] [] changes [] facts) e
    (subst (λ fs. PlansMore o m pools (length pools) (touched_by c.args.later.now d) (telling o m t c.args.later.now d) [] [] [] changes fs facts) c.new-facts.ensures.items c.in_ok-changes.ensures.planned) in
    let cleared : c.if-changed.cleared ≡ is_some d && c.args.trouble.now.clears = elim c.if-changed.branch [
      | then-changed w ↦ w.cleared-is ∙ ap (λ b. b && c.args.trouble.now.clears) (sym (sym c.is_some-changed.ensures ∙ w.if-changed.true))
      | else-changed w ↦ w.cleared-is ∙ (w.if-changed.false ∙ ap (λ b. b && c.args.trouble.now.clears) (sym (sym c.is_some-changed.ensures ∙ w.if-changed.false)))
    ] in
    let clears : Clears (is_some d && c.args.trouble.now.clears) pools c.args.trouble.now.index m None c.args.trouble.now.error.now changes later facts between =
    subst (λ b. Clears b pools c.args.trouble.now.index m None c.args.trouble.now.error.now changes later facts between) cleared
    (subst (λ v. Clears c.if-changed.cleared v.pools.cores.items c.args.trouble.now.index m None c.args.trouble.now.error.now changes later facts between) c.in_ok-changes.ensures.same c.in_ok-plan_clear.ensures.clears) in
    subst (λ v. MarkTold w m v x c.ask.new.facts.items later c.is_some-changed.result) (sym e)
    (mark-comes w c.requires.stands m c.requires.in_time c.args.address.now c.args.trouble.now.error.now x c.args.trouble.now.index c.requires.here d differs c.args.trouble.now.clears c.args.trouble.now.asked of
    c.requires.normal changes later facts between p c.ask.new.facts.items c.is_some-changed.result clears
    (subst (λ b. c.ask.new.facts.items ≡ between ++ asked_of c.args.trouble.now.asked b c.args.address.now) cleared c.in_ok-ask.ensures) c.is_some-changed.ensures)

pub plan_clear-requires-clause-accepted : goal.plan_clear-requires-clause-accepted
plan_clear-requires-clause-accepted c wanted =
    let w = c.args.self.now in
    let d = c.in_ok-diff.diff in
    let cleared : c.if-changed.cleared ≡ is_some d && c.args.trouble.now.clears = elim c.if-changed.branch [
      | then-changed w ↦ w.cleared-is ∙ ap (λ b. b && c.args.trouble.now.clears) (sym (sym c.is_some-changed.ensures ∙ w.if-changed.true))
      | else-changed w ↦ w.cleared-is ∙ (w.if-changed.false ∙ ap (λ b. b && c.args.trouble.now.clears) (sym (sym c.is_some-changed.ensures ∙ w.if-changed.false)))
    ] in
    subst (λ v. AcceptsClear v.pools.cores.items c.args.trouble.now.index c.args.step.now.moment None c.args.trouble.now.error.now) (sym c.in_ok-changes.ensures.same)
    (c.requires.accepted (ap (λ y. is_some y && c.args.trouble.now.clears) (sym c.in_ok-diff.ensures.difference) ∙ (sym cleared ∙ wanted)))

pub plan_clear-requires-clause-there : goal.plan_clear-requires-clause-there
plan_clear-requires-clause-there c = subst (λ v. lives_at v.pools.cores.items c.args.trouble.now.index ≡ true) (sym c.in_ok-changes.ensures.same) (open-lives c.args.self.now.pools.cores.items c.args.address.now c.args.trouble.now.index c.requires.here)
