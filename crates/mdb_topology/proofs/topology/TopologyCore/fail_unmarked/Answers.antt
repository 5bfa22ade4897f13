use Rattle.std.proofs.Common.{List, ◌≡◌, [], true, false, not, Some, None, is_some, sym, ◌∙◌, ap, subst}
use Rattle.mdb_pool_rules.specs.Refusal.{wrong_service}
use Rattle.mdb_driver_pools.specs.declared.trouble.Asked.TheVariants.{Nothing}
use Rattle.mdb_topology.specs.Failing.{TellsFailure}
use Rattle.mdb_driver_pools.specs.Failing.{Fails}
use Rattle.mdb_topology.proofs.Failure.Answer.{still-at, unmarked-refusal, unmarked-follows}
use Rattle.mdb_topology.proofs.Marks.AtItsLimit.{after-any, clear-accepted, not-both}
use Rattle.mdb_topology.proofs.WholeSteps.ComesBeforeMemory.{none-wants}
use Rattle.std.specs.Prelude.{slice_get}
use Rattle.mdb_log.specs.History.{Item}
use Rattle.mdb_pool.specs.Core.{PoolCore}
use Rattle.mdb_topology.specs.Standing.{StandsFor}
use Rattle.mdb_topology.specs.Stepping.{MayWant}
use Rattle.mdb_topology.proofs.topology.TopologyCore.fail_unmarked.Goals as goal

pub returns-then-overspends_service-clause-becomes : goal.returns-then-overspends_service-clause-becomes
returns-then-overspends_service-clause-becomes c h s z there f =
    unmarked-refusal c.args.self.now h z c.args.step.now c.requires.in_time c.args.index s there c.args.error.now _ c.args.service f true (sym (c.overspends_service.ensures s there) ∙ c.if-overspends_service.true)

pub plan_failure-requires-clause-still : goal.plan_failure-requires-clause-still
plan_failure-requires-clause-still c = λ s at. still-at c.args.self.now c.requires.stands c.args.index s at c.args.step.now c.args.error.now (c.requires.failing s at) c.args.service

pub plan_failure-requires-clause-accepted : goal.plan_failure-requires-clause-accepted
plan_failure-requires-clause-accepted c wanted s there =
    let w = c.args.self.now in
    let some : is_some c.args.service ≡ true = sym c.is_some-cleared.ensures ∙ wanted in
    let fit : wrong_service w.options.load_balanced c.args.service ≡ false = ap (λ b. wrong_service b c.args.service) (c.requires.balanced some) ∙ ap not some in
    clear-accepted w c.requires.stands c.args.index s there c.args.step.now.moment c.requires.in_time c.args.service c.args.error.now fit
    (not-both _ _ (sym (c.overspends_service.ensures s there) ∙ c.if-overspends_service.false) some)

pub returns-in_err-plan_failure-clause-wants : goal.returns-in_err-plan_failure-clause-wants
returns-in_err-plan_failure-clause-wants c = after-any _
    ((h : List Item) (s : PoolCore) → StandsFor c.args.self.now h → slice_get c.args.self.now.pools.cores.items c.args.index ≡ Some s → TellsFailure c.args.self.now.options h c.args.step.now s None (is_some c.args.service) c.args.service c.args.error.now Nothing
    → MayWant c.args.self.now c.args.step.now h)
    (λ h s z there f.
    none-wants c.args.self.now.options h c.args.step.now
    (unmarked-refusal c.args.self.now h z c.args.step.now c.requires.in_time c.args.index s there c.args.error.now _ c.args.service f false (sym (c.overspends_service.ensures s there) ∙ c.if-overspends_service.false)))

pub returns-clause-becomes : goal.returns-clause-becomes
returns-clause-becomes c h s z there f =
    let w = c.args.self.now in
    let pools = w.pools.cores.items in
    let step = c.args.step.now in
    let e = c.args.error.now in
    let i = c.args.index in
    let later = c.plan_failure.new.changes.items in
    let between = c.plan_failure.new.facts.items in
    unmarked-follows w h z step c.requires.in_time i s there e _ c.args.service f _
    (subst (λ b. Fails b pools i step c.args.service e Nothing [] later [] between) c.is_some-cleared.ensures
    (subst (λ cs. Fails c.is_some-cleared.result pools i step c.args.service e Nothing cs later [] between) c.new-changes.ensures.items
    (subst (λ fs. Fails c.is_some-cleared.result pools i step c.args.service e Nothing c.new-changes.result.items later fs between) c.new-facts.ensures.items c.in_ok-plan_failure.ensures.fails)))
    c.of_reply.ensures.reply c.of_reply.ensures.description c.of_reply.ensures.monitors c.of_reply.ensures.monitoring c.of_reply.ensures.stops
