use Rattle.std.proofs.Common.{List, ◌≡◌, [], true, false, not, Some, is_some, sym, ◌∙◌, ap, subst, refl}
use Rattle.mdb_log.specs.declared.reply.Reply.TheVariants.{Changed}
use Rattle.mdb_pool_rules.specs.Refusal.{wrong_service}
use Rattle.mdb_topology.specs.Marking.{IsClearing}
use Rattle.mdb_driver_pools.specs.Clearing.{Clears}
use Rattle.mdb_topology.proofs.Marks.ServiceOfConnection.{service-refusal, service-follows}
use Rattle.mdb_topology.proofs.Marks.AtItsLimit.{after-any, clear-accepted, not-both}
use Rattle.mdb_topology.proofs.WholeSteps.ComesBeforeMemory.{none-wants}
use Rattle.std.specs.Prelude.{slice_get}
use Rattle.mdb_log.specs.History.{Item}
use Rattle.mdb_pool.specs.Core.{PoolCore}
use Rattle.mdb_driver_rules.specs.Errors.{Trouble, for_service}
use Rattle.mdb_topology.specs.Standing.{StandsFor}
use Rattle.mdb_driver_pools.specs.Standing.{at_address}
use Rattle.mdb_topology.specs.Stepping.{MayWant}
use Rattle.mdb_topology.proofs.topology.TopologyCore.clear_service.Goals as goal

pub returns-then-overspends_service-clause-becomes : goal.returns-then-overspends_service-clause-becomes
returns-then-overspends_service-clause-becomes c h s x z there here pool address error_is clearing =
    service-refusal c.args.self.now h z c.args.step.now c.requires.in_time c.requires.balanced c.args.index s there here x c.args.service c.args.error.now pool address error_is clearing true
    (sym (c.overspends_service.ensures s there) ∙ c.if-overspends_service.true)

pub plan_clear-requires-clause-accepted : goal.plan_clear-requires-clause-accepted
plan_clear-requires-clause-accepted c wanted s there =
    let w = c.args.self.now in
    let some : is_some c.args.service ≡ true = sym c.is_some-cleared.ensures ∙ wanted in
    let fit : wrong_service w.options.load_balanced c.args.service ≡ false = ap (λ b. wrong_service b c.args.service) c.requires.balanced ∙ ap not some in
    clear-accepted w c.requires.stands c.args.index s there c.args.step.now.moment c.requires.in_time c.args.service c.args.error.now fit
    (not-both _ _ (sym (c.overspends_service.ensures s there) ∙ c.if-overspends_service.false) some)

pub returns-in_err-plan_clear-clause-wants : goal.returns-in_err-plan_clear-clause-wants
returns-in_err-plan_clear-clause-wants c = after-any _
    ((h : List Item) (s : PoolCore) (x : Trouble) → StandsFor c.args.self.now h → slice_get c.args.self.now.pools.cores.items c.args.index ≡ Some s → at_address c.args.self.now.pools.cores.items s.address ≡ Some c.args.index → x.pool ≡ s.pool → x.address ≡ s.address → x.error ≡ c.args.error.now
    → IsClearing c.args.self.now h c.args.step.now x (for_service c.args.service) → MayWant c.args.self.now c.args.step.now h)
    (λ h s x z there here pool address error_is clearing.
    none-wants c.args.self.now.options h c.args.step.now
    (service-refusal c.args.self.now h z c.args.step.now c.requires.in_time c.requires.balanced c.args.index s there here x c.args.service c.args.error.now pool address error_is clearing false
    (sym (c.overspends_service.ensures s there) ∙ c.if-overspends_service.false)))

pub returns-clause-becomes : goal.returns-clause-becomes
returns-clause-becomes c h s x z there here pool address error_is clearing =
    let w = c.args.self.now in
    let later = c.plan_clear.new.changes.items in
    let between = c.plan_clear.new.facts.items in
    service-follows w h z c.args.step.now c.requires.in_time c.requires.balanced c.args.index s there here x c.args.service c.args.error.now pool address error_is clearing later between
    (subst (λ b. Clears b w.pools.cores.items c.args.index c.args.step.now.moment c.args.service c.args.error.now [] later [] between) c.is_some-cleared.ensures
    (subst (λ cs. Clears c.is_some-cleared.result w.pools.cores.items c.args.index c.args.step.now.moment c.args.service c.args.error.now cs later [] between) c.new-changes.ensures.items
    (subst (λ fs. Clears c.is_some-cleared.result w.pools.cores.items c.args.index c.args.step.now.moment c.args.service c.args.error.now c.new-changes.result.items later fs between) c.new-facts.ensures.items c.in_ok-plan_clear.ensures.clears)))
    _ (c.of_reply.ensures.reply ∙ ap Changed c.is_some-cleared.ensures) refl refl c.of_reply.ensures.description c.of_reply.ensures.stops c.of_reply.ensures.monitors c.of_reply.ensures.monitoring
