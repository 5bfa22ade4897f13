use Rattle.std.proofs.Common.{◌≡◌, Some, sym, ◌∙◌, ap, subst}
use Rattle.std.specs.Prelude.{slice_get}
use Rattle.std.proofs.lemmas.Result.{on_ok_weaker}
use Rattle.mdb_log.specs.declared.step.Act.{Act}
use Rattle.mdb_log.specs.declared.step.Act.TheVariants.{Close as CloseAct}
use Rattle.mdb_pool.specs.Core.{PoolCore}
use Rattle.mdb_driver_pools.specs.Acting.{PlansAt, closing}
use Rattle.mdb_driver_pools.specs.Standing.{at_address}
use Rattle.mdb_driver_rules.proofs.General.OnePosition.{some-same}
use Rattle.mdb_driver_pools.proofs.OnePool.FoundAt.{open-lives}
use Rattle.mdb_driver_pools.proofs.OnePool.PlannedAct.{planned-as}
use Rattle.mdb_driver_pools.proofs.pools.Pools.plan_close.Goals as goal

pub returns-clause-planned : goal.returns-clause-planned
returns-clause-planned c =
    let pools = c.args.self.now.cores.items in let m = c.args.moment in let i = c.in-Some.index in let s = c.at.result.now in
    let earlier = c.args.changes.now.items in let later = c.plan_act.new.changes.items in let before = c.args.facts.now.items in let after = c.plan_act.new.facts.items in
    let at : at_address pools c.args.address.now ≡ Some i = sym c.at_address.ensures ∙ c.in-Some.is in
    let at_i : slice_get pools i ≡ Some s = c.at.ensures in
    let one : Act = CloseAct c.number.result in
    on_ok_weaker c.plan_act.result (λ d. subst (λ o. PlansAt pools o m closing earlier later before after) (sym at)
    (planned-as pools i m one closing earlier later before after (λ x get. ap (λ p. CloseAct p) c.number.ensures ∙ ap (λ (y : PoolCore). CloseAct y.pool) (some-same s x (slice_get pools i) at_i get)) d)) c.plan_act.ensures.planned

pub at-requires : goal.at-requires
at-requires c = open-lives c.args.self.now.cores.items c.args.address.now c.in-Some.index (sym c.at_address.ensures ∙ c.in-Some.is)

pub plan_act-requires-clause-there : goal.plan_act-requires-clause-there
plan_act-requires-clause-there c = open-lives c.args.self.now.cores.items c.args.address.now c.in-Some.index (sym c.at_address.ensures ∙ c.in-Some.is)
