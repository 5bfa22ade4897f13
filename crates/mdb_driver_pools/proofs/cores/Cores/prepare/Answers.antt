use Rattle.std.proofs.Common.{◌≡◌, Some, sym, ◌∙◌, ap, subst}
use Rattle.std.specs.Prelude.{All, slice_get}
use Rattle.std.proofs.lemmas.Result.{IfOk-weaker}
use Rattle.mdb_log.specs.Acts.{IsPoolAct}
use Rattle.mdb_pool.specs.Core.{PoolCore}
use Rattle.mdb_pool.specs.Planning.{IsPlanOf, LeadsTo, Plans}
use Rattle.mdb_pool.specs.Refusing.{TellsNew}
use Rattle.mdb_driver_pools.specs.declared.placed.Placed.{Placed}
use Rattle.mdb_driver_pools.specs.Living.{index_in, living_from, PoolList}
use Rattle.mdb_driver_pools.proofs.InMemory.ChangedPools.{index-some, read-there}
use Rattle.mdb_driver_pools.proofs.InMemory.LivingPools.{alive-of, some-living}
use Rattle.mdb_driver_pools.proofs.cores.Cores.prepare.Goals as goal

pub unreachable-requires : goal.unreachable-requires
unreachable-requires c =
    let pools = c.args.self.now.items in
    let s = some-living pools c.args.place c.requires.lives in
    index-some c.args.place pools s.0 s.1 (alive-of pools c.args.place s.0 c.requires.lives s.1) (sym c.index_of.ensures ∙ c.in_default.is)

pub prepare-requires : goal.prepare-requires
prepare-requires c =
    let pools = c.args.self.now.items in
    let xs = c.self.inside.living.items in
    let i = c.in-Some.index in
    let x = c.index_mut.result.now in
    let found : index_in pools c.args.place ≡ Some i = sym c.index_of.ensures ∙ c.in-Some.is in
    let are : xs ≡ living_from 0 pools = c.self.invariant.0 ∙ ap (λ (v : PoolList). living_from 0 v.items) c.self.view_is in
    let s = some-living pools c.args.place c.requires.lives in
    let same : x.core ≡ s.0 = ap (λ (y : Placed). y.core) (read-there c.args.place pools s.0 i xs s.1 (alive-of pools c.args.place s.0 c.requires.lives s.1) found are x c.index_mut.ensures.value) in
    record {
      acts = subst (λ (u : PoolCore). All (λ step. IsPoolAct u.pool step.act) c.args.steps.now) (sym same) (c.requires.acts s.0 s.1);
      new = subst (λ (u : PoolCore). TellsNew u c.args.steps.now) (sym same) (c.requires.new s.0 s.1);
    }

pub returns-clause-plan : goal.returns-clause-plan
returns-clause-plan c =
    let pools = c.args.self.now.items in
    let xs = c.self.inside.living.items in
    let i = c.in-Some.index in
    let x = c.index_mut.result.now in
    let found : index_in pools c.args.place ≡ Some i = sym c.index_of.ensures ∙ c.in-Some.is in
    let are : xs ≡ living_from 0 pools = c.self.invariant.0 ∙ ap (λ (v : PoolList). living_from 0 v.items) c.self.view_is in
    let same : (s : PoolCore) → slice_get pools c.args.place ≡ Some s → x.core ≡ s = λ s at. ap (λ (y : Placed). y.core) (read-there c.args.place pools s i xs at (alive-of pools c.args.place s c.requires.lives at) found are x c.index_mut.ensures.value) in
    IfOk-weaker c.prepare.result (λ made. IsPlanOf made.1 c.prepare.new.pool) (λ made. (s : PoolCore) → slice_get pools c.args.place ≡ Some s → IsPlanOf made.1 s) (λ made k s at. subst (λ u. IsPlanOf made.1 u) (c.prepare.ensures.same ∙ same s at) k) c.prepare.ensures.plan

pub returns-clause-does : goal.returns-clause-does
returns-clause-does c =
    let pools = c.args.self.now.items in
    let xs = c.self.inside.living.items in
    let i = c.in-Some.index in
    let x = c.index_mut.result.now in
    let found : index_in pools c.args.place ≡ Some i = sym c.index_of.ensures ∙ c.in-Some.is in
    let are : xs ≡ living_from 0 pools = c.self.invariant.0 ∙ ap (λ (v : PoolList). living_from 0 v.items) c.self.view_is in
    let same : (s : PoolCore) → slice_get pools c.args.place ≡ Some s → x.core ≡ s = λ s at. ap (λ (y : Placed). y.core) (read-there c.args.place pools s i xs at (alive-of pools c.args.place s c.requires.lives at) found are x c.index_mut.ensures.value) in
    IfOk-weaker c.prepare.result (λ made. (t : PoolCore) → Plans made.1 c.prepare.new.pool t → LeadsTo x.core t c.args.steps.now made.0.items)
    (λ made. (s t : PoolCore) → slice_get pools c.args.place ≡ Some s → Plans made.1 s t → LeadsTo s t c.args.steps.now made.0.items)
    (λ made k s t at p. subst (λ u. LeadsTo u t c.args.steps.now made.0.items) (same s at) (k t (subst (λ u. Plans made.1 u t) (sym (c.prepare.ensures.same ∙ same s at)) p))) c.prepare.ensures.does
