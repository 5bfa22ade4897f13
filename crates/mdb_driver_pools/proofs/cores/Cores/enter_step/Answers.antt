use Rattle.std.proofs.Common.{◌≡◌, ◌≤◌, length, set, Some, None, refl, sym, ◌∙◌, ap, subst, arith}
use Rattle.std.specs.Prelude.{vec_capacity}
use Rattle.std.proofs.lemmas.List.{length-set}
use Rattle.mdb_log.specs.Acts.{IsPoolAct}
use Rattle.mdb_pool.specs.Core.{PoolCore}
use Rattle.mdb_pool.specs.Planning.{DoesLogged}
use Rattle.mdb_pool.specs.Refusing.{refusal_now}
use Rattle.mdb_driver_pools.specs.declared.placed.Placed.{Placed}
use Rattle.mdb_driver_pools.specs.Living.{index_in, left_at, living_from, PoolList}
use Rattle.mdb_driver_pools.proofs.InMemory.ChangedPools.{index-some, left-put, left-shorter, read-put, read-there}
use Rattle.mdb_driver_pools.proofs.InMemory.LivingPools.{alive-of, some-living}
use Rattle.mdb_driver_pools.proofs.cores.Cores.enter_step.Goals as goal

pub unreachable-requires : goal.unreachable-requires
unreachable-requires c =
    let pools = c.args.self.now.items in
    let s = some-living pools c.args.place c.requires.lives in
    index-some c.args.place pools s.0 s.1 (alive-of pools c.args.place s.0 c.requires.lives s.1) (sym c.index_of.ensures ∙ c.in_default.is)

pub enter_step-requires : goal.enter_step-requires
enter_step-requires c =
    let pools = c.args.self.now.items in
    let xs = c.self.inside.living.items in
    let i = c.in-Some.index in
    let x = c.index_mut.result.now in
    let found : index_in pools c.args.place ≡ Some i = sym c.index_of.ensures ∙ c.in-Some.is in
    let are : xs ≡ living_from 0 pools = c.self.invariant.0 ∙ ap (λ (v : PoolList). living_from 0 v.items) c.self.view_is in
    let s = some-living pools c.args.place c.requires.lives in
    let same : x.core ≡ s.0 = ap (λ (y : Placed). y.core) (read-there c.args.place pools s.0 i xs s.1 (alive-of pools c.args.place s.0 c.requires.lives s.1) found are x c.index_mut.ensures.value) in
    record {
      act = subst (λ (u : PoolCore). IsPoolAct u.pool c.args.step.now.act) (sym same) (c.requires.act s.0 s.1);
      passes = subst (λ (u : PoolCore). refusal_now u c.args.step.now ≡ None) (sym same) (c.requires.passes s.0 s.1);
    }

pub invariant_of-self-2 : goal.invariant_of-self-2
invariant_of-self-2 c =
    let pools = c.args.self.now.items in
    let xs = c.self.inside.living.items in
    let i = c.in-Some.index in
    let x = c.index_mut.result.now in
    let found : index_in pools c.args.place ≡ Some i = sym c.index_of.ensures ∙ c.in-Some.is in
    let are : xs ≡ living_from 0 pools = c.self.invariant.0 ∙ ap (λ (v : PoolList). living_from 0 v.items) c.self.view_is in
    let s = c.self.inside in
    let u = some-living pools c.args.place c.requires.lives in
    let lives = alive-of pools c.args.place u.0 c.requires.lives u.1 in
    let t = c.enter_step.new.self in
    let there : c.index.result.now ≡ record { place = c.args.place; core = t } = read-put c.args.place pools u.0 i xs u.1 lives found are x c.index_mut.ensures.value t t refl c.index.result.now c.index.ensures in
    let told : c.of-all.result.value ≡ set s.all.value c.args.place t = c.of-all.ensures ∙ ap (λ (y : Placed). set s.all.value y.place y.core) there in
    let named : set s.all.value c.args.place t ≡ set pools c.args.place t = ap (λ (v : PoolList). set v.items c.args.place t) c.self.view_is in
    let as_many : length c.of-all.result.value ≡ length s.all.value = ap length told ∙ length-set s.all.value c.args.place t in
    let put : Placed = record { place = x.place; core = t } in
    let fewer : length c.let_go.new.living.items ≤ length s.living.items = subst (λ ys. length ys ≤ length s.living.items) (sym c.let_go.ensures.items) (subst (λ n. length (left_at (set xs i put) i) ≤ n) (length-set xs i put) (left-shorter (set xs i put) i)) in
    let room : vec_capacity c.let_go.new.living ≡ vec_capacity s.living = c.let_go.ensures.capacity in
    (c.let_go.ensures.items ∙ (left-put c.args.place pools u.0 i xs u.1 lives found are x c.index_mut.ensures.value t t refl ∙ ap (living_from 0) (sym (told ∙ named))), c.self.invariant.1 ∙ sym as_many, c.self.invariant.2, omega (arith, fewer, room, c.self.invariant.3))

pub returns-clause-does : goal.returns-clause-does
returns-clause-does c = λ u at.
    let pools = c.args.self.now.items in
    let xs = c.self.inside.living.items in
    let i = c.in-Some.index in
    let x = c.index_mut.result.now in
    let found : index_in pools c.args.place ≡ Some i = sym c.index_of.ensures ∙ c.in-Some.is in
    let are : xs ≡ living_from 0 pools = c.self.invariant.0 ∙ ap (λ (v : PoolList). living_from 0 v.items) c.self.view_is in
    let s = c.self.inside in
    let lives = alive-of pools c.args.place u c.requires.lives at in
    let t = c.enter_step.new.self in
    let same : x.core ≡ u = ap (λ (y : Placed). y.core) (read-there c.args.place pools u i xs at lives found are x c.index_mut.ensures.value) in
    let there : c.index.result.now ≡ record { place = c.args.place; core = t } = read-put c.args.place pools u i xs at lives found are x c.index_mut.ensures.value t t refl c.index.result.now c.index.ensures in
    let told : c.of-all.result.value ≡ set s.all.value c.args.place t = c.of-all.ensures ∙ ap (λ (y : Placed). set s.all.value y.place y.core) there in
    let named : set s.all.value c.args.place t ≡ set pools c.args.place t = ap (λ (v : PoolList). set v.items c.args.place t) c.self.view_is in
    (t, subst (λ (v : PoolCore). DoesLogged v t c.args.log.now c.enter_step.new.log c.args.seat c.args.step.now c.in_ok-reply.reply) same c.in_ok-reply.ensures.does, told ∙ named)
