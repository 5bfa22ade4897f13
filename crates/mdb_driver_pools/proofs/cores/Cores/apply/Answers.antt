use Rattle.std.proofs.Common.{◌≡◌, ◌≤◌, length, set, Some, sym, ◌∙◌, ap, subst, arith}
use Rattle.std.specs.Prelude.{vec_capacity}
use Rattle.std.proofs.lemmas.List.{length-set}
use Rattle.mdb_pool.specs.Planning.{IsPlanOf, Plans}
use Rattle.mdb_driver_pools.specs.declared.placed.Placed.{Placed}
use Rattle.mdb_driver_pools.specs.Living.{index_in, left_at, living_from, PoolList}
use Rattle.mdb_driver_pools.proofs.InMemory.ChangedPools.{index-some, left-put, left-shorter, read-put, read-there}
use Rattle.mdb_driver_pools.proofs.cores.Cores.apply.Goals as goal

pub unreachable-requires : goal.unreachable-requires
unreachable-requires c =
    let l = c.requires.leads.1 in
    index-some c.args.place c.args.self.now.items l.0 l.2 l.5 (sym c.index_of.ensures ∙ c.in_default.is)

pub apply-requires : goal.apply-requires
apply-requires c =
    let pools = c.args.self.now.items in
    let xs = c.self.inside.living.items in
    let i = c.in-Some.index in
    let x = c.index_mut.result.now in
    let found : index_in pools c.args.place ≡ Some i = sym c.index_of.ensures ∙ c.in-Some.is in
    let are : xs ≡ living_from 0 pools = c.self.invariant.0 ∙ ap (λ (v : PoolList). living_from 0 v.items) c.self.view_is in
    let l = c.requires.leads.1 in
    let same : x.core ≡ l.0 = ap (λ (y : Placed). y.core) (read-there c.args.place pools l.0 i xs l.2 l.5 found are x c.index_mut.ensures.value) in
    subst (λ u. IsPlanOf c.args.plan u) (sym same) (l.1, l.3)

pub invariant_of-self : goal.invariant_of-self
invariant_of-self c =
    let pools = c.args.self.now.items in
    let xs = c.self.inside.living.items in
    let i = c.in-Some.index in
    let x = c.index_mut.result.now in
    let found : index_in pools c.args.place ≡ Some i = sym c.index_of.ensures ∙ c.in-Some.is in
    let are : xs ≡ living_from 0 pools = c.self.invariant.0 ∙ ap (λ (v : PoolList). living_from 0 v.items) c.self.view_is in
    let s = c.self.inside in
    let l = c.requires.leads.1 in
    let same : x.core ≡ l.0 = ap (λ (y : Placed). y.core) (read-there c.args.place pools l.0 i xs l.2 l.5 found are x c.index_mut.ensures.value) in
    let became : c.apply.new.pool ≡ l.1 = c.apply.ensures.leads l.1 (subst (λ u. Plans c.args.plan u l.1) (sym same) l.3) in
    let there : c.index.result.now ≡ record { place = c.args.place; core = l.1 } = read-put c.args.place pools l.0 i xs l.2 l.5 found are x c.index_mut.ensures.value c.apply.new.pool l.1 became c.index.result.now c.index.ensures in
    let told : c.of-all.result.value ≡ set s.all.value c.args.place l.1 = c.of-all.ensures ∙ ap (λ (y : Placed). set s.all.value y.place y.core) there in
    let named : set s.all.value c.args.place l.1 ≡ set pools c.args.place l.1 = ap (λ (v : PoolList). set v.items c.args.place l.1) c.self.view_is in
    let as_many : length c.of-all.result.value ≡ length s.all.value = ap length told ∙ length-set s.all.value c.args.place l.1 in
    let put : Placed = record { place = x.place; core = c.apply.new.pool } in
    let fewer : length c.let_go.new.living.items ≤ length s.living.items = subst (λ ys. length ys ≤ length s.living.items) (sym c.let_go.ensures.items) (subst (λ n. length (left_at (set xs i put) i) ≤ n) (length-set xs i put) (left-shorter (set xs i put) i)) in
    let room : vec_capacity c.let_go.new.living ≡ vec_capacity s.living = c.let_go.ensures.capacity in
    (c.let_go.ensures.items ∙ (left-put c.args.place pools l.0 i xs l.2 l.5 found are x c.index_mut.ensures.value c.apply.new.pool l.1 became ∙ ap (living_from 0) (sym (told ∙ named))), c.self.invariant.1 ∙ sym as_many, c.self.invariant.2, omega (arith, fewer, room, c.self.invariant.3))

pub returns-clause-led : goal.returns-clause-led
returns-clause-led c later l =
    let pools = c.args.self.now.items in
    let xs = c.self.inside.living.items in
    let i = c.in-Some.index in
    let x = c.index_mut.result.now in
    let found : index_in pools c.args.place ≡ Some i = sym c.index_of.ensures ∙ c.in-Some.is in
    let are : xs ≡ living_from 0 pools = c.self.invariant.0 ∙ ap (λ (v : PoolList). living_from 0 v.items) c.self.view_is in
    let s = c.self.inside in
    let same : x.core ≡ l.0 = ap (λ (y : Placed). y.core) (read-there c.args.place pools l.0 i xs l.2 l.5 found are x c.index_mut.ensures.value) in
    let became : c.apply.new.pool ≡ l.1 = c.apply.ensures.leads l.1 (subst (λ u. Plans c.args.plan u l.1) (sym same) l.3) in
    let there : c.index.result.now ≡ record { place = c.args.place; core = l.1 } = read-put c.args.place pools l.0 i xs l.2 l.5 found are x c.index_mut.ensures.value c.apply.new.pool l.1 became c.index.result.now c.index.ensures in
    let told : c.of-all.result.value ≡ set s.all.value c.args.place l.1 = c.of-all.ensures ∙ ap (λ (y : Placed). set s.all.value y.place y.core) there in
    l.4 ∙ sym (told ∙ ap (λ (v : PoolList). set v.items c.args.place l.1) c.self.view_is)
