-- The generation of a connection, as its pool tells it: whether it is outdated, and of which service it is.
use Rattle.std.proofs.Common.{ℕ, ◌≡◌, ◌==◌, ◌&&◌, Bool, true, false, not, if◌then◌else◌, Option, Some, None, is_some, refl, ◌∙◌, ap}
use Rattle.mdb_base.specs.declared.object_id.ObjectId.{ObjectId}
use Rattle.mdb_log.specs.declared.generation.ConnectionGeneration.{ConnectionGeneration}
use Rattle.mdb_log.specs.declared.generation.ConnectionGeneration.TheVariants.{Normal, LoadBalanced}
use Rattle.mdb_log.specs.declared.generation.LoadBalancedGeneration.{LoadBalancedGeneration}
use Rattle.mdb_log.specs.Generations.{carried, service_named}
use Rattle.mdb_pool.specs.Core.{PoolCore}
use Rattle.mdb_pool.specs.Now.{clears_before_now, clears_now, generation_now, is_live_now, service_now}
use Rattle.mdb_pool.proofs.Told.OfQueries.{generation-is}
use Rattle.mdb_topology.specs.Complaining.{is_outdated}

-- the generation that is carried is not that of now: of the service under load balancing, where one was named, and else of the pool as a whole
abbrev differs : Bool → (Option ObjectId → ℕ) → (Option ObjectId → ℕ) → Option ObjectId → Bool
differs b before now t =
    let u : Option ObjectId = if b then t else None in
    not (b && not (is_some u)) && not (before u == now u)

normal : (b : Bool) (before now : Option ObjectId → ℕ) (t : Option ObjectId) (own : ℕ) → Normal own ≡ carried b before t → not (own == now None) ≡ differs b before now t
normal false before now t own e = let same : own ≡ before None = cc in rw same refl
normal true before now None own e = cc
normal true before now (Some v) own e = cc

balanced : (b : Bool) (before now : Option ObjectId → ℕ) (t : Option ObjectId) (own : LoadBalancedGeneration) → LoadBalanced (Some own) ≡ carried b before t → not (own.generation == now (Some own.service_id)) ≡ differs b before now t
balanced false before now t own e = cc
balanced true before now None own e = cc
balanced true before now (Some v) own e = let same : own ≡ record { generation = before (Some v); service_id = v } = cc in rw same refl

unserved : (b : Bool) (before now : Option ObjectId → ℕ) (t : Option ObjectId) → LoadBalanced None ≡ carried b before t → false ≡ differs b before now t
unserved false before now t e = cc
unserved true before now None e = refl
unserved true before now (Some v) e = cc

named : (before : Option ObjectId → ℕ) (t : Option ObjectId) → service_named (carried true before t) ≡ t
named before None = refl
named before (Some v) = refl

module _ (s : PoolCore) (id : ℕ) (live : is_live_now s id ≡ true) where
  carries : (own : ConnectionGeneration) → Some own ≡ generation_now s id → own ≡ carried s.options.load_balanced (clears_before_now s id) (service_now s id)
  carries own e =
      let w : Some own ≡ Some (carried s.options.load_balanced (clears_before_now s id) (service_now s id)) = e ∙ generation-is s id live in
      let same : own ≡ carried s.options.load_balanced (clears_before_now s id) (service_now s id) = cc in
      same

  pub outdated-normal : (own : ℕ) → Some (Normal own) ≡ generation_now s id → not (own == clears_now s None) ≡ is_outdated s id
  outdated-normal own e = normal s.options.load_balanced (clears_before_now s id) (clears_now s) (service_now s id) own (carries (Normal own) e)

  pub outdated-balanced : (own : LoadBalancedGeneration) → Some (LoadBalanced (Some own)) ≡ generation_now s id → not (own.generation == clears_now s (Some own.service_id)) ≡ is_outdated s id
  outdated-balanced own e = balanced s.options.load_balanced (clears_before_now s id) (clears_now s) (service_now s id) own (carries (LoadBalanced (Some own)) e)

  -- a connection that was told no service is never outdated under load balancing
  pub outdated-unserved : Some (LoadBalanced None) ≡ generation_now s id → false ≡ is_outdated s id
  outdated-unserved e = unserved s.options.load_balanced (clears_before_now s id) (clears_now s) (service_now s id) (carries (LoadBalanced None) e)

  pub service-told : s.options.load_balanced ≡ true → (own : ConnectionGeneration) → Some own ≡ generation_now s id → service_named own ≡ service_now s id
  service-told f own e = ap service_named (carries own e) ∙ (ap (λ b. service_named (carried b (clears_before_now s id) (service_now s id))) f ∙ named (clears_before_now s id) (service_now s id))

  -- a live connection carries a generation
  pub outdated-none : None ≡ generation_now s id → false ≡ is_outdated s id
  outdated-none e = let w : None ≡ Some (carried s.options.load_balanced (clears_before_now s id) (service_now s id)) = e ∙ generation-is s id live in cc

  pub service-none : None ≡ generation_now s id → None ≡ service_now s id
  service-none e = let w : None ≡ Some (carried s.options.load_balanced (clears_before_now s id) (service_now s id)) = e ∙ generation-is s id live in cc
