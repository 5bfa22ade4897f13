-- The generation that goes with a pending connection is that of the pool's items before its creation.
use Rattle.std.proofs.Common.{ℕ, ◌≡◌, ◌+◌, Bool, true, false, ◌||◌, nat_lt, List, [], ◌∷◌, map, Option, Some, None, refl, sym, ◌∙◌, ap, arith, true≢false, if◌then◌else◌, ◌==◌}
use Rattle.std.specs.List.Sorted.{IsStrictlySortedBy}
use Rattle.std.proofs.lemmas.Bool.Decides.{nat_tests}
use Rattle.mdb_base.specs.Equality.{same_id}
use Rattle.mdb_base.specs.declared.object_id.ObjectId.{ObjectId}
use Rattle.mdb_log.specs.declared.generation.PoolGeneration.TheVariants.{Normal, LoadBalanced}
use Rattle.mdb_log.specs.History.{PoolItem, created, raised}
use Rattle.mdb_log.specs.Connections.{one_if, has, pending_list}
use Rattle.mdb_log.specs.State.{generation_of, generation_before}
use Rattle.mdb_pool.specs.declared.kept.connection.Connection.{Connection}
use Rattle.mdb_pool.specs.Core.{PoolCore}
use Rattle.mdb_pool.specs.Kept.Values.{connection_at, is_pending_at, clears_before, count_at}
use Rattle.mdb_pool.specs.Standing.{Fits}
use Rattle.mdb_pool_rules.specs.Jobs.{items_before, cleared_services, generations, has_id}
use Rattle.mdb_pool.proofs.Answered.Act.{pending-is}
use Rattle.mdb_pool.proofs.Follows.Stale.{live-created}
use Rattle.mdb_pool_rules.proofs.OrderOfIds.{Ascends, same-back, ascends-put, has-put, one-ascent}
use Rattle.mdb_pool.proofs.Told.ServicesOfClears.{AreNamed}

before-items : (xs : List PoolItem) (c : ℕ) (t : Option ObjectId) → generation_of (items_before xs c) t ≡ generation_before xs c t
before-items [] c t = refl
before-items (created d m ∷ xs) c t = on (d == c) (before-items xs c t)
  where
    on : (b : Bool) → generation_of (items_before xs c) t ≡ generation_before xs c t → generation_of (if b then xs else items_before xs c) t ≡ (if b then generation_of xs t else generation_before xs c t)
    on true rest = refl
    on false rest = rest
before-items (_ ∷ xs) c t = before-items xs c t

-- the services that were cleared ascend, and are those that were cleared at least once

cleared-ascends : (xs : List PoolItem) → Ascends (cleared_services xs)
unfolding IsStrictlySortedBy
cleared-ascends [] = tt
cleared-ascends (raised (Some s) error ∷ xs) = ascends-put s (cleared_services xs) (cleared-ascends xs)
cleared-ascends (_ ∷ xs) = cleared-ascends xs

has-cleared : (t : ObjectId) (xs : List PoolItem) → has_id t (cleared_services xs) ≡ nat_lt 0 (generation_of xs (Some t))
has-cleared t [] = refl
has-cleared t (raised (Some s) error ∷ xs) = has-put t s (cleared_services xs) ∙ rw (same-back t s, has-cleared t xs) (on (same_id s t))
  where
    on : (b : Bool) → (b || nat_lt 0 (generation_of xs (Some t))) ≡ nat_lt 0 (generation_of xs (Some t) + one_if b)
    on true = grind (arith, nat_tests)
    on false = grind (arith, nat_tests)
has-cleared t (raised None error ∷ xs) = has-cleared t xs ∙ grind (arith, nat_tests)
has-cleared t (_ ∷ xs) = has-cleared t xs

map-same : {A B : Type 0} (f g : A → B) → ((a : A) → f a ≡ g a) → (xs : List A) → map f xs ≡ map g xs
map-same f g same [] = refl
map-same f g same (x ∷ xs) = rw (same x, map-same f g same xs) refl

module _ (s : PoolCore) (xs : List PoolItem) (z : Fits s xs) (c : ℕ) (waits : has c (pending_list xs) ≡ true) where
  counts : (t : Option ObjectId) → (count_at s c t ≡ generation_of (items_before xs c) t) × (clears_before c t s.kept.clears ≡ generation_of (items_before xs c) t)
  counts t = on (connection_at s c) refl (sym (pending-is s xs z c) ∙ waits)
    where
      on : (o : Option Connection) → connection_at s c ≡ o → is_pending_at (connection_at s c) ≡ true → (count_at s c t ≡ generation_of (items_before xs c) t) × (clears_before c t s.kept.clears ≡ generation_of (items_before xs c) t)
      on None e f = absurd (true≢false (sym f ∙ ap is_pending_at e))
      on (Some x) e f =
          let same : clears_before c t s.kept.clears ≡ generation_of (items_before xs c) t = sym (z.matches.clearing.before c t (live-created s xs z.matches c x e)) ∙ sym (before-items xs c t) in
          (rw e same, same)

  pub normal-generation : s.options.load_balanced ≡ false → Normal (count_at s c None) ≡ generations s.options.load_balanced (items_before xs c)
  normal-generation e = rw e (ap Normal (counts None).0)

  pub balanced-generation : s.options.load_balanced ≡ true → (services : List ObjectId) → Ascends services → AreNamed c s.kept.clears services → LoadBalanced (map (λ t. (t, count_at s c (Some t))) services) ≡ generations s.options.load_balanced (items_before xs c)
  balanced-generation e services up named =
      let all : services ≡ cleared_services (items_before xs c) = one-ascent services (cleared_services (items_before xs c)) up (cleared-ascends (items_before xs c)) (λ t. named t ∙ (ap (nat_lt 0) (counts (Some t)).1 ∙ sym (has-cleared t (items_before xs c)))) in
      rw (e, all) (ap LoadBalanced (map-same (λ t. (t, count_at s c (Some t))) (λ t. (t, generation_of (items_before xs c) (Some t))) (λ t. ap (λ n. (t, n)) (counts (Some t)).0) (cleared_services (items_before xs c))))
