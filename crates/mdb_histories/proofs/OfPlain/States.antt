-- The state of a pool, and whether it could grant a connection, by the plain sentences.
use Rattle.std.proofs.Common.{ℕ, ◌≡◌, Bool, true, false, ◌&&◌, List, [], ◌∷◌, None, refl, ◌∙◌, ap, if◌then◌else◌}
use Rattle.mdb_log.specs.declared.options.PoolOptions.{PoolOptions}
use Rattle.mdb_log.specs.History.{Item, PoolItem, raised, pool_created, pool_ready, pool_closed, of_pool}
use Rattle.mdb_log.specs.Connections.{has}
use Rattle.mdb_log.specs.State.{is_new, is_ready, state_of, ready, could_be_granted}
use Rattle.mdb_log.specs.PlainState.{pools, last_state, has_ready, is_ready_pool, could_be_granted as could_grant}
use Rattle.mdb_sound.specs.Sound.{Sound}
use Rattle.mdb_histories.proofs.OfPlain.Totals.{available-alike, may-create-alike}

module _ (o : PoolOptions) where
  pub last-ready : (xs : List PoolItem) → has_ready (last_state o xs) ≡ ready (state_of o xs)
  last-ready [] = refl
  last-ready (pool_created ∷ xs) = on o.load_balanced
    where
      on : (b : Bool) → ready (if b then is_ready else is_new) ≡ ready (if b then is_ready else is_new)
      on b = refl
  last-ready (pool_ready ∷ xs) = refl
  last-ready (raised None error ∷ xs) = refl
  last-ready (pool_closed ∷ xs) = refl
  last-ready (_ ∷ xs) = last-ready xs

  -- ready by the plain sentences: opened, and ready by its items
  pub ready-alike : (p : ℕ) (h : List Item) → is_ready_pool o p h ≡ has p (pools h) && ready (state_of o (of_pool p h))
  ready-alike p h = on (has p (pools h)) ∙ ap (λ b. has p (pools h) && b) (last-ready (of_pool p h))
    where
      on : (b : Bool) → has_ready (if b then last_state o (of_pool p h) else None) ≡ b && has_ready (last_state o (of_pool p h))
      on true = refl
      on false = refl

  pub could-alike : (p : ℕ) (h : List Item) → Sound (of_pool p h) → could_grant o p h ≡ has p (pools h) && could_be_granted o (of_pool p h)
  could-alike p h s = rw (ready-alike p h, available-alike (of_pool p h) s, may-create-alike o (of_pool p h) s) (three (has p (pools h)) (ready (state_of o (of_pool p h))) _)
    where
      three : (a b c : Bool) → (a && b) && c ≡ a && (b && c)
      three true b c = refl
      three false b c = refl
