-- The serving of a pool grants a caller the available connection that came back last, and a new one where none is available.
use Rattle.std.proofs.Common.{ℕ, zero, suc, ◌≡◌, ◌+◌, Bool, true, false, List, [], ◌∷◌, ◌++◌, length, Option, Some, None, inl, inr, refl}
use Rattle.mdb_base.specs.declared.address.ServerAddress.{ServerAddress}
use Rattle.mdb_events.specs.declared.fact.Fact.{Fact}
use Rattle.mdb_events.specs.declared.fact.Fact.TheVariants as fact
use Rattle.mdb_events.specs.declared.reasons.ConnectionClosedReason.{ConnectionClosedReason}
use Rattle.mdb_log.specs.declared.options.PoolOptions.{PoolOptions}
use Rattle.mdb_log.specs.History.{PoolItem, after_fact, after_facts}
use Rattle.mdb_log.specs.Connections.{available_list}
use Rattle.mdb_log.specs.Requests.{queued, is_warm}
use Rattle.mdb_log.specs.State.{state_of, ready, may_create}
use Rattle.mdb_log.proofs.Numbers.{same-number}
use Rattle.mdb_pool_rules.specs.Facts.{perished}
use Rattle.mdb_pool_rules.specs.Serving.{last_of, candidate, wants_connection, creation, caller_move, meet, warm_move, move_for, next_move, serve, serving}
use Rattle.mdb_pool_rules.proofs.FactsGrantNothing.{IsCalm, AreCalm}
use Rattle.mdb_pool_rules.proofs.Listed.Last.{last_of-none}
use Rattle.mdb_pool_laws.specs.Searches.{GrantsLast, AllGrantLast}

module _ (p m : ℕ) where
  pub last-both : (fs gs : List Fact) (xs : List PoolItem) → AllGrantLast p m xs fs → AllGrantLast p m (after_facts p m fs xs) gs → AllGrantLast p m xs (fs ++ gs)
  last-both [] gs xs a b = b
  last-both (f ∷ fs) gs xs a b = (a.0, last-both fs gs (after_fact p m f xs) a.1 b)

  -- facts that grant nothing
  calm-one : (n : ℕ) (f : Fact) (xs : List PoolItem) → IsCalm n f → GrantsLast xs f
  calm-one n (fact.Granted r q c) xs i = absurd i
  calm-one n _ xs i = tt

  pub calm-last : (n : ℕ) (fs : List Fact) (xs : List PoolItem) → AreCalm n fs → AllGrantLast p m xs fs
  calm-last n [] xs i = tt
  calm-last n (f ∷ fs) xs i = (calm-one n f xs i.0, calm-last n fs (after_fact p m f xs) i.1)

module _ (p : ℕ) (a : ServerAddress) (o : PoolOptions) (m : ℕ) where
  module _ (xs : List PoolItem) where
    met-last : (r c : ℕ) → last_of (available_list xs) ≡ Some c → (why : Option ConnectionClosedReason) → AllGrantLast p m xs (meet p a o m xs r c why)
    met-last r c l None = (λ w. inl l, (tt, tt))
    met-last r c l (Some why) = (tt, tt)

    -- the creation is no grant, and makes nothing available
    created-last : (r : ℕ) → (is_warm xs r ≡ false → available_list xs ≡ []) → AllGrantLast p m xs (creation p a xs r)
    created-last r none = rw (same-number p) (tt, (λ w. inr (none w), tt))

    called-last : (r : ℕ) (k : Option ℕ) → last_of (available_list xs) ≡ k → AllGrantLast p m xs (caller_move p a o m xs r k)
    called-last r (Some c) l = met-last r c l (perished o m xs c)
    called-last r None l = on (may_create o xs) refl
      where
        on : (b : Bool) → may_create o xs ≡ b → AllGrantLast p m xs (caller_move p a o m xs r None)
        on true g = rw g (created-last r (λ w. last_of-none (available_list xs) l))
        on false g = rw g tt

    warmed-last : (r : ℕ) → is_warm xs r ≡ true → AllGrantLast p m xs (warm_move p a o xs r)
    warmed-last r warm = on (wants_connection o xs) refl
      where
        on : (b : Bool) → wants_connection o xs ≡ b → AllGrantLast p m xs (warm_move p a o xs r)
        on true g = rw g (created-last r (λ w. cc))
        on false g = rw g (tt, tt)

    move-last : (k : Option ℕ) → AllGrantLast p m xs (move_for p a o m xs k)
    move-last None = tt
    move-last (Some r) = on (is_warm xs r) refl
      where
        on : (b : Bool) → is_warm xs r ≡ b → AllGrantLast p m xs (move_for p a o m xs (Some r))
        on true w = rw w (warmed-last r w)
        on false w = rw w (called-last r (last_of (available_list xs)) refl)

    next-last : AllGrantLast p m xs (next_move p a o m xs)
    next-last = on (ready (state_of o xs)) refl
      where
        on : (b : Bool) → ready (state_of o xs) ≡ b → AllGrantLast p m xs (next_move p a o m xs)
        on true e = rw e (move-last (candidate o xs (queued xs)))
        on false e = rw e tt

  serve-last : (n : ℕ) (xs : List PoolItem) → AllGrantLast p m xs (serve p a o m n xs)
  serve-last zero xs = tt
  serve-last (suc n) xs = last-both p m (next_move p a o m xs) (serve p a o m n (after_facts p m (next_move p a o m xs) xs)) xs (next-last xs) (serve-last n (after_facts p m (next_move p a o m xs) xs))

  pub serving-last : (xs : List PoolItem) → AllGrantLast p m xs (serving p a o m xs)
  serving-last xs = serve-last (length (queued xs) + length (available_list xs)) xs
