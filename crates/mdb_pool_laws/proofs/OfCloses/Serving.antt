-- Why connections are closed by the serving: the search for a caller meets them.
use Rattle.std.proofs.Common.{ℕ, zero, suc, ◌≡◌, ◌+◌, Bool, true, false, List, length, Option, Some, None, refl}
use Rattle.mdb_base.specs.declared.address.ServerAddress.{ServerAddress}
use Rattle.mdb_events.specs.declared.reasons.ConnectionClosedReason.{ConnectionClosedReason}
use Rattle.mdb_log.specs.declared.options.PoolOptions.{PoolOptions}
use Rattle.mdb_log.specs.declared.step.Act.{Act}
use Rattle.mdb_log.specs.History.{PoolItem, after_facts}
use Rattle.mdb_log.specs.Connections.{available_list}
use Rattle.mdb_log.specs.Requests.{queued, is_warm}
use Rattle.mdb_log.specs.State.{state_of, ready, may_create}
use Rattle.mdb_pool_rules.specs.Facts.{perished}
use Rattle.mdb_pool_rules.specs.Serving.{last_of, candidate, wants_connection, caller_move, meet, warm_move, move_for, next_move, serve, serving}
use Rattle.mdb_pool_rules.proofs.Fair.{candidate-first}
use Rattle.mdb_pool_laws.specs.CloseCauses.{meeting, AllCaused}
use Rattle.mdb_pool_laws.proofs.OfCloses.Quiet.{caused-both}

module _ (p : ℕ) (a : ServerAddress) (o : PoolOptions) (here : ServerAddress → Option ℕ) (m : ℕ) (act : Act) where
  module _ (xs : List PoolItem) where
    met-caused : (r c : ℕ) → ready (state_of o xs) ≡ true → candidate o xs (queued xs) ≡ Some r → is_warm xs r ≡ false → last_of (available_list xs) ≡ Some c → (why : Option ConnectionClosedReason) → perished o m xs c ≡ why → AllCaused p o here m act xs (meet p a o m xs r c why)
    met-caused r c e f w l None g = (tt, (tt, tt))
    met-caused r c e f w l (Some why) g = (λ i. meeting (record { open_now = e; caller = r; waits = candidate-first p a o m xs r (queued xs) f w; newest = l }) g, tt)

    called-caused : (r : ℕ) → ready (state_of o xs) ≡ true → candidate o xs (queued xs) ≡ Some r → is_warm xs r ≡ false → (k : Option ℕ) → last_of (available_list xs) ≡ k → AllCaused p o here m act xs (caller_move p a o m xs r k)
    called-caused r e f w (Some c) l = met-caused r c e f w l (perished o m xs c) refl
    called-caused r e f w None l = on (may_create o xs) refl
      where
        on : (b : Bool) → may_create o xs ≡ b → AllCaused p o here m act xs (caller_move p a o m xs r None)
        on true g = rw g (tt, (tt, tt))
        on false g = rw g tt

    warmed-caused : (r : ℕ) → AllCaused p o here m act xs (warm_move p a o xs r)
    warmed-caused r = on (wants_connection o xs) refl
      where
        on : (b : Bool) → wants_connection o xs ≡ b → AllCaused p o here m act xs (warm_move p a o xs r)
        on true g = rw g (tt, (tt, tt))
        on false g = rw g (tt, tt)

    move-caused : ready (state_of o xs) ≡ true → (k : Option ℕ) → candidate o xs (queued xs) ≡ k → AllCaused p o here m act xs (move_for p a o m xs k)
    move-caused e None f = tt
    move-caused e (Some r) f = on (is_warm xs r) refl
      where
        on : (b : Bool) → is_warm xs r ≡ b → AllCaused p o here m act xs (move_for p a o m xs (Some r))
        on true w = rw w (warmed-caused r)
        on false w = rw w (called-caused r e f w (last_of (available_list xs)) refl)

    next-caused : AllCaused p o here m act xs (next_move p a o m xs)
    next-caused = on (ready (state_of o xs)) refl
      where
        on : (b : Bool) → ready (state_of o xs) ≡ b → AllCaused p o here m act xs (next_move p a o m xs)
        on true e = rw e (move-caused e (candidate o xs (queued xs)) refl)
        on false e = rw e tt

  serve-caused : (n : ℕ) (xs : List PoolItem) → AllCaused p o here m act xs (serve p a o m n xs)
  serve-caused zero xs = tt
  serve-caused (suc n) xs = caused-both p o here m act (next_move p a o m xs) (serve p a o m n (after_facts p m (next_move p a o m xs) xs)) xs (next-caused xs) (serve-caused n (after_facts p m (next_move p a o m xs) xs))

  pub serving-caused : (xs : List PoolItem) → AllCaused p o here m act xs (serving p a o m xs)
  serving-caused xs = serve-caused (length (queued xs) + length (available_list xs)) xs
