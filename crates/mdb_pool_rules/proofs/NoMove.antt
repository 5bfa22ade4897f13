-- A pool that has no next move has none at any moment, warm requests and an idle limit included; and the serving ends there.
use Rattle.std.proofs.Common.{ℕ, zero, suc, ◌≡◌, ◌+◌, ◌<◌, ◌≤◌, Bool, true, false, List, [], ◌∷◌, length, Option, Some, None, ◌⊎◌, inl, inr, refl, sym, ◌∙◌, ap, arith, if◌then◌else◌}
use Rattle.mdb_base.specs.declared.address.ServerAddress.{ServerAddress}
use Rattle.mdb_log.specs.declared.options.PoolOptions.{PoolOptions}
use Rattle.mdb_log.specs.History.{PoolItem, after_facts}
use Rattle.mdb_log.specs.State.{is_stale, state_of, ready, may_create, is_empty, is_idle}
use Rattle.mdb_log.specs.Requests.{queued, is_warm}
use Rattle.mdb_log.specs.Connections.{available_list}
use Rattle.mdb_pool_rules.specs.Serving.{last_of, is_blocked, candidate, next_move, serve, serving, wants_connection, IsServed}
use Rattle.mdb_log.specs.Legal.{NoneLeftWaiting}
use Rattle.mdb_pool_rules.proofs.Fair.{serve-nothing, Move, nothing, closing, granting, creating, warming, move-of, size, shrinks}
use Rattle.mdb_log.proofs.Later.{after-append}

module _ (o : PoolOptions) (xs : List PoolItem) (p q : ℕ) (a b : ServerAddress) (n m : ℕ) where
  candidate-any : (rs : List ℕ) → candidate o xs rs ≡ candidate o xs rs
  candidate-any [] = refl
  candidate-any (r ∷ rs) = ap (λ k. if is_blocked o xs r then k else Some r) (candidate-any rs)

  pub served-any : next_move p a o n xs ≡ [] → next_move q b o m xs ≡ []
  served-any e = at_status (ready (state_of o xs)) refl
    where
      some : is_empty (next_move p a o n xs) ≡ false → next_move q b o m xs ≡ []
      some g = let k : true ≡ false = sym (ap is_empty e) ∙ g in cc

      at_room : (c : Bool) (r : ℕ) → may_create o xs ≡ c → ready (state_of o xs) ≡ true → candidate o xs (queued xs) ≡ Some r → is_warm xs r ≡ false → last_of (available_list xs) ≡ None → next_move q b o m xs ≡ []
      at_room true r f s k w l = some (rw (s, k, w, l, f) refl)
      at_room false r f s k w l = let k2 : candidate o xs (queued xs) ≡ Some r = sym (candidate-any (queued xs)) ∙ k in rw (s, k2, w, l, f) refl

      at_idle : (c : Bool) (r d : ℕ) → is_idle o n xs d ≡ c → is_stale o xs d ≡ false → ready (state_of o xs) ≡ true → candidate o xs (queued xs) ≡ Some r → is_warm xs r ≡ false → last_of (available_list xs) ≡ Some d → next_move q b o m xs ≡ []
      at_idle true r d f g s k w l = some (rw (s, k, w, l, g, f) refl)
      at_idle false r d f g s k w l = some (rw (s, k, w, l, g, f) refl)

      at_stale : (c : Bool) (r d : ℕ) → is_stale o xs d ≡ c → ready (state_of o xs) ≡ true → candidate o xs (queued xs) ≡ Some r → is_warm xs r ≡ false → last_of (available_list xs) ≡ Some d → next_move q b o m xs ≡ []
      at_stale true r d f s k w l = some (rw (s, k, w, l, f) refl)
      at_stale false r d f s k w l = at_idle (is_idle o n xs d) r d refl f s k w l

      at_last : (c : Option ℕ) (r : ℕ) → last_of (available_list xs) ≡ c → ready (state_of o xs) ≡ true → candidate o xs (queued xs) ≡ Some r → is_warm xs r ≡ false → next_move q b o m xs ≡ []
      at_last None r l s k w = at_room (may_create o xs) r refl s k w l
      at_last (Some d) r l s k w = at_stale (is_stale o xs d) r d refl s k w l

      at_wants : (c : Bool) (r : ℕ) → wants_connection o xs ≡ c → ready (state_of o xs) ≡ true → candidate o xs (queued xs) ≡ Some r → is_warm xs r ≡ true → next_move q b o m xs ≡ []
      at_wants true r f s k w = some (rw (s, k, w, f) refl)
      at_wants false r f s k w = some (rw (s, k, w, f) refl)

      at_warm : (c : Bool) (r : ℕ) → is_warm xs r ≡ c → ready (state_of o xs) ≡ true → candidate o xs (queued xs) ≡ Some r → next_move q b o m xs ≡ []
      at_warm true r w s k = at_wants (wants_connection o xs) r refl s k w
      at_warm false r w s k = at_last (last_of (available_list xs)) r refl s k w

      at_candidate : (c : Option ℕ) → candidate o xs (queued xs) ≡ c → ready (state_of o xs) ≡ true → next_move q b o m xs ≡ []
      at_candidate None k s = let k2 : candidate o xs (queued xs) ≡ None = sym (candidate-any (queued xs)) ∙ k in rw (s, k2) refl
      at_candidate (Some r) k s = at_warm (is_warm xs r) r refl s k

      at_status : (c : Bool) → ready (state_of o xs) ≡ c → next_move q b o m xs ≡ []
      at_status true s = at_candidate (candidate o xs (queued xs)) refl s
      at_status false s = rw s refl

module _ (p : ℕ) (a : ServerAddress) (o : PoolOptions) (n : ℕ) where
  -- the serving ends where no move is left
  serve-ends : (k : ℕ) (xs : List PoolItem) → size p a o n xs ≤ k → next_move p a o n (after_facts p n (serve p a o n k xs) xs) ≡ []
  serve-ends zero xs l = on (shrinks p a o n xs (move-of p a o n xs))
    where
      on : ((next_move p a o n xs ≡ []) × NoneLeftWaiting o xs) ⊎ (size p a o n (after_facts p n (next_move p a o n xs) xs) < size p a o n xs) → next_move p a o n xs ≡ []
      on (inl e) = e.0
      on (inr f) = absurd (omega arith)
  serve-ends (suc k) xs l = on (shrinks p a o n xs (move-of p a o n xs)) (serve-ends k (after_facts p n (next_move p a o n xs) xs))
    where
      on : ((next_move p a o n xs ≡ []) × NoneLeftWaiting o xs) ⊎ (size p a o n (after_facts p n (next_move p a o n xs) xs) < size p a o n xs) → (size p a o n (after_facts p n (next_move p a o n xs) xs) ≤ k → next_move p a o n (after_facts p n (serve p a o n k (after_facts p n (next_move p a o n xs) xs)) (after_facts p n (next_move p a o n xs) xs)) ≡ []) → next_move p a o n (after_facts p n (serve p a o n (suc k) xs) xs) ≡ []
      on (inl e) deeper = rw (serve-nothing p a o n (suc k) xs e.0) e.0
      on (inr f) deeper = rw (after-append p n (next_move p a o n xs) (serve p a o n k (after_facts p n (next_move p a o n xs) xs)) xs) (deeper (omega arith))

  pub serving-serves : (xs : List PoolItem) → IsServed o (after_facts p n (serving p a o n xs) xs)
  serving-serves xs q b m = served-any o (after_facts p n (serving p a o n xs) xs) p q a b n m (serve-ends (size p a o n xs) xs (omega arith))

-- a pool that is served has nothing to serve
pub served-serving : (o : PoolOptions) (xs : List PoolItem) → IsServed o xs → (p : ℕ) (a : ServerAddress) (n : ℕ) → serving p a o n xs ≡ []
served-serving o xs i p a n = serve-nothing p a o n (length (queued xs) + length (available_list xs)) xs (i p a n)

-- nobody waits there who could be served
pub served-settled : (o : PoolOptions) (xs : List PoolItem) → IsServed o xs → (a : ServerAddress) → NoneLeftWaiting o xs
served-settled o xs i a = on (move-of 0 a o 0 xs)
  where
    some : is_empty (next_move 0 a o 0 xs) ≡ false → NoneLeftWaiting o xs
    some g = let k : true ≡ false = sym (ap is_empty (i 0 a 0)) ∙ g in cc

    on : Move 0 a o 0 xs → NoneLeftWaiting o xs
    on (nothing e s) = s
    on (closing c why e k) = some (ap is_empty e)
    on (granting r c e k f) = some (ap is_empty e)
    on (creating r e k f) = some (ap is_empty e)
    on (warming r e k) = some (ap is_empty e)
