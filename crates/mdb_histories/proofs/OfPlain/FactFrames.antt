-- What one more fact changes of the grants and ends of a pool's requests.
use Rattle.std.proofs.Common.{ℕ, ◌≡◌, ◌==◌, Bool, true, false, ◌&&◌, ◌||◌, List, ◌∷◌, is_some, refl, subst}
use Rattle.mdb_events.specs.declared.fact.Fact.{Fact}
use Rattle.mdb_events.specs.declared.fact.Fact.TheVariants.{Opened, Pool, Granted, Ended, Raised, Sdam, CheckNow, Cancel}
use Rattle.mdb_events.specs.declared.cmap.CmapEvent.TheVariants.{PoolCreated, PoolReady, PoolCleared, PoolClosed, ConnectionCreated, ConnectionReady, ConnectionClosed, ConnectionCheckoutStarted, ConnectionCheckoutFailed, ConnectionCheckedOut, ConnectionCheckedIn}
use Rattle.mdb_log.specs.History.{Item, made, PoolItem, granted, ended, has_asked, if_so, after_fact}
use Rattle.mdb_log.specs.Requests.{end_of}
use Rattle.mdb_log.specs.PlainRequests.{is_granted, is_ended}
use Rattle.mdb_sound.specs.Counts.{was_granted}
use Rattle.mdb_histories.proofs.OfPlain.Lists.{same-if}
use Rattle.mdb_histories.proofs.OfPlain.Frames.{if-still}

-- the fact ends the request, and the fact grants it a connection of pool p
abbrev pub ends : Fact → ℕ → Bool
ends (Ended q end) r = q == r
ends _ r = false

abbrev pub grants : Fact → ℕ → Bool
grants (Granted q n c) r = q == r
grants _ r = false

abbrev pub grants_at : ℕ → Fact → ℕ → Bool
grants_at p (Granted q n c) r = (n == p) && (q == r)
grants_at p _ r = false

pub ended-made : (m : ℕ) (f : Fact) (h : List Item) (r : ℕ) → is_ended (made m f ∷ h) r ≡ ends f r || is_ended h r
ended-made m (Ended q end) h r = refl
ended-made m _ h r = refl

pub granted-made : (m : ℕ) (f : Fact) (h : List Item) (r : ℕ) → is_granted (made m f ∷ h) r ≡ grants f r || is_granted h r
granted-made m (Granted q n c) h r = refl
granted-made m _ h r = refl

module _ (p m : ℕ) (xs : List PoolItem) (r : ℕ) where
  -- an end is of the pool that its request asked
  pub end-fact : has_asked xs r ≡ true → (f : Fact) → is_some (end_of (after_fact p m f xs) r) ≡ ends f r || is_some (end_of xs r)
  end-fact a (Ended q end) = on (q == r) (has_asked xs q) refl refl
    where
      on : (same b : Bool) → (q == r) ≡ same → has_asked xs q ≡ b → is_some (end_of (if_so b (ended q end) xs) r) ≡ same || is_some (end_of xs r)
      on true true e f = rw e refl
      on true false e f = let g : has_asked xs r ≡ false = subst (λ n. has_asked xs n ≡ false) (same-if q r e) f in cc
      on false true e f = rw e refl
      on false false e f = refl
  end-fact a (Opened q b) = refl
  end-fact a (Pool q (PoolCreated e)) = if-still (λ ys. is_some (end_of ys r)) xs (q == p) _ refl
  end-fact a (Pool q (PoolReady e)) = if-still (λ ys. is_some (end_of ys r)) xs (q == p) _ refl
  end-fact a (Pool q (PoolCleared e)) = refl
  end-fact a (Pool q (PoolClosed e)) = if-still (λ ys. is_some (end_of ys r)) xs (q == p) _ refl
  end-fact a (Pool q (ConnectionCreated e)) = if-still (λ ys. is_some (end_of ys r)) xs (q == p) _ refl
  end-fact a (Pool q (ConnectionReady e)) = refl
  end-fact a (Pool q (ConnectionClosed e)) = if-still (λ ys. is_some (end_of ys r)) xs (q == p) _ refl
  end-fact a (Pool q (ConnectionCheckoutStarted e)) = refl
  end-fact a (Pool q (ConnectionCheckoutFailed e)) = refl
  end-fact a (Pool q (ConnectionCheckedOut e)) = refl
  end-fact a (Pool q (ConnectionCheckedIn e)) = if-still (λ ys. is_some (end_of ys r)) xs (q == p) _ refl
  end-fact a (Granted k q c) = if-still (λ ys. is_some (end_of ys r)) xs (q == p) _ refl
  end-fact a (Raised q service error) = if-still (λ ys. is_some (end_of ys r)) xs (q == p) _ refl
  end-fact a (Sdam e) = refl
  end-fact a (CheckNow b) = refl
  end-fact a (Cancel b) = refl

  -- a grant is of the pool that it names
  pub grant-fact : (f : Fact) → was_granted (after_fact p m f xs) r ≡ grants_at p f r || was_granted xs r
  grant-fact (Granted k q c) = on (q == p)
    where
      on : (b : Bool) → was_granted (if_so b (granted k c) xs) r ≡ (b && (k == r)) || was_granted xs r
      on true = refl
      on false = refl
  grant-fact (Opened q b) = refl
  grant-fact (Pool q (PoolCreated e)) = if-still (λ ys. was_granted ys r) xs (q == p) _ refl
  grant-fact (Pool q (PoolReady e)) = if-still (λ ys. was_granted ys r) xs (q == p) _ refl
  grant-fact (Pool q (PoolCleared e)) = refl
  grant-fact (Pool q (PoolClosed e)) = if-still (λ ys. was_granted ys r) xs (q == p) _ refl
  grant-fact (Pool q (ConnectionCreated e)) = if-still (λ ys. was_granted ys r) xs (q == p) _ refl
  grant-fact (Pool q (ConnectionReady e)) = refl
  grant-fact (Pool q (ConnectionClosed e)) = if-still (λ ys. was_granted ys r) xs (q == p) _ refl
  grant-fact (Pool q (ConnectionCheckoutStarted e)) = refl
  grant-fact (Pool q (ConnectionCheckoutFailed e)) = refl
  grant-fact (Pool q (ConnectionCheckedOut e)) = refl
  grant-fact (Pool q (ConnectionCheckedIn e)) = if-still (λ ys. was_granted ys r) xs (q == p) _ refl
  grant-fact (Ended k end) = if-still (λ ys. was_granted ys r) xs (has_asked xs k) _ refl
  grant-fact (Raised q service error) = if-still (λ ys. was_granted ys r) xs (q == p) _ refl
  grant-fact (Sdam e) = refl
  grant-fact (CheckNow b) = refl
  grant-fact (Cancel b) = refl
