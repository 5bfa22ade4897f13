-- What one more step or fact changes of what is said of a pool.
use Rattle.std.proofs.Common.{ℕ, ◌≡◌, ◌==◌, Bool, true, false, ◌&&◌, ◌||◌, List, ◌∷◌, Option, is_some, refl, subst}
use Rattle.mdb_base.specs.declared.address.ServerAddress.{ServerAddress}
use Rattle.mdb_events.specs.declared.fact.Fact.{Fact}
use Rattle.mdb_events.specs.declared.fact.Fact.TheVariants.{Opened, Pool, Granted, Ended, Raised, Sdam, CheckNow, Cancel}
use Rattle.mdb_events.specs.declared.cmap.CmapEvent.TheVariants.{PoolCreated, PoolReady, PoolCleared, PoolClosed, ConnectionCreated, ConnectionReady, ConnectionClosed, ConnectionCheckoutStarted, ConnectionCheckoutFailed, ConnectionCheckedOut, ConnectionCheckedIn}
use Rattle.mdb_log.specs.declared.step.Act.{Act}
use Rattle.mdb_log.specs.declared.step.Act.TheVariants.{Request, Warm, GiveUp, Established, Failed, Return, Pin, Replicate, Take, Unpin}
use Rattle.mdb_log.specs.declared.step.FailedAt.TheVariants.{Pre, Post}
use Rattle.mdb_log.specs.History.{PoolItem, asked, warmed, gave_up, returned, pinned_by, established, failed, replicated, taken, unpinned, given, has_asked, has_taken, if_so, is_number, after_act, after_fact}
use Rattle.mdb_log.specs.PlainHolders.{returns}
use Rattle.mdb_histories.proofs.OfPlain.Lists.{same-if}
use Rattle.mdb_histories.proofs.OfPlain.Given.{was_returned}

-- the item is of a fact, not of a step
abbrev pub from_fact : PoolItem → Bool
from_fact (asked r m) = false
from_fact (warmed r m) = false
from_fact (gave_up r) = false
from_fact (returned r used) = false
from_fact (pinned_by r) = false
from_fact (established c how m) = false
from_fact (failed c service) = false
from_fact (replicated c) = false
from_fact (taken r c) = false
from_fact (unpinned c) = false
from_fact _ = true

-- a query that no item of a fact changes stays as it was after one
module _ {X : Type 0} (Q : List PoolItem → X) (silent : (x : PoolItem) (ys : List PoolItem) → from_fact x ≡ true → Q (x ∷ ys) ≡ Q ys) (p m : ℕ) (xs : List PoolItem) where
  so : (b : Bool) (x : PoolItem) → from_fact x ≡ true → Q (if_so b x xs) ≡ Q xs
  so true x e = silent x xs e
  so false x e = refl

  pub silent-fact : (f : Fact) → Q (after_fact p m f xs) ≡ Q xs
  silent-fact (Opened q a) = refl
  silent-fact (Pool q (PoolCreated e)) = so (q == p) _ refl
  silent-fact (Pool q (PoolReady e)) = so (q == p) _ refl
  silent-fact (Pool q (PoolCleared e)) = refl
  silent-fact (Pool q (PoolClosed e)) = so (q == p) _ refl
  silent-fact (Pool q (ConnectionCreated e)) = so (q == p) _ refl
  silent-fact (Pool q (ConnectionReady e)) = refl
  silent-fact (Pool q (ConnectionClosed e)) = so (q == p) _ refl
  silent-fact (Pool q (ConnectionCheckoutStarted e)) = refl
  silent-fact (Pool q (ConnectionCheckoutFailed e)) = refl
  silent-fact (Pool q (ConnectionCheckedOut e)) = refl
  silent-fact (Pool q (ConnectionCheckedIn e)) = so (q == p) _ refl
  silent-fact (Granted r q c) = so (q == p) _ refl
  silent-fact (Ended r end) = so (has_asked xs r) _ refl
  silent-fact (Raised q service error) = so (q == p) _ refl
  silent-fact (Sdam e) = refl
  silent-fact (CheckNow a) = refl
  silent-fact (Cancel a) = refl

-- nor does a step change one that no item of a step changes
module _ {X : Type 0} (Q : List PoolItem → X) (silent : (x : PoolItem) (ys : List PoolItem) → from_fact x ≡ false → Q (x ∷ ys) ≡ Q ys) (p : ℕ) (here : ServerAddress → Option ℕ) (m : ℕ) (xs : List PoolItem) where
  step : (b : Bool) (x : PoolItem) → from_fact x ≡ false → Q (if_so b x xs) ≡ Q xs
  step true x e = silent x xs e
  step false x e = refl

  pub silent-act : (a : Act) → Q (after_act p here m a xs) ≡ Q xs
  silent-act (Request r b) = step (is_number (here b) p) _ refl
  silent-act (Warm r b) = step (is_number (here b) p) _ refl
  silent-act (GiveUp r) = step (has_asked xs r) _ refl
  silent-act (Established q c how) = step (q == p) _ refl
  silent-act (Failed q c Pre error) = step (q == p) _ refl
  silent-act (Failed q c (Post service) error) = step (q == p) _ refl
  silent-act (Return r used) = step (is_some (given xs r)) _ refl
  silent-act (Pin r) = step (is_some (given xs r)) _ refl
  silent-act (Replicate q c) = step (q == p) _ refl
  silent-act (Take r q c) = step (q == p) _ refl
  silent-act (Unpin q c) = step (q == p) _ refl
  silent-act _ = refl

-- one item more, where a test holds
pub if-still : {X : Type 0} (Q : List PoolItem → X) (xs : List PoolItem) (b : Bool) (x : PoolItem) → Q (x ∷ xs) ≡ Q xs → Q (if_so b x xs) ≡ Q xs
if-still Q xs true x e = e
if-still Q xs false x e = refl

-- the act makes the party one of pool p: it asks there, or takes a connection there
abbrev pub asks : ℕ → (ServerAddress → Option ℕ) → Act → ℕ → Bool
asks p here (Request k b) r = is_number (here b) p && (k == r)
asks p here (Warm k b) r = is_number (here b) p && (k == r)
asks p here _ r = false

abbrev pub takes : ℕ → Act → ℕ → Bool
takes p (Take k q c) r = (q == p) && (k == r)
takes p _ r = false

module _ (p : ℕ) (here : ServerAddress → Option ℕ) (m : ℕ) (xs : List PoolItem) (r : ℕ) where
  asked-if : (b : Bool) (x : PoolItem) (same : Bool) → has_asked (x ∷ xs) r ≡ same || has_asked xs r → has_asked (if_so b x xs) r ≡ (b && same) || has_asked xs r
  asked-if true x same e = e
  asked-if false x same e = refl

  pub asked-act : (a : Act) → has_asked (after_act p here m a xs) r ≡ asks p here a r || has_asked xs r
  asked-act (Request k b) = asked-if (is_number (here b) p) _ (k == r) refl
  asked-act (Warm k b) = asked-if (is_number (here b) p) _ (k == r) refl
  asked-act (GiveUp k) = if-still (λ ys. has_asked ys r) xs (has_asked xs k) _ refl
  asked-act (Established q c how) = if-still (λ ys. has_asked ys r) xs (q == p) _ refl
  asked-act (Failed q c Pre error) = if-still (λ ys. has_asked ys r) xs (q == p) _ refl
  asked-act (Failed q c (Post service) error) = if-still (λ ys. has_asked ys r) xs (q == p) _ refl
  asked-act (Return k used) = if-still (λ ys. has_asked ys r) xs (is_some (given xs k)) _ refl
  asked-act (Pin k) = if-still (λ ys. has_asked ys r) xs (is_some (given xs k)) _ refl
  asked-act (Replicate q c) = if-still (λ ys. has_asked ys r) xs (q == p) _ refl
  asked-act (Take k q c) = if-still (λ ys. has_asked ys r) xs (q == p) _ refl
  asked-act (Unpin q c) = if-still (λ ys. has_asked ys r) xs (q == p) _ refl
  asked-act _ = refl

  taken-if : (b : Bool) (x : PoolItem) (same : Bool) → has_taken (x ∷ xs) r ≡ same || has_taken xs r → has_taken (if_so b x xs) r ≡ (b && same) || has_taken xs r
  taken-if true x same e = e
  taken-if false x same e = refl

  pub taken-act : (a : Act) → has_taken (after_act p here m a xs) r ≡ takes p a r || has_taken xs r
  taken-act (Request k b) = if-still (λ ys. has_taken ys r) xs (is_number (here b) p) _ refl
  taken-act (Warm k b) = if-still (λ ys. has_taken ys r) xs (is_number (here b) p) _ refl
  taken-act (GiveUp k) = if-still (λ ys. has_taken ys r) xs (has_asked xs k) _ refl
  taken-act (Established q c how) = if-still (λ ys. has_taken ys r) xs (q == p) _ refl
  taken-act (Failed q c Pre error) = if-still (λ ys. has_taken ys r) xs (q == p) _ refl
  taken-act (Failed q c (Post service) error) = if-still (λ ys. has_taken ys r) xs (q == p) _ refl
  taken-act (Return k used) = if-still (λ ys. has_taken ys r) xs (is_some (given xs k)) _ refl
  taken-act (Pin k) = if-still (λ ys. has_taken ys r) xs (is_some (given xs k)) _ refl
  taken-act (Replicate q c) = if-still (λ ys. has_taken ys r) xs (q == p) _ refl
  taken-act (Take k q c) = taken-if (q == p) _ (k == r) refl
  taken-act (Unpin q c) = if-still (λ ys. has_taken ys r) xs (q == p) _ refl
  taken-act _ = refl

  -- a return is of the pool where its party has a connection
  pub returned-act : (a : Act) → was_returned (after_act p here m a xs) r ≡ (returns a r && is_some (given xs r)) || was_returned xs r
  returned-act (Return k used) = on (k == r) (is_some (given xs k)) refl refl
    where
      on : (same b : Bool) → (k == r) ≡ same → is_some (given xs k) ≡ b → was_returned (if_so b (returned k used) xs) r ≡ (same && is_some (given xs r)) || was_returned xs r
      on true true e f = let g : is_some (given xs r) ≡ true = subst (λ n. is_some (given xs n) ≡ true) (same-if k r e) f in rw (e, g) refl
      on true false e f = let g : is_some (given xs r) ≡ false = subst (λ n. is_some (given xs n) ≡ false) (same-if k r e) f in rw g refl
      on false true e f = rw e refl
      on false false e f = refl
  returned-act (Request k b) = if-still (λ ys. was_returned ys r) xs (is_number (here b) p) _ refl
  returned-act (Warm k b) = if-still (λ ys. was_returned ys r) xs (is_number (here b) p) _ refl
  returned-act (GiveUp k) = if-still (λ ys. was_returned ys r) xs (has_asked xs k) _ refl
  returned-act (Established q c how) = if-still (λ ys. was_returned ys r) xs (q == p) _ refl
  returned-act (Failed q c Pre error) = if-still (λ ys. was_returned ys r) xs (q == p) _ refl
  returned-act (Failed q c (Post service) error) = if-still (λ ys. was_returned ys r) xs (q == p) _ refl
  returned-act (Pin k) = if-still (λ ys. was_returned ys r) xs (is_some (given xs k)) _ refl
  returned-act (Replicate q c) = if-still (λ ys. was_returned ys r) xs (q == p) _ refl
  returned-act (Take k q c) = if-still (λ ys. was_returned ys r) xs (q == p) _ refl
  returned-act (Unpin q c) = if-still (λ ys. was_returned ys r) xs (q == p) _ refl
  returned-act _ = refl
