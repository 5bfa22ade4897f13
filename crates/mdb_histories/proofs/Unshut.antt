-- A pool that is open was not closed.
use Rattle.std.proofs.Common.{ℕ, ◌≡◌, ◌==◌, Bool, true, false, if◌then◌else◌, List, [], ◌∷◌, Option, Some, None, is_some, refl, sym, ◌∙◌, ap, subst, arith}
use Rattle.mdb_base.specs.Equality.{same_address}
use Rattle.mdb_base.specs.declared.address.ServerAddress.{ServerAddress}
use Rattle.mdb_events.specs.declared.cmap.CmapEvent.TheVariants.{PoolCreated, PoolReady, PoolCleared, PoolClosed, ConnectionCreated, ConnectionReady, ConnectionClosed, ConnectionCheckoutStarted, ConnectionCheckoutFailed, ConnectionCheckedOut, ConnectionCheckedIn}
use Rattle.mdb_events.specs.declared.fact.Fact.{Fact}
use Rattle.mdb_events.specs.declared.fact.Fact.TheVariants.{Opened, Pool, Granted, Ended, Raised, Sdam, CheckNow, Cancel}
use Rattle.mdb_log.specs.declared.step.Act.{Act}
use Rattle.mdb_log.specs.declared.step.Act.TheVariants as Do
use Rattle.mdb_log.specs.declared.step.FailedAt.TheVariants.{Pre, Post}
use Rattle.mdb_log.specs.History.{Item, did, made, PoolItem, pool_closed, if_so, is_number, of_pool, open_pool, after_act, after_fact, has_asked, given}
use Rattle.mdb_sound.specs.Sound.{was_closed}
use Rattle.mdb_histories.specs.SoundHistory.{SoundHistory, MayCome, was_opened}
use Rattle.mdb_histories.proofs.Opened.{unopened-empty}
use Rattle.mdb_histories.proofs.Numbered.{next-unopened}

if-unshut : (b : Bool) (x : PoolItem) (xs : List PoolItem) → was_closed (x ∷ xs) ≡ was_closed xs → was_closed (if_so b x xs) ≡ was_closed xs
if-unshut true x xs e = e
if-unshut false x xs e = refl

-- no act closes a pool
act-unshut : (p : ℕ) (here : ServerAddress → Option ℕ) (m : ℕ) (act : Act) (xs : List PoolItem) → was_closed (after_act p here m act xs) ≡ was_closed xs
act-unshut p here m (Do.Request r a) xs = if-unshut (is_number (here a) p) _ xs refl
act-unshut p here m (Do.Warm r a) xs = if-unshut (is_number (here a) p) _ xs refl
act-unshut p here m (Do.GiveUp r) xs = if-unshut (has_asked xs r) _ xs refl
act-unshut p here m (Do.Established q c how) xs = if-unshut (q == p) _ xs refl
act-unshut p here m (Do.Failed q c Pre error) xs = if-unshut (q == p) _ xs refl
act-unshut p here m (Do.Failed q c (Post service) error) xs = if-unshut (q == p) _ xs refl
act-unshut p here m (Do.Return r used) xs = if-unshut (is_some (given xs r)) _ xs refl
act-unshut p here m (Do.Pin r) xs = if-unshut (is_some (given xs r)) _ xs refl
act-unshut p here m (Do.Replicate q c) xs = if-unshut (q == p) _ xs refl
act-unshut p here m (Do.Take r q c) xs = if-unshut (q == p) _ xs refl
act-unshut p here m (Do.Unpin q c) xs = if-unshut (q == p) _ xs refl
act-unshut p here m _ xs = refl

module _ (h : List Item) (s : SoundHistory h) (m p : ℕ) (a : ServerAddress) (before : open_pool h a ≡ Some p → was_closed (of_pool p h) ≡ false) where
  fact-unshut : (f : Fact) → MayCome h (made m f) → open_pool (made m f ∷ h) a ≡ Some p → was_closed (after_fact p m f (of_pool p h)) ≡ false
  fact-unshut (Opened q b) w e = on (same_address b a) refl e
    where
      on : (c : Bool) → same_address b a ≡ c → (if same_address b a then Some q else open_pool h a) ≡ Some p → was_closed (of_pool p h) ≡ false
      on true g e =
          let v : Some q ≡ Some p = sym (rw g refl) ∙ e in
          let same : q ≡ p = cc in
          let new : was_opened h p ≡ false = subst (λ n. was_opened h n ≡ false) same (next-unopened h s q w.names) in
          ap was_closed (unopened-empty h s p new)
      on false g e = before (sym (rw g refl) ∙ e)
  fact-unshut (Pool q (PoolCreated ev)) w e = if-unshut (q == p) _ (of_pool p h) refl ∙ before e
  fact-unshut (Pool q (PoolReady ev)) w e = if-unshut (q == p) _ (of_pool p h) refl ∙ before e
  fact-unshut (Pool q (PoolClosed ev)) w e = on (is_number (open_pool h a) q) (q == p) refl refl e
    where
      on : (b c : Bool) → is_number (open_pool h a) q ≡ b → (q == p) ≡ c → (if is_number (open_pool h a) q then None else open_pool h a) ≡ Some p → was_closed (if_so (q == p) pool_closed (of_pool p h)) ≡ false
      on true c g k e = let v : ◌≡◌ {A = Option ℕ} None (Some p) = sym (rw g refl) ∙ e in cc
      on false true g k e =
          let here : open_pool h a ≡ Some p = sym (rw g refl) ∙ e in
          let same : is_number (open_pool h a) q ≡ (p == q) = ap (λ x. is_number x q) here in
          let f : (p == q) ≡ true = grind arith in
          cc
      on false false g k e = rw k (before (sym (rw g refl) ∙ e))
  fact-unshut (Pool q (ConnectionCreated ev)) w e = if-unshut (q == p) _ (of_pool p h) refl ∙ before e
  fact-unshut (Pool q (ConnectionClosed ev)) w e = if-unshut (q == p) _ (of_pool p h) refl ∙ before e
  fact-unshut (Pool q (ConnectionCheckedIn ev)) w e = if-unshut (q == p) _ (of_pool p h) refl ∙ before e
  fact-unshut (Pool q (PoolCleared ev)) w e = before e
  fact-unshut (Pool q (ConnectionReady ev)) w e = before e
  fact-unshut (Pool q (ConnectionCheckoutStarted ev)) w e = before e
  fact-unshut (Pool q (ConnectionCheckoutFailed ev)) w e = before e
  fact-unshut (Pool q (ConnectionCheckedOut ev)) w e = before e
  fact-unshut (Granted r q c) w e = if-unshut (q == p) _ (of_pool p h) refl ∙ before e
  fact-unshut (Ended r end) w e = if-unshut (has_asked (of_pool p h) r) _ (of_pool p h) refl ∙ before e
  fact-unshut (Raised q service error) w e = if-unshut (q == p) _ (of_pool p h) refl ∙ before e
  fact-unshut (Sdam ev) w e = before e
  fact-unshut (CheckNow b) w e = before e
  fact-unshut (Cancel b) w e = before e

-- an open pool was not closed
pub open-unshut : (h : List Item) → SoundHistory h → (p : ℕ) (a : ServerAddress) → open_pool h a ≡ Some p → was_closed (of_pool p h) ≡ false
open-unshut [] s p a e = cc
open-unshut (did step reply ∷ h) s p a e = act-unshut p (open_pool h) step.moment step.act (of_pool p h) ∙ open-unshut h s.1 p a e
open-unshut (made m f ∷ h) s p a e = fact-unshut h s.1 m p a (open-unshut h s.1 p a) f s.0 e
