-- The ends of a queue, one after another.
use Rattle.std.proofs.Common.{ℕ, ◌≡◌, ◌-◌, ◌≤◌, Bool, true, false, ◌==◌, List, [], ◌∷◌, ◌++◌, refl, sym, ◌∙◌, ap, arith, append_assoc, append-nil}
use Rattle.std.specs.Prelude.{count_by}
use Rattle.std.proofs.lemmas.Grind.{common_steps}
use Rattle.mdb_base.specs.declared.address.ServerAddress.{ServerAddress}
use Rattle.mdb_events.specs.declared.fact.Fact.{Fact}
use Rattle.mdb_events.specs.declared.fact.Fact.TheVariants.{Opened, Pool, Granted, Ended, Raised, Sdam, CheckNow, Cancel}
use Rattle.mdb_events.specs.declared.cmap.CmapEvent.TheVariants.{PoolCreated, PoolReady, PoolCleared, PoolClosed, ConnectionCreated, ConnectionReady, ConnectionClosed, ConnectionCheckoutStarted, ConnectionCheckoutFailed, ConnectionCheckedOut, ConnectionCheckedIn}
use Rattle.mdb_events.specs.declared.end.End.{End}
use Rattle.mdb_log.specs.History.{PoolItem, after_fact, after_facts, without}
use Rattle.mdb_log.specs.Connections.{has}
use Rattle.mdb_log.specs.Requests.{asked_at, is_warm}
use Rattle.mdb_pool_rules.specs.Facts.{end_facts, all_ends}
use Rattle.mdb_log.proofs.Numbers.{same-number}

-- facts don't ask
pub moment-fact : (p m r : ℕ) (f : Fact) (xs : List PoolItem) → asked_at (after_fact p m f xs) r ≡ asked_at xs r
moment-fact p m r (Opened q a) xs = refl
moment-fact p m r (Pool q (PoolCreated e)) xs = grind arith
moment-fact p m r (Pool q (PoolReady e)) xs = grind arith
moment-fact p m r (Pool q (PoolCleared e)) xs = refl
moment-fact p m r (Pool q (PoolClosed e)) xs = grind arith
moment-fact p m r (Pool q (ConnectionCreated e)) xs = grind arith
moment-fact p m r (Pool q (ConnectionReady e)) xs = refl
moment-fact p m r (Pool q (ConnectionClosed e)) xs = grind arith
moment-fact p m r (Pool q (ConnectionCheckoutStarted e)) xs = refl
moment-fact p m r (Pool q (ConnectionCheckoutFailed e)) xs = refl
moment-fact p m r (Pool q (ConnectionCheckedOut e)) xs = refl
moment-fact p m r (Pool q (ConnectionCheckedIn e)) xs = grind arith
moment-fact p m r (Granted k q c) xs = grind arith
moment-fact p m r (Ended k end) xs = grind arith
moment-fact p m r (Raised q service error) xs = grind arith
moment-fact p m r (CheckNow a) xs = refl
moment-fact p m r (Cancel a) xs = refl
moment-fact p m r (Sdam e) xs = refl

pub moment-facts : (p m r : ℕ) (fs : List Fact) (xs : List PoolItem) → asked_at (after_facts p m fs xs) r ≡ asked_at xs r
moment-facts p m r [] xs = refl
moment-facts p m r (f ∷ fs) xs = moment-facts p m r fs (after_fact p m f xs) ∙ moment-fact p m r f xs

pub warm-fact : (p m r : ℕ) (f : Fact) (xs : List PoolItem) → is_warm (after_fact p m f xs) r ≡ is_warm xs r
warm-fact p m r (Opened q a) xs = refl
warm-fact p m r (Pool q (PoolCreated e)) xs = grind arith
warm-fact p m r (Pool q (PoolReady e)) xs = grind arith
warm-fact p m r (Pool q (PoolCleared e)) xs = refl
warm-fact p m r (Pool q (PoolClosed e)) xs = grind arith
warm-fact p m r (Pool q (ConnectionCreated e)) xs = grind arith
warm-fact p m r (Pool q (ConnectionReady e)) xs = refl
warm-fact p m r (Pool q (ConnectionClosed e)) xs = grind arith
warm-fact p m r (Pool q (ConnectionCheckoutStarted e)) xs = refl
warm-fact p m r (Pool q (ConnectionCheckoutFailed e)) xs = refl
warm-fact p m r (Pool q (ConnectionCheckedOut e)) xs = refl
warm-fact p m r (Pool q (ConnectionCheckedIn e)) xs = grind arith
warm-fact p m r (Granted k q c) xs = grind arith
warm-fact p m r (Ended k end) xs = grind arith
warm-fact p m r (Raised q service error) xs = grind arith
warm-fact p m r (CheckNow a) xs = refl
warm-fact p m r (Cancel a) xs = refl
warm-fact p m r (Sdam e) xs = refl

pub warm-facts : (p m r : ℕ) (fs : List Fact) (xs : List PoolItem) → is_warm (after_facts p m fs xs) r ≡ is_warm xs r
warm-facts p m r [] xs = refl
warm-facts p m r (f ∷ fs) xs = warm-facts p m r fs (after_fact p m f xs) ∙ warm-fact p m r f xs

pub ends-append : (p : ℕ) (a : ServerAddress) (m : ℕ) (xs : List PoolItem) (end : End) (rs : List ℕ) (r : ℕ) → all_ends p a m xs end (rs ++ r ∷ []) ≡ all_ends p a m xs end rs ++ end_facts p a m xs r end
ends-append p a m xs end [] r = append-nil (end_facts p a m xs r end)
ends-append p a m xs end (k ∷ rs) r = ap (λ f. end_facts p a m xs k end ++ f) (ends-append p a m xs end rs r) ∙ sym (append_assoc (end_facts p a m xs k end) (all_ends p a m xs end rs) (end_facts p a m xs r end))

has-count : (k : ℕ) (ks : List ℕ) → has k ks ≡ true → 1 ≤ count_by (λ j. j == k) ks
has-count k [] e = cc
has-count k (j ∷ ks) e = grind (arith, common_steps, has-count k ks)

-- a number that stands once is not behind itself
pub once : (k : ℕ) (ks : List ℕ) → count_by (λ j. j == k) (k ∷ ks) ≤ 1 → without k (k ∷ ks) ≡ ks
once k ks l = on (has k ks) refl
  where
    absent : (js : List ℕ) → has k js ≡ false → without k js ≡ js
    absent [] e = refl
    absent (j ∷ js) e = grind (arith, common_steps, absent js)

    on : (b : Bool) → has k ks ≡ b → without k (k ∷ ks) ≡ ks
    on true e = let h : 1 ≤ count_by (λ j. j == k) ks = has-count k ks e in let s : (k == k) ≡ true = same-number k in absurd (grind (arith, common_steps))
    on false e = let h : without k ks ≡ ks = absent ks e in grind (arith, common_steps)
