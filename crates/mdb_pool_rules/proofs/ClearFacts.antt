-- What a clear does is the answer to its step.
use Rattle.std.proofs.Common.{ℕ, ◌≡◌, Bool, true, false, ◌||◌, ◌==◌, List, [], ◌∷◌, ◌++◌, Option, Some, None, is_some, refl, ◌∙◌, ap}
use Rattle.mdb_base.specs.declared.address.ServerAddress.{ServerAddress}
use Rattle.mdb_base.specs.declared.object_id.ObjectId.{ObjectId}
use Rattle.mdb_base.specs.declared.error.Error.{Error}
use Rattle.mdb_events.specs.declared.fact.Fact.TheVariants.{Ended, Raised}
use Rattle.mdb_events.specs.declared.end.End.{End}
use Rattle.mdb_events.specs.declared.end.End.TheVariants.{Cleared}
use Rattle.mdb_log.specs.declared.options.PoolOptions.{PoolOptions}
use Rattle.mdb_log.specs.History.{PoolItem, raised, after_fact, after_facts, has_asked}
use Rattle.mdb_log.specs.Connections.{has}
use Rattle.mdb_log.specs.Requests.{queued, is_warm}
use Rattle.mdb_log.specs.State.{State, is_new, is_ready, is_paused, is_closed, state_of}
use Rattle.mdb_pool_rules.specs.Facts.{end_facts, all_ends, clear_facts, cleared_fact}
use Rattle.mdb_log.specs.Legal.{AllFirstCome}
use Rattle.mdb_log.specs.Own.{AllOwn, shuts}
use Rattle.mdb_log.proofs.Numbers.{same-number}
use Rattle.mdb_log.proofs.Pins.{queued-asked}
use Rattle.mdb_log.proofs.Frame.{asked-fact, asked-facts}

pub no-service : (o : Option ObjectId) → is_some o ≡ false → o ≡ None
no-service None e = refl
no-service (Some t) e = cc

pub ends-raised : (p : ℕ) (a : ServerAddress) (n : ℕ) (t : Option ObjectId) (error : Error) (xs : List PoolItem) (end : End) (rs : List ℕ) → all_ends p a n (raised t error ∷ xs) end rs ≡ all_ends p a n xs end rs
ends-raised p a n t error xs end [] = refl
ends-raised p a n t error xs end (r ∷ rs) = ap (λ f. end_facts p a n xs r end ++ f) (ends-raised p a n t error xs end rs)

or-yes : (a : Bool) {b : Bool} → b ≡ true → a || b ≡ true
or-yes true e = refl
or-yes false e = e

-- ends are fair, the pool's own, and leave it unshut
module _ (p : ℕ) (a : ServerAddress) (n : ℕ) (end : End) where
  pub ends-fair : (xs zs : List PoolItem) (rs : List ℕ) → AllFirstCome p n zs (all_ends p a n xs end rs)
  ends-fair xs zs [] = tt
  ends-fair xs zs (r ∷ rs) = on (is_warm xs r) refl (ends-fair xs (after_fact p n (Ended r end) zs) rs)
    where
      on : (b : Bool) → is_warm xs r ≡ b → AllFirstCome p n (after_fact p n (Ended r end) zs) (all_ends p a n xs end rs) → AllFirstCome p n zs (all_ends p a n xs end (r ∷ rs))
      on true e rest = rw e (tt, rest)
      on false e rest = rw e (tt, (tt, rest))

  pub ends-open : (xs : List PoolItem) (rs : List ℕ) → shuts (all_ends p a n xs end rs) ≡ false
  ends-open xs [] = refl
  ends-open xs (r ∷ rs) = on (is_warm xs r) refl (ends-open xs rs)
    where
      on : (b : Bool) → is_warm xs r ≡ b → shuts (all_ends p a n xs end rs) ≡ false → shuts (all_ends p a n xs end (r ∷ rs)) ≡ false
      on true e rest = rw e rest
      on false e rest = rw e rest

  pub ends-own : (xs zs : List PoolItem) (rs : List ℕ) → ((r : ℕ) → has r rs ≡ true → has_asked zs r ≡ true) → AllOwn p n zs (all_ends p a n xs end rs)
  ends-own xs zs [] known = tt
  ends-own xs zs (r ∷ rs) known = on (is_warm xs r) refl (λ later. ends-own xs (after_fact p n (Ended r end) zs) rs later)
    where
      first : has_asked zs r ≡ true
      first = known r (rw (same-number r) refl)

      later : (k : ℕ) → has k rs ≡ true → has_asked (after_fact p n (Ended r end) zs) k ≡ true
      later k e = asked-fact p n k (Ended r end) zs ∙ known k (or-yes (r == k) e)

      on : (b : Bool) → is_warm xs r ≡ b → (((k : ℕ) → has k rs ≡ true → has_asked (after_fact p n (Ended r end) zs) k ≡ true) → AllOwn p n (after_fact p n (Ended r end) zs) (all_ends p a n xs end rs)) → AllOwn p n zs (all_ends p a n xs end (r ∷ rs))
      on true e rest = rw e (first, rest later)
      on false e rest = rw e (first, (refl, rest later))

-- so are the facts of a clear
module _ (p : ℕ) (a : ServerAddress) (o : PoolOptions) (n : ℕ) (xs : List PoolItem) (error : Error) where
  pub clear-open : (service : Option ObjectId) (u : State) → state_of o xs ≡ u → shuts (clear_facts p a o n xs service error) ≡ false
  clear-open None is_new e = rw e refl
  clear-open None is_ready e = rw e (ends-open p a n (Cleared error) xs (queued xs))
  clear-open None (is_paused why) e = rw e refl
  clear-open None is_closed e = rw e refl
  clear-open (Some t) is_new e = rw e refl
  clear-open (Some t) is_ready e = rw e refl
  clear-open (Some t) (is_paused why) e = rw e refl
  clear-open (Some t) is_closed e = rw e refl

  pub clear-fair : (service : Option ObjectId) (u : State) → state_of o xs ≡ u → AllFirstCome p n xs (clear_facts p a o n xs service error)
  clear-fair None is_new e = rw e (tt, tt)
  clear-fair None is_ready e = rw e (tt, (tt, ends-fair p a n (Cleared error) xs _ (queued xs)))
  clear-fair None (is_paused why) e = rw e (tt, tt)
  clear-fair None is_closed e = rw e tt
  clear-fair (Some t) is_new e = rw e (tt, (tt, tt))
  clear-fair (Some t) is_ready e = rw e (tt, (tt, tt))
  clear-fair (Some t) (is_paused why) e = rw e (tt, (tt, tt))
  clear-fair (Some t) is_closed e = rw e tt

  asked-then : (r : ℕ) → has r (queued xs) ≡ true → has_asked (after_facts p n (Raised p None error ∷ cleared_fact p a None error ∷ []) xs) r ≡ true
  asked-then r e = asked-facts p n r (Raised p None error ∷ cleared_fact p a None error ∷ []) xs ∙ queued-asked xs r e

  pub clear-all-own : (service : Option ObjectId) (u : State) → state_of o xs ≡ u → AllOwn p n xs (clear_facts p a o n xs service error)
  clear-all-own None is_new e = rw e (refl, tt)
  clear-all-own None is_ready e = rw e (refl, (refl, ends-own p a n (Cleared error) xs (after_facts p n (Raised p None error ∷ cleared_fact p a None error ∷ []) xs) (queued xs) asked-then))
  clear-all-own None (is_paused why) e = rw e (refl, tt)
  clear-all-own None is_closed e = rw e tt
  clear-all-own (Some t) is_new e = rw e (refl, (refl, tt))
  clear-all-own (Some t) is_ready e = rw e (refl, (refl, tt))
  clear-all-own (Some t) (is_paused why) e = rw e (refl, (refl, tt))
  clear-all-own (Some t) is_closed e = rw e tt
