-- What a pool that was created, marked ready or closed says.
use Rattle.std.proofs.Common.{ℕ, ◌≡◌, ◌||◌, Bool, true, false, List, [], ◌∷◌, ◌++◌, map, refl, sym, ◌∙◌, arith}
use Rattle.std.specs.Prelude.{filter}
use Rattle.mdb_base.specs.declared.address.ServerAddress.{ServerAddress}
use Rattle.mdb_events.specs.declared.end.End.TheVariants.{Closed}
use Rattle.mdb_events.specs.declared.fact.Fact.{Fact}
use Rattle.mdb_events.specs.declared.reasons.ConnectionClosedReason.TheVariants.{PoolClosed as PoolClosedReason}
use Rattle.mdb_log.specs.declared.options.PoolOptions.{PoolOptions}
use Rattle.mdb_log.specs.History.{PoolItem, pool_created, pool_ready}
use Rattle.mdb_log.specs.Connections.{available_list, pending_list, known_service}
use Rattle.mdb_log.specs.Requests.{requests, is_unserved}
use Rattle.mdb_log.specs.Own.{shuts}
use Rattle.mdb_log.specs.State.{State, is_new, is_ready, is_paused, is_closed, state_of}
use Rattle.mdb_log.proofs.Pins.{pinned-again}
use Rattle.mdb_pool_rules.specs.Facts.{closed_fact, all_ends, pool_closed_fact, close_facts}
use Rattle.mdb_pool_rules.proofs.Fair.{shut-append}
use Rattle.mdb_pool_rules.specs.Rested.{Rested}
use Rattle.mdb_sound.proofs.Served.{Fine}

-- a pool that was marked ready or created is at rest as it was
pub ready-rested : (xs : List PoolItem) → Rested xs → Rested (pool_ready ∷ xs)
ready-rested xs z = record { lives = z.lives; unended = z.unended; free = z.free; loose = z.loose; pending_loose = z.pending_loose; apart = z.apart; background = z.background; left = z.left; waits = z.waits; known = z.known; warm = z.warm; at_pin = λ c l n. pinned-again xs c ∙ z.at_pin c l n; pinned_free = λ c e. z.pinned_free c (sym (pinned-again xs c) ∙ e) }

pub created-fine : Fine (pool_created ∷ [])
created-fine = ((refl, tt), record { free = λ c e. refl; loose = λ c e. refl })

pub created-rested : Rested (pool_created ∷ [])
created-rested = record {
  lives = λ r c e. cc;
  unended = λ r c e. refl;
  free = λ c e. refl;
  loose = λ c e. refl;
  pending_loose = λ c e. refl;
  apart = λ c e. refl;
  background = λ c e g. refl;
  left = λ c r e g f. refl;
  waits = λ c r e g f. cc;
  known = λ c r e g. cc;
  warm = λ r c e w. cc;
  at_pin = λ c l n. absurd (omega arith);
  pinned_free = λ c e. refl;
}

module _ (p : ℕ) (a : ServerAddress) (o : PoolOptions) (m : ℕ) (xs : List PoolItem) where
  -- a pool that was not closed is closed by these facts
  pub close-shuts : shuts (close_facts p a o m xs) ≡ false → state_of o xs ≡ is_closed
  close-shuts e = on (state_of o xs) refl e
    where
      begins : List Fact
      begins = map (λ c. closed_fact p a c PoolClosedReason (known_service xs c)) (available_list xs ++ pending_list xs) ++ all_ends p a m xs Closed (filter (is_unserved xs) (requests xs))

      whole : shuts (begins ++ pool_closed_fact p a ∷ []) ≡ true
      whole = shut-append p a o m begins (pool_closed_fact p a ∷ []) ∙ or-true (shuts begins)
        where
          or-true : (b : Bool) → b || true ≡ true
          or-true true = refl
          or-true false = refl

      on : (t : State) → state_of o xs ≡ t → shuts (close_facts p a o m xs) ≡ false → state_of o xs ≡ is_closed
      on is_closed f e = f
      on is_new f e = let w : shuts (close_facts p a o m xs) ≡ true = rw f whole in absurd (let v : true ≡ false = sym w ∙ e in cc)
      on is_ready f e = let w : shuts (close_facts p a o m xs) ≡ true = rw f whole in absurd (let v : true ≡ false = sym w ∙ e in cc)
      on (is_paused error) f e = let w : shuts (close_facts p a o m xs) ≡ true = rw f whole in absurd (let v : true ≡ false = sym w ∙ e in cc)
