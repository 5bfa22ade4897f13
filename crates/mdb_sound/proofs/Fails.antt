-- A connection that fails keeps the items sound.
use Rattle.std.proofs.Common.{ℕ, ◌≡◌, Bool, true, false, not, ◌&&◌, List, ◌∷◌, Option, Some, None, is_some, refl, sym, subst}
use Rattle.mdb_base.specs.declared.object_id.ObjectId.{ObjectId}
use Rattle.mdb_base.specs.declared.address.ServerAddress.{ServerAddress}
use Rattle.mdb_base.specs.declared.error.Error.{Error}
use Rattle.mdb_events.specs.declared.end.End.TheVariants.{Failed as FailedEnd}
use Rattle.mdb_log.specs.declared.options.PoolOptions.{PoolOptions}
use Rattle.mdb_log.specs.History.{PoolItem, failed, closed, after_facts, given}
use Rattle.mdb_log.specs.Connections.{has, live, pending_list, granted_to}
use Rattle.mdb_log.specs.Requests.{end_of}
use Rattle.mdb_pool_rules.specs.Facts.{fail_requester}
use Rattle.mdb_log.proofs.Numbers.{same-number}
use Rattle.mdb_sound.specs.Sound.{Sound, MayClose, lost}
use Rattle.mdb_sound.proofs.Connections.{connection-laws}
use Rattle.mdb_pool_rules.specs.Rested.{Rested}
use Rattle.mdb_sound.proofs.Calm.{none-is, one-lives, calm-close}
use Rattle.mdb_sound.proofs.Served.{Fine}
use Rattle.mdb_sound.proofs.Ends.{ends-fine}

module _ (p : ℕ) (a : ServerAddress) (o : PoolOptions) (m : ℕ) (xs : List PoolItem) (s : Sound xs) (z : Rested xs) (c : ℕ) (service : Option ObjectId) (error : Error) (w : has c (pending_list xs) ≡ true) where
  abbrev ys : List PoolItem
  ys = failed c service ∷ xs

  lives : live xs c ≡ 1
  lives = (connection-laws xs s c).pending_lives w

  closes : MayClose ys c
  closes = record { lives = one-lives xs c lives; unused = rw (same-number c) (neither (not (has c (pending_list ys)))); unpinned = z.pending_loose c w }
    where
      neither : (b : Bool) → b && false ≡ false
      neither true = refl
      neither false = refl

  fine : Fine (closed c ∷ ys)
  fine = ((closes, (w, s)), calm-close ys c (record { free = z.free; loose = z.loose }))

  -- its request has lost it, and ends
  pub failed-fine : Fine (after_facts p m (fail_requester p a o m ys error (granted_to xs c)) (closed c ∷ ys))
  failed-fine = on (granted_to xs c) refl
    where
      gone : (r : ℕ) → given xs r ≡ Some c → lost (closed c ∷ ys) r ≡ true
      gone r e = rw (e, lives, same-number c) refl

      at_end : (r : ℕ) (b : Bool) → granted_to xs c ≡ Some r → is_some (end_of xs r) ≡ b → Fine (after_facts p m (fail_requester p a o m ys error (Some r)) (closed c ∷ ys))
      at_end r true g e = rw e fine
      at_end r false g e =
          let none : end_of xs r ≡ None = none-is (end_of xs r) e in
          rw e (ends-fine p a o m ys (closed c ∷ ys) r (FailedEnd error) fine (record { asked_for = z.known c r w g; unended = none; so = gone r (z.waits c r w g none) }))

      on : (k : Option ℕ) → granted_to xs c ≡ k → Fine (after_facts p m (fail_requester p a o m ys error (granted_to xs c)) (closed c ∷ ys))
      on None g = rw g fine
      on (Some r) g = subst (λ k. Fine (after_facts p m (fail_requester p a o m ys error k) (closed c ∷ ys))) (sym g) (at_end r (is_some (end_of xs r)) g refl)
