-- The serving of a pool's queue keeps the items sound.
use Rattle.std.proofs.Common.{ℕ, zero, suc, ◌≡◌, ◌+◌, ◌-◌, Bool, true, false, ◌||◌, List, [], ◌∷◌, length, Option, Some, None, refl, sym, ◌∙◌, arith}
use Rattle.mdb_base.specs.declared.address.ServerAddress.{ServerAddress}
use Rattle.mdb_events.specs.declared.fact.Fact.TheVariants.{Granted, Ended}
use Rattle.mdb_events.specs.declared.end.End.TheVariants.{Warmed}
use Rattle.mdb_events.specs.declared.reasons.ConnectionClosedReason.{ConnectionClosedReason}
use Rattle.mdb_events.specs.declared.reasons.ConnectionClosedReason.TheVariants.{Stale, Idle}
use Rattle.mdb_log.specs.declared.options.PoolOptions.{PoolOptions}
use Rattle.mdb_log.specs.History.{PoolItem, created, granted, after_facts}
use Rattle.mdb_log.specs.Connections.{has, created_total, available_list, parties, known_service}
use Rattle.mdb_log.specs.State.{is_stale, state_of, ready, may_create, is_idle}
use Rattle.mdb_log.specs.Requests.{queued, is_warm, asked_at}
use Rattle.mdb_log.specs.Legal.{IsNext}
use Rattle.mdb_pool_rules.specs.Serving.{last_of, candidate, next_move, serve, serving, creation, wants_connection}
use Rattle.mdb_pool_rules.specs.Facts.{closed_fact, checked_out_fact}
use Rattle.mdb_log.proofs.Later.{after-append}
use Rattle.mdb_log.proofs.Numbers.{same-number}
use Rattle.mdb_log.proofs.Pins.{queued-asked}
use Rattle.mdb_pool_rules.proofs.Listed.Last.{last_of-has}
use Rattle.mdb_pool_rules.proofs.Fair.{candidate-has, candidate-first}
use Rattle.mdb_sound.specs.Sound.{Sound, was_closed, just_created, MayCreate, MayGrant}
use Rattle.mdb_sound.proofs.Calm.{Calm, open-ready, queued-unended, strangers, available-closes, calm-close, calm-end, calm-grant, calm-create}

-- sound and calm
abbrev pub Fine : List PoolItem → Type 0
Fine xs = Sound xs × Calm xs

module _ (p : ℕ) (a : ServerAddress) (o : PoolOptions) (n : ℕ) where
  -- the next move, and what is true then
  data Turn (xs : List PoolItem) : Type 0 where
    nothing : next_move p a o n xs ≡ [] → Turn xs
    closing : (c : ℕ) (why : ConnectionClosedReason) → next_move p a o n xs ≡ closed_fact p a c why (known_service xs c) ∷ [] → has c (available_list xs) ≡ true → Turn xs
    granting : (r c : ℕ) → next_move p a o n xs ≡ Granted r p c ∷ checked_out_fact p a c (n - asked_at xs r) ∷ [] → IsNext xs r → is_warm xs r ≡ false → has c (available_list xs) ≡ true → ready (state_of o xs) ≡ true → Turn xs
    creating : (r : ℕ) → next_move p a o n xs ≡ creation p a xs r → IsNext xs r → ready (state_of o xs) ≡ true → Turn xs
    warming : (r : ℕ) → next_move p a o n xs ≡ Ended r Warmed ∷ [] → has r (queued xs) ≡ true → is_warm xs r ≡ true → Turn xs

  turn-of : (xs : List PoolItem) → Turn xs
  turn-of xs = at_status (ready (state_of o xs)) refl
    where
      at_room : (b : Bool) (r : ℕ) → may_create o xs ≡ b → ready (state_of o xs) ≡ true → candidate o xs (queued xs) ≡ Some r → is_warm xs r ≡ false → last_of (available_list xs) ≡ None → Turn xs
      at_room true r room e f w l = creating r (rw (e, f, w, l, room) refl) (rw w (candidate-first p a o n xs r (queued xs) f w)) e
      at_room false r room e f w l = nothing (rw (e, f, w, l, room) refl)

      at_idle : (b : Bool) (r c : ℕ) → is_idle o n xs c ≡ b → is_stale o xs c ≡ false → ready (state_of o xs) ≡ true → candidate o xs (queued xs) ≡ Some r → is_warm xs r ≡ false → last_of (available_list xs) ≡ Some c → Turn xs
      at_idle true r c i s e f w l = closing c Idle (rw (e, f, w, l, s, i) refl) (last_of-has c (available_list xs) l)
      at_idle false r c i s e f w l = granting r c (rw (e, f, w, l, s, i) refl) (rw w (candidate-first p a o n xs r (queued xs) f w)) w (last_of-has c (available_list xs) l) e

      at_stale : (b : Bool) (r c : ℕ) → is_stale o xs c ≡ b → ready (state_of o xs) ≡ true → candidate o xs (queued xs) ≡ Some r → is_warm xs r ≡ false → last_of (available_list xs) ≡ Some c → Turn xs
      at_stale true r c s e f w l = closing c Stale (rw (e, f, w, l, s) refl) (last_of-has c (available_list xs) l)
      at_stale false r c s e f w l = at_idle (is_idle o n xs c) r c refl s e f w l

      at_last : (k : Option ℕ) (r : ℕ) → last_of (available_list xs) ≡ k → ready (state_of o xs) ≡ true → candidate o xs (queued xs) ≡ Some r → is_warm xs r ≡ false → Turn xs
      at_last None r l e f w = at_room (may_create o xs) r refl e f w l
      at_last (Some c) r l e f w = at_stale (is_stale o xs c) r c refl e f w l

      at_wants : (b : Bool) (r : ℕ) → wants_connection o xs ≡ b → ready (state_of o xs) ≡ true → candidate o xs (queued xs) ≡ Some r → is_warm xs r ≡ true → Turn xs
      at_wants true r v e f w = creating r (rw (e, f, w, v) refl) (rw w (candidate-has p a o n xs r (queued xs) f)) e
      at_wants false r v e f w = warming r (rw (e, f, w, v) refl) (candidate-has p a o n xs r (queued xs) f) w

      at_warm : (b : Bool) (r : ℕ) → is_warm xs r ≡ b → ready (state_of o xs) ≡ true → candidate o xs (queued xs) ≡ Some r → Turn xs
      at_warm true r w e f = at_wants (wants_connection o xs) r refl e f w
      at_warm false r w e f = at_last (last_of (available_list xs)) r refl e f w

      at_candidate : (k : Option ℕ) → candidate o xs (queued xs) ≡ k → ready (state_of o xs) ≡ true → Turn xs
      at_candidate None f e = nothing (rw (e, f) refl)
      at_candidate (Some r) f e = at_warm (is_warm xs r) r refl e f

      at_status : (b : Bool) → ready (state_of o xs) ≡ b → Turn xs
      at_status true e = at_candidate (candidate o xs (queued xs)) refl e
      at_status false e = nothing (rw e refl)

  or-right : (b : Bool) → b || true ≡ true
  or-right true = refl
  or-right false = refl

  grant-sound : (xs : List PoolItem) (r c : ℕ) → Fine xs → IsNext xs r → is_warm xs r ≡ false → has c (available_list xs) ≡ true → was_closed xs ≡ false → Fine (granted r c ∷ xs)
  grant-sound xs r c z i w h u = ((record { next = i; there = rw h (or-right (just_created xs c)); free = z.1.free c h; warmly = λ e. absurd (let k : true ≡ false = sym e ∙ w in cc); unshut = u }, z.0), calm-grant xs r c z.1)

  create-sound : (xs : List PoolItem) (r c : ℕ) → Fine xs → IsNext xs r → c ≡ created_total xs + 1 → was_closed xs ≡ false → Fine (granted r c ∷ created c n ∷ xs)
  create-sound xs r c z i e u =
      let made : MayCreate xs c = record { next = e; unshut = u } in
      let none : parties xs c ≡ [] = strangers xs z.0 c (omega arith) in
      let grant : MayGrant (created c n ∷ xs) r c = record { next = i; there = rw (same-number c) refl; free = none; warmly = λ w. same-number c; unshut = u } in
      ((grant, (made, z.0)), calm-grant (created c n ∷ xs) r c (calm-create xs c n z.1))

  turn-sound : (xs : List PoolItem) → Turn xs → Fine xs → Fine (after_facts p n (next_move p a o n xs) xs)
  turn-sound xs (nothing e) z = rw e z
  turn-sound xs (closing c why e i) z = rw (e, same-number p) ((available-closes xs z.0 z.1 c i, z.0), calm-close xs c z.1)
  turn-sound xs (granting r c e i w h k) z = rw (e, same-number p) (grant-sound xs r c z i w h (open-ready o xs z.0 k))
  turn-sound xs (creating r e i k) z = rw (e, same-number p) (create-sound xs r (created_total xs + 1) z i refl (open-ready o xs z.0 k))
  turn-sound xs (warming r e i w) z = rw (e, queued-asked xs r i) ((record { asked_for = queued-asked xs r i; unended = queued-unended xs z.0 r i; so = rw (i, w) refl }, z.0), calm-end xs r Warmed z.1)

  serve-sound : (k : ℕ) (xs : List PoolItem) → Fine xs → Fine (after_facts p n (serve p a o n k xs) xs)
  serve-sound zero xs z = z
  serve-sound (suc k) xs z = rw (after-append p n (next_move p a o n xs) (serve p a o n k (after_facts p n (next_move p a o n xs) xs)) xs) (serve-sound k (after_facts p n (next_move p a o n xs) xs) (turn-sound xs (turn-of xs) z))

  -- the serving keeps the items sound
  pub serving-sound : (xs : List PoolItem) → Fine xs → Fine (after_facts p n (serving p a o n xs) xs)
  serving-sound xs z = serve-sound (length (queued xs) + length (available_list xs)) xs z
