-- What is done with pins keeps what the state fits.
use Rattle.std.proofs.Common.{ℕ, ◌≡◌, true, false, ◌&&◌, ◌==◌, List, ◌∷◌, Some, None, refl, sym, ◌∙◌, ap, subst, arith, nat_lt, not}
use Rattle.mdb_events.specs.declared.end.End.TheVariants.{GaveUp}
use Rattle.mdb_events.specs.declared.reasons.ConnectionClosedReason.{ConnectionClosedReason}
use Rattle.mdb_pool.specs.declared.kept.connection.Connection.{Connection}
use Rattle.mdb_pool.specs.declared.kept.connection.Place.TheVariants.{Available, Held, Pinned}
use Rattle.mdb_pool.specs.declared.kept.request.Request.{Request}
use Rattle.mdb_pool.specs.declared.kept.request.Phase.TheVariants.{Given, Over, Ended as EndedPhase}
use Rattle.mdb_log.specs.declared.step.Use.{Use}
use Rattle.mdb_log.specs.declared.step.Use.TheVariants.{Ok}
use Rattle.mdb_pool.specs.Core.{PoolCore}
use Rattle.mdb_log.specs.History.{PoolItem, given, gave_up, returned, ended, pinned_by, replicated, taken, unpinned, checked_in, closed}
use Rattle.mdb_pool.specs.Kept.Values.{connection_at, request_at, used_as}
use Rattle.mdb_pool.specs.Standing.{Fits}
use Rattle.mdb_pool.specs.Kept.Places.{is_at_pin, stays}
use Rattle.mdb_pool.specs.Acts.Changes.{to_pin, pinning, taking, unpinned_once, unpinning, pin_ending}
use Rattle.mdb_pool.proofs.Follows.Pinning.{stand-matches, back_request, quit-pinned-matches, left_request, pin-matches, replicate-matches, take-matches, taken_q, taken_request, unpin-matches, pin-end-matches}
use Rattle.mdb_pool.proofs.Follows.Fits.{order-stays, discard-fits}
use Rattle.mdb_log.proofs.Numbers.{same-number}
use Rattle.mdb_pool_rules.proofs.Listed.Values.{entry_at-put, others-put, where-put_stay, passes}

module _ (s : PoolCore) (xs : List PoolItem) (z : Fits s xs) (n : ℕ) where
  pub stand-fits : (x : Connection) (q : Request) → connection_at s x.id ≡ Some x → x.place ≡ Held → request_at s q.number ≡ Some q → q.phase ≡ Given x.id → nat_lt 0 x.pins ≡ true → (used : Use) → Fits (to_pin s n (used_as x used) q Over) (returned q.number used ∷ xs)
  stand-fits x q at_x place at_q phase some_pins used = record {
    matches = stand-matches s xs z.matches n x q at_x place at_q phase some_pins used;
    asked = λ r. grind (arith, z.asked r, back_request s xs z.matches n x q at_x place at_q phase some_pins used r);
    order = order-stays s xs z n q Over at_q;
  }

  pub quit-pinned-fits : (x : Connection) (q : Request) → connection_at s x.id ≡ Some x → x.place ≡ Held → request_at s q.number ≡ Some q → q.phase ≡ Given x.id → nat_lt 0 x.pins ≡ true → Fits (to_pin s n (used_as x Ok) q (EndedPhase GaveUp)) (ended q.number GaveUp ∷ gave_up q.number ∷ xs)
  quit-pinned-fits x q at_x place at_q phase some_pins = record {
    matches = quit-pinned-matches s xs z.matches n x q at_x place at_q phase some_pins;
    asked = λ r. grind (arith, z.asked r, left_request s xs z.matches n x q at_x place at_q phase some_pins r);
    order = order-stays s xs z n q (EndedPhase GaveUp) at_q;
  }

  pub pin-fits : (x : Connection) (r : ℕ) → connection_at s x.id ≡ Some x → x.place ≡ Held → given xs r ≡ Some x.id → Fits (pinning s n x) (pinned_by r ∷ xs)
  pin-fits x r at_x place mine = record {
    matches = pin-matches s xs z.matches n x at_x (ap stays place) r mine place;
    asked = z.asked;
    order = z.order;
  }

  pub replicate-fits : (x : Connection) → connection_at s x.id ≡ Some x → stays x.place ≡ true → Fits (pinning s n x) (replicated x.id ∷ xs)
  replicate-fits x at_x outside = record {
    matches = replicate-matches s xs z.matches n x at_x outside;
    asked = z.asked;
    order = z.order;
  }

  pub take-fits : (x : Connection) (r : ℕ) → connection_at s x.id ≡ Some x → x.place ≡ Pinned → request_at s r ≡ None → Fits (taking s n r x) (taken r x.id ∷ xs)
  take-fits x r at_x place absent = record {
    matches = take-matches s xs z.matches n r x at_x place absent;
    asked = λ k. grind (arith, z.asked k, taken_request s xs z.matches n r x at_x place absent k);
    order = z.order ∙ sym (where-put_stay (λ (q : Request). q.number) (λ q. not q.took) (taken_q s xs z.matches n r x at_x place absent) s.kept.requests refl (z.matches.requests.single_request r) (ap (passes (λ (q : Request). q.number) (λ q. not q.took)) absent));
  }

  pub unpin-fits : (x : Connection) → connection_at s x.id ≡ Some x → nat_lt 0 x.pins ≡ true → is_at_pin x.place && (x.pins == 1) ≡ false → Fits (unpinning s n x) (unpinned x.id ∷ xs)
  unpin-fits x at_x some_pins not_last = record {
    matches = unpin-matches s xs z.matches n x at_x some_pins not_last;
    asked = z.asked;
    order = z.order;
  }

  pub pin-end-fits : (x : Connection) → connection_at s x.id ≡ Some x → x.place ≡ Pinned → x.pins ≡ 1 → Fits (pin_ending s n x None) (checked_in x.id n ∷ unpinned x.id ∷ xs)
  pin-end-fits x at_x place one = record {
    matches = pin-end-matches s xs z.matches n x at_x place one;
    asked = z.asked;
    order = z.order;
  }

  -- and is closed
  pub pin-lose-fits : (x : Connection) (why : ConnectionClosedReason) → connection_at s x.id ≡ Some x → x.place ≡ Pinned → x.pins ≡ 1 → Fits (pin_ending s n x (Some why)) (closed x.id ∷ checked_in x.id n ∷ unpinned x.id ∷ xs)
  pin-lose-fits x why at_x place one =
      let in_x : Connection = record (unpinned_once s x) { place = Available; holder = None; since = n } in
      let u : PoolCore = pin_ending s n x None in
      let at_u : connection_at u x.id ≡ Some in_x = entry_at-put (λ (y : Connection). y.id) x.id in_x s.kept.connections ∙ rw (same-number x.id) refl in
      subst (λ cs. Fits (record s { kept = record s.kept { last = n; connections = cs } }) (closed x.id ∷ checked_in x.id n ∷ unpinned x.id ∷ xs)) (others-put (λ (y : Connection). y.id) in_x s.kept.connections) (discard-fits u (checked_in x.id n ∷ unpinned x.id ∷ xs) (pin-end-fits x at_x place one) n in_x at_u refl)
