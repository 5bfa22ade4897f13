-- What an unpin does is the answer to its step.
use Rattle.std.proofs.Common.{ℕ, ◌≡◌, ◌-◌, ◌||◌, ◌&&◌, Bool, true, false, ◌==◌, arith, List, [], ◌∷◌, ◌++◌, Option, Some, None, refl, sym, ◌∙◌, ap, subst, append-nil, nat_lt}
use Rattle.std.proofs.lemmas.Bool.Decides.{nat_tests}
use Rattle.mdb_events.specs.declared.fact.Fact.{Fact}
use Rattle.mdb_events.specs.declared.reasons.ConnectionClosedReason.{ConnectionClosedReason}
use Rattle.mdb_log.specs.declared.step.Act.TheVariants.{Unpin}
use Rattle.mdb_log.specs.declared.reply.Reply.TheVariants.{Done}
use Rattle.mdb_pool.specs.declared.kept.connection.Connection.{Connection}
use Rattle.mdb_pool.specs.declared.kept.connection.Place.TheVariants.{Pinned}
use Rattle.mdb_pool.specs.Core.{PoolCore}
use Rattle.mdb_log.specs.History.{PoolItem, unpinned, after_facts, closed, checked_in}
use Rattle.mdb_pool_rules.specs.Facts.{act_facts}
use Rattle.mdb_log.specs.Connections.{has, pins, is_pinned}
use Rattle.mdb_pool.specs.Standing.{Fits, Accepts, SameHome}
use Rattle.mdb_pool.specs.Acts.Doing.{Serves, SameNotes}
use Rattle.mdb_pool.specs.Kept.Values.{connection_at, is_shut, pins_at, is_pinned_at, reason_now}
use Rattle.mdb_pool.specs.Kept.Places.{is_at_pin}
use Rattle.mdb_pool.specs.Acts.Changes.{unpinning, pin_ending, back_facts}
use Rattle.mdb_pool.proofs.Answered.Act.{accepts, live-errored, live-dropped, live-service, live-pins}
use Rattle.mdb_pool.proofs.Follows.CheckIn.{check-in-is, back-fair, back-own, back-open, back-fits}
use Rattle.mdb_pool.proofs.Follows.Stale.{stale-at}
use Rattle.mdb_log.proofs.Numbers.{same-number}
use Rattle.mdb_log.proofs.Bools.{both-left, both-right}
use Rattle.mdb_pool.proofs.Listed.FirstOrLast.{is-pinned}
use Rattle.mdb_pool.proofs.Answered.Pin.{pinned-at}
use Rattle.mdb_pool.proofs.Follows.PinsFit.{unpin-fits, pin-end-fits, pin-lose-fits}
use Rattle.mdb_pool.proofs.SameAnswers.StaysHome.{stays-home}

-- a connection that has a pin
module _ (s : PoolCore) (xs : List PoolItem) (z : Fits s xs) (n : ℕ) (x : Connection) (at_x : connection_at s x.id ≡ Some x) (some_pins : nat_lt 0 x.pins ≡ true) where
  abbrev ys : List PoolItem
  ys = unpinned x.id ∷ xs

  abbrev is_last : Bool
  is_last = is_at_pin x.place && (x.pins == 1)

  abbrev why : Option ConnectionClosedReason
  why = reason_now s x

  fewer : pins ys x.id ≡ x.pins - 1
  fewer = rw (same-number x.id, live-pins s xs z.matches x.id x at_x) refl

  at_pin_now : is_pinned xs x.id ≡ is_at_pin x.place
  at_pin_now = z.matches.at_pin x.id ∙ ap is_pinned_at at_x

  last-one : (k : ℕ) → nat_lt 0 k ≡ true → (k - 1 == 0) ≡ (k == 1)
  last-one k e = grind (arith, nat_tests)

  -- it stays where it is
  stays-are : is_last ≡ false → act_facts s.pool s.address s.options n xs ys (Unpin s.pool x.id) ≡ []
  stays-are more = rw (at_pin_now, fewer, last-one x.pins some_pins, more) refl

  -- its last pin goes
  ends-are : is_last ≡ true → act_facts s.pool s.address s.options n xs ys (Unpin s.pool x.id) ≡ back_facts s x why
  ends-are last = rw (at_pin_now, fewer, last-one x.pins some_pins, last) (check-in-is s ys x z.matches.clearing.status (live-service s xs z.matches x.id x at_x) (live-errored s xs z.matches x.id x at_x) (stale-at s xs z.matches x.id x at_x) (live-dropped s xs z.matches x.id x at_x))

  pub unpin-accepts : (s1 t : PoolCore) (before after : List Fact) → is_last ≡ false → s1 ≡ unpinning s n x → SameHome s1 t → SameNotes s1 t → ((k : List PoolItem) → Fits s1 k → Serves s1 t n before after k)
      → Accepts s t before after n (Unpin s.pool x.id) Done xs ys
  unpin-accepts s1 t before after more s1_is home notes serves =
      accepts s s1 t t before before after n (Unpin s.pool x.id) Done [] xs ys
      (stays-are more)
      (sym (append-nil before)) (rw s1_is (stays-home refl refl refl refl)) (rw s1_is (unpin-fits s xs z n x at_x some_pins more)) serves
      (λ zs v. v)
      (λ claims own zs m. refl)
      tt
      (ap is_shut (notes.status ∙ ap (λ k. k.kept.status) s1_is))
      (λ r. ap (has r) (notes.settled ∙ ap (λ k. k.kept.settled) s1_is))
      (λ c. ap (has c) (notes.claimed ∙ ap (λ k. k.kept.claimed) s1_is))
      tt
      tt

  fits-for : x.place ≡ Pinned → x.pins ≡ 1 → (o : Option ConnectionClosedReason) → Fits (pin_ending s n x o) (after_facts s.pool n (back_facts s x o) ys)
  fits-for place one None = back-fits s (pin_ending s n x None) n x None ys (λ f. pin-end-fits s xs z n x at_x place one) (λ w f. drops w f)
    where
      drops : (w : ConnectionClosedReason) → ◌≡◌ {A = Option ConnectionClosedReason} None (Some w) → Fits (pin_ending s n x None) (closed x.id ∷ checked_in x.id n ∷ ys)
      drops w f = cc
  fits-for place one (Some w) = back-fits s (pin_ending s n x (Some w)) n x (Some w) ys (λ f. keeps f) (λ v f. pin-lose-fits s xs z n x w at_x place one)
    where
      keeps : ◌≡◌ {A = Option ConnectionClosedReason} (Some w) None → Fits (pin_ending s n x (Some w)) (checked_in x.id n ∷ ys)
      keeps f = cc

  pub pin-end-accepts : (s1 t : PoolCore) (before f1 after : List Fact) → is_at_pin x.place ≡ true → x.pins ≡ 1 → s1 ≡ pin_ending s n x why → f1 ≡ before ++ back_facts s x why → SameHome s1 t → SameNotes s1 t → ((k : List PoolItem) → Fits s1 k → Serves s1 t n f1 after k)
      → Accepts s t before after n (Unpin s.pool x.id) Done xs ys
  pin-end-accepts s1 t before f1 after place one s1_is f1_is home notes serves =
      accepts s s1 t t before f1 after n (Unpin s.pool x.id) Done (back_facts s x why) xs ys
      (ends-are (rw (place, one) refl))
      f1_is (rw s1_is (stays-home refl refl refl refl)) (rw s1_is (fits-for (is-pinned x.place place) one why)) serves
      (λ zs v. v)
      (λ claims own zs m. refl)
      tt
      (ap is_shut (notes.status ∙ ap (λ k. k.kept.status) s1_is) ∙ ap (λ b. b || is_shut s.kept.status) (sym (back-open s x why)))
      (λ r. ap (has r) (notes.settled ∙ ap (λ k. k.kept.settled) s1_is))
      (λ c. ap (has c) (notes.claimed ∙ ap (λ k. k.kept.claimed) s1_is))
      (back-fair s n x why ys)
      (back-own s n x why ys)

only-one : (k : ℕ) → (k == 1) ≡ true → k ≡ 1
only-one k e = grind arith

-- an unpin does what its step says, by the number that its call is given
pub unpin-of : (s s1 t : PoolCore) (before after : List Fact) (n c : ℕ) (x : Connection) (xs : List PoolItem) → Fits s xs → connection_at s c ≡ Some x → nat_lt 0 (pins_at (connection_at s c)) ≡ true → is_at_pin x.place && (x.pins == 1) ≡ false → s1 ≡ unpinning s n x → SameHome s1 t → SameNotes s1 t
    → ((k : List PoolItem) → Fits s1 k → Serves s1 t n before after k)
    → Accepts s t before after n (Unpin s.pool c) Done xs (unpinned c ∷ xs)
unpin-of s s1 t before after n c x xs z at_c some_pins more s1_is home notes serves =
    let e : x.id ≡ c = pinned-at s c x at_c in
    subst (λ d. Accepts s t before after n (Unpin s.pool d) Done xs (unpinned d ∷ xs)) e (unpin-accepts s xs z n x (subst (λ d. connection_at s d ≡ Some x) (sym e) at_c) (ap (λ o. nat_lt 0 (pins_at o)) (sym at_c) ∙ some_pins) s1 t before after more s1_is home notes serves)

pub pin-end-of : (s s1 t : PoolCore) (before f1 after : List Fact) (n c : ℕ) (x : Connection) (o : Option ConnectionClosedReason) (xs : List PoolItem) → Fits s xs → connection_at s c ≡ Some x → nat_lt 0 (pins_at (connection_at s c)) ≡ true → is_at_pin x.place && (x.pins == 1) ≡ true → o ≡ reason_now s x
    → s1 ≡ pin_ending s n x o → f1 ≡ before ++ back_facts s x o → SameHome s1 t → SameNotes s1 t → ((k : List PoolItem) → Fits s1 k → Serves s1 t n f1 after k)
    → Accepts s t before after n (Unpin s.pool c) Done xs (unpinned c ∷ xs)
pin-end-of s s1 t before f1 after n c x o xs z at_c some_pins last reason s1_is f1_is home notes serves =
    let e : x.id ≡ c = pinned-at s c x at_c in
    let place : is_at_pin x.place ≡ true = both-left (is_at_pin x.place) (x.pins == 1) last in
    let one : x.pins ≡ 1 = only-one x.pins (both-right (is_at_pin x.place) (x.pins == 1) last) in
    subst (λ d. Accepts s t before after n (Unpin s.pool d) Done xs (unpinned d ∷ xs)) e (pin-end-accepts s xs z n x (subst (λ d. connection_at s d ≡ Some x) (sym e) at_c) (ap (λ o. nat_lt 0 (pins_at o)) (sym at_c) ∙ some_pins) s1 t before f1 after place one (s1_is ∙ ap (pin_ending s n x) reason) (f1_is ∙ ap (λ k. before ++ back_facts s x k) reason) home notes serves)
