-- What a return does is the answer to its step.
use Rattle.std.proofs.Common.{ℕ, ◌≡◌, ◌≤◌, ◌<◌, true, arith, nat_lt, append-nil, List, [], ◌∷◌, ◌++◌, Option, Some, None, refl, sym, ◌∙◌, ap, subst, ◌||◌, ◌==◌}
use Rattle.mdb_events.specs.declared.fact.Fact.{Fact}
use Rattle.mdb_log.specs.declared.step.Act.TheVariants.{Return as ReturnAct}
use Rattle.mdb_log.specs.declared.step.Use.{Use}
use Rattle.std.proofs.lemmas.Bool.Decides.{nat_tests}
use Rattle.mdb_events.specs.declared.reasons.ConnectionClosedReason.{ConnectionClosedReason}
use Rattle.mdb_log.specs.declared.reply.Reply.TheVariants.{Done}
use Rattle.mdb_pool.specs.declared.kept.connection.Connection.{Connection}
use Rattle.mdb_pool.specs.declared.kept.connection.Place.TheVariants.{Held}
use Rattle.mdb_pool.specs.declared.kept.request.Request.{Request}
use Rattle.mdb_pool.specs.declared.kept.request.Phase.TheVariants.{Given, Over}
use Rattle.mdb_pool.specs.Core.{PoolCore}
use Rattle.mdb_log.specs.History.{PoolItem, returned, given, after_facts, closed, checked_in}
use Rattle.mdb_pool_rules.specs.Facts.{act_facts, check_in}
use Rattle.mdb_pool.specs.Standing.{Fits, Accepts, SameHome}
use Rattle.mdb_pool.specs.Acts.Doing.{Serves, SameNotes}
use Rattle.mdb_pool.specs.Kept.Values.{connection_at, request_at, held_connection, given_of, given_in, is_shut, reason_now, used_as}
use Rattle.mdb_log.specs.Connections.{is_fault, has, held, is_errored}
use Rattle.mdb_pool.specs.Acts.Changes.{returning, dropping, back_facts, returning_for, to_pin}
use Rattle.mdb_pool.proofs.Answered.Act.{accepts, holding-is, live-errored, live-service, live-pins}
use Rattle.mdb_pool_rules.proofs.Listed.Values.{entry_at-key}
use Rattle.mdb_pool.proofs.Listed.FirstOrLast.{Holder, holder}
use Rattle.std.proofs.Math.Bool.{or_comm}
use Rattle.mdb_pool.proofs.Listed.Noted.{has-marked}
use Rattle.mdb_pool.specs.Kept.Keyed.{marked}
use Rattle.mdb_log.proofs.Numbers.{same-number}
use Rattle.mdb_pool.proofs.Follows.Fits.{return-fits, drop-fits}
use Rattle.mdb_pool.proofs.Follows.PinsFit.{stand-fits}
use Rattle.mdb_log.proofs.Pins.{errored-return}
use Rattle.mdb_pool.proofs.Follows.CheckIn.{check-in-is, back-fair, back-own, back-open, back-fits}
use Rattle.mdb_pool.proofs.Follows.Stale.{stale-at}
use Rattle.mdb_pool.proofs.SameAnswers.StaysHome.{stays-home}

pub none-above : (k : ℕ) → k ≤ 0 → k ≡ 0
none-above k l = omega arith

pub some-above : (k : ℕ) → 0 < k → nat_lt 0 k ≡ true
some-above k l = grind (arith, nat_tests)

-- a party that holds a connection
module _ (s : PoolCore) (xs : List PoolItem) (z : Fits s xs) (n : ℕ) (x : Connection) (q : Request) (used : Use) where
  abbrev ys : List PoolItem
  ys = returned q.number used ∷ xs

  abbrev used_x : Connection
  used_x = used_as x used

  abbrev why : Option ConnectionClosedReason
  why = reason_now s used_x

  mine : request_at s q.number ≡ Some q → q.phase ≡ Given x.id → given xs q.number ≡ Some x.id
  mine at_q phase = z.matches.requests.given q.number ∙ (ap given_of at_q ∙ ap given_in phase)

  check-in-here : connection_at s x.id ≡ Some x → request_at s q.number ≡ Some q → q.phase ≡ Given x.id → check_in s.pool s.address s.options ys x.id ≡ back_facts s used_x why
  check-in-here at_x at_q phase = check-in-is s ys used_x z.matches.clearing.status (live-service s xs z.matches x.id x at_x) errored_now (stale-at s xs z.matches x.id x at_x) (rw (mine at_q phase, same-number x.id) refl)
    where
      errored_now : is_errored ys x.id ≡ is_fault used || x.errored
      errored_now = errored-return q.number used xs x.id ∙ rw (mine at_q phase, same-number x.id, live-errored s xs z.matches x.id x at_x) refl

  back-are : held_connection s q.number ≡ Some x → connection_at s x.id ≡ Some x → request_at s q.number ≡ Some q → q.phase ≡ Given x.id → x.pins ≡ 0 → act_facts s.pool s.address s.options n xs ys (ReturnAct q.number used) ≡ back_facts s used_x why
  back-are held at_x at_q phase loose = rw (holding-is s xs z q.number, held, live-pins s xs z.matches x.id x at_x, loose) (check-in-here at_x at_q phase)

  -- a pin stands
  stand-are : held_connection s q.number ≡ Some x → connection_at s x.id ≡ Some x → nat_lt 0 x.pins ≡ true → act_facts s.pool s.address s.options n xs ys (ReturnAct q.number used) ≡ []
  stand-are held at_x some_pins = rw (holding-is s xs z q.number, held, live-pins s xs z.matches x.id x at_x, some_pins) refl

  fits-for : connection_at s x.id ≡ Some x → x.place ≡ Held → request_at s q.number ≡ Some q → q.phase ≡ Given x.id → x.pins ≡ 0 → (o : Option ConnectionClosedReason) → Fits (returning_for s n used_x q o) (after_facts s.pool n (back_facts s used_x o) ys)
  fits-for at_x place at_q phase loose None = back-fits s (returning s n used_x q) n used_x None ys (λ f. return-fits s xs z n x q used at_x place at_q phase loose) (λ w f. drops w f)
    where
      drops : (w : ConnectionClosedReason) → ◌≡◌ {A = Option ConnectionClosedReason} None (Some w) → Fits (returning s n used_x q) (closed x.id ∷ checked_in x.id n ∷ ys)
      drops w f = cc
  fits-for at_x place at_q phase loose (Some w) = back-fits s (dropping s n used_x q) n used_x (Some w) ys (λ f. keeps f) (λ v f. drop-fits s xs z n x q used at_x place at_q phase loose)
    where
      keeps : ◌≡◌ {A = Option ConnectionClosedReason} (Some w) None → Fits (dropping s n used_x q) (checked_in x.id n ∷ ys)
      keeps f = cc

  home-for : (o : Option ConnectionClosedReason) → SameHome s (returning_for s n used_x q o)
  home-for None = stays-home refl refl refl refl
  home-for (Some w) = stays-home refl refl refl refl

  notes-for : (o : Option ConnectionClosedReason) → ((returning_for s n used_x q o).kept.settled ≡ marked q.number s.kept.settled) × ((returning_for s n used_x q o).kept.claimed ≡ s.kept.claimed) × ((returning_for s n used_x q o).kept.status ≡ s.kept.status)
  notes-for None = (refl, refl, refl)
  notes-for (Some w) = (refl, refl, refl)

  pub return-accepts : (s1 t : PoolCore) (before f1 after : List Fact) → held_connection s q.number ≡ Some x → connection_at s x.id ≡ Some x → x.place ≡ Held → request_at s q.number ≡ Some q → q.phase ≡ Given x.id → x.pins ≡ 0 → s1 ≡ returning_for s n used_x q why → f1 ≡ before ++ back_facts s used_x why → SameHome s1 t → SameNotes s1 t
      → ((k : List PoolItem) → Fits s1 k → Serves s1 t n f1 after k)
      → Accepts s t before after n (ReturnAct q.number used) Done xs ys
  return-accepts s1 t before f1 after held at_x place at_q phase loose s1_is f1_is home notes serves =
      accepts s s1 t t before f1 after n (ReturnAct q.number used) Done (back_facts s used_x why) xs ys
      (back-are held at_x at_q phase loose)
      f1_is (rw s1_is (home-for why)) (rw s1_is (fits-for at_x place at_q phase loose why)) serves
      (λ zs v. v)
      (λ claims own zs m. refl)
      tt
      (ap is_shut (notes.status ∙ (ap (λ k. k.kept.status) s1_is ∙ (notes-for why).2)) ∙ ap (λ b. b || is_shut s.kept.status) (sym (back-open s used_x why)))
      (λ r. ap (has r) (notes.settled ∙ (ap (λ k. k.kept.settled) s1_is ∙ (notes-for why).0)) ∙ (has-marked r q.number s.kept.settled ∙ or_comm (has r s.kept.settled) (q.number == r)))
      (λ c. ap (has c) (notes.claimed ∙ (ap (λ k. k.kept.claimed) s1_is ∙ (notes-for why).1)))
      (back-fair s n used_x why ys)
      (back-own s n used_x why ys)

  pub stand-accepts : (s1 t : PoolCore) (before after : List Fact) → held_connection s q.number ≡ Some x → connection_at s x.id ≡ Some x → x.place ≡ Held → request_at s q.number ≡ Some q → q.phase ≡ Given x.id → nat_lt 0 x.pins ≡ true → s1 ≡ to_pin s n used_x q Over → SameHome s1 t → SameNotes s1 t
      → ((k : List PoolItem) → Fits s1 k → Serves s1 t n before after k)
      → Accepts s t before after n (ReturnAct q.number used) Done xs ys
  stand-accepts s1 t before after held at_x place at_q phase some_pins s1_is home notes serves =
      accepts s s1 t t before before after n (ReturnAct q.number used) Done [] xs ys
      (stand-are held at_x some_pins)
      (sym (append-nil before)) (rw s1_is (stays-home refl refl refl refl)) (rw s1_is (stand-fits s xs z n x q at_x place at_q phase some_pins used)) serves
      (λ zs v. v)
      (λ claims own zs m. refl)
      tt
      (ap is_shut (notes.status ∙ ap (λ k. k.kept.status) s1_is))
      (λ r. ap (has r) (notes.settled ∙ ap (λ k. k.kept.settled) s1_is) ∙ (has-marked r q.number s.kept.settled ∙ or_comm (has r s.kept.settled) (q.number == r)))
      (λ c. ap (has c) (notes.claimed ∙ ap (λ k. k.kept.claimed) s1_is))
      tt
      tt

pub return-of : (s s1 t : PoolCore) (before f1 after : List Fact) (n r : ℕ) (x y : Connection) (q : Request) (used : Use) (o : Option ConnectionClosedReason) (xs : List PoolItem) → Fits s xs → held_connection s r ≡ Some x → request_at s r ≡ Some q → y ≡ used_as x used → y.pins ≤ 0 → o ≡ reason_now s y → s1 ≡ returning_for s n y q o
    → f1 ≡ before ++ back_facts s y o → SameHome s1 t → SameNotes s1 t → ((k : List PoolItem) → Fits s1 k → Serves s1 t n f1 after k)
    → Accepts s t before after n (ReturnAct r used) Done xs (returned r used ∷ xs)
return-of s s1 t before f1 after n r x y q used o xs z held at_r y_is no_pins why s1_is f1_is home notes serves =
    let e : q.number ≡ r = entry_at-key (λ (k : Request). k.number) r q s.kept.requests at_r in
    let v : Holder s r x q = holder s r x q held at_r in
    let loose : x.pins ≡ 0 = ap (λ k. k.pins) (sym y_is) ∙ none-above y.pins no_pins in
    let w : o ≡ reason_now s (used_as x used) = why ∙ ap (reason_now s) y_is in
    subst (λ d. Accepts s t before after n (ReturnAct d used) Done xs (returned d used ∷ xs)) e (return-accepts s xs z n x q used s1 t before f1 after (subst (λ d. held_connection s d ≡ Some x) (sym e) held) v.at_x v.place (subst (λ d. request_at s d ≡ Some q) (sym e) at_r) v.phase loose (s1_is ∙ rw (w, y_is) refl) (f1_is ∙ rw (w, y_is) refl) home notes serves)

pub stand-of : (s s1 t : PoolCore) (before after : List Fact) (n r : ℕ) (x y : Connection) (q : Request) (used : Use) (xs : List PoolItem) → Fits s xs → held_connection s r ≡ Some x → request_at s r ≡ Some q → y ≡ used_as x used → 0 < y.pins → s1 ≡ to_pin s n y q Over
    → SameHome s1 t → SameNotes s1 t → ((k : List PoolItem) → Fits s1 k → Serves s1 t n before after k)
    → Accepts s t before after n (ReturnAct r used) Done xs (returned r used ∷ xs)
stand-of s s1 t before after n r x y q used xs z held at_r y_is some_pins s1_is home notes serves =
    let e : q.number ≡ r = entry_at-key (λ (k : Request). k.number) r q s.kept.requests at_r in
    let v : Holder s r x q = holder s r x q held at_r in
    subst (λ d. Accepts s t before after n (ReturnAct d used) Done xs (returned d used ∷ xs)) e (stand-accepts s xs z n x q used s1 t before after (subst (λ d. held_connection s d ≡ Some x) (sym e) held) v.at_x v.place (subst (λ d. request_at s d ≡ Some q) (sym e) at_r) v.phase (ap (λ k. nat_lt 0 k.pins) (sym y_is) ∙ some-above y.pins some_pins) (s1_is ∙ rw y_is refl) home notes serves)
