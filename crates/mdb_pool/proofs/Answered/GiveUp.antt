-- What a give-up does is the answer to its step.
use Rattle.std.proofs.Common.{ℕ, ◌≡◌, ◌≤◌, ◌<◌, Bool, true, false, ◌==◌, List, [], ◌∷◌, ◌++◌, Option, Some, None, is_some, refl, sym, ◌∙◌, ap, subst, append-nil, ◌||◌, nat_lt}
use Rattle.mdb_events.specs.declared.fact.Fact.{Fact}
use Rattle.mdb_events.specs.declared.fact.Fact.TheVariants.{Ended}
use Rattle.mdb_events.specs.declared.end.End.{End}
use Rattle.mdb_events.specs.declared.reasons.ConnectionClosedReason.{ConnectionClosedReason}
use Rattle.mdb_log.specs.declared.step.Use.TheVariants.{Ok}
use Rattle.mdb_events.specs.declared.end.End.TheVariants.{GaveUp}
use Rattle.mdb_log.specs.declared.step.Act.TheVariants.{GiveUp}
use Rattle.mdb_log.specs.declared.reply.Reply.{Reply}
use Rattle.mdb_log.specs.declared.reply.Reply.TheVariants.{Done}
use Rattle.mdb_pool.specs.declared.kept.connection.Connection.{Connection}
use Rattle.mdb_pool.specs.declared.kept.connection.Place.TheVariants.{Pending, Held}
use Rattle.mdb_pool.specs.declared.kept.request.Request.{Request}
use Rattle.mdb_pool.specs.declared.kept.request.Phase.{Phase}
use Rattle.mdb_pool.specs.declared.kept.request.Phase.TheVariants.{Queued, Given, Over, Ended as EndedPhase}
use Rattle.mdb_pool.specs.Core.{PoolCore}
use Rattle.mdb_log.specs.History.{PoolItem, given, has_asked, after_facts, gave_up, closed, checked_in, ended, after_fact}
use Rattle.mdb_pool.specs.Kept.Values.{connection_at, request_at, given_in, given_of, end_in, end_at, is_ended_at, held_connection, pending_connection, is_pending_at, outcome_now, is_shut, reason_now, used_as, is_asked_at}
use Rattle.mdb_pool.specs.Now.{is_open_now, queries}
use Rattle.mdb_log.specs.Requests.{end_of, told}
use Rattle.mdb_pool_rules.specs.Facts.{act_facts}
use Rattle.mdb_pool.specs.Standing.{Fits, SameHome, Accepts}
use Rattle.mdb_pool.specs.Acts.Doing.{SameNotes, Serves}
use Rattle.mdb_log.specs.Connections.{has, pending_list, held}
use Rattle.mdb_pool.specs.Kept.Places.{is_pending}
use Rattle.mdb_pool.specs.Acts.Changes.{quitting, leaving, handing, back_facts, losing, handing_for, to_pin}
use Rattle.mdb_log.specs.Legal.{AllFirstCome}
use Rattle.mdb_log.specs.Own.{AllOwn, shuts}
use Rattle.mdb_pool.proofs.Answered.Return.{none-above, some-above}
use Rattle.mdb_pool.proofs.Follows.PinsFit.{quit-pinned-fits}
use Rattle.mdb_pool.proofs.Listed.FirstOrLast.{Holder, holder, pender, not-given}
use Rattle.mdb_pool.proofs.Follows.Fits.{quit-fits, leave-fits, hand-fits, late-fits, lose-fits, asked-known}
use Rattle.mdb_pool_rules.proofs.Listed.Values.{entry_at-key}
use Rattle.std.proofs.Math.Bool.{or_comm}
use Rattle.mdb_pool.proofs.Listed.Noted.{has-marked}
use Rattle.mdb_pool.specs.Kept.Keyed.{marked}
use Rattle.mdb_log.proofs.Numbers.{same-number}
use Rattle.mdb_pool.proofs.Answered.Act.{accepts, pending-is, holding-is, outcome-is, outcome-accepted, outcome-no-job, live-errored, live-service, live-pins}
use Rattle.mdb_pool.proofs.Follows.CheckIn.{check-in-is, back-fair, back-own, back-open, back-fits}
use Rattle.mdb_pool.proofs.Follows.Stale.{stale-at}
use Rattle.mdb_pool.proofs.SameAnswers.StaysHome.{stays-home}

-- a request that has not ended
module _ (s : PoolCore) (xs : List PoolItem) (z : Fits s xs) (n : ℕ) (q : Request) (at_q : request_at s q.number ≡ Some q) (open_now : end_in q.phase ≡ None) (known : is_asked_at (request_at s q.number) ≡ true) where
  abbrev ys : List PoolItem
  ys = gave_up q.number ∷ xs

  still : end_of xs q.number ≡ None
  still = z.matches.requests.ends q.number ∙ (ap end_at at_q ∙ open_now)

  asked : has_asked xs q.number ≡ true
  asked = asked-known s xs z q.number ∙ known

  -- the facts acts, and a state that fits them, are an answer
  given-up : (s1 t : PoolCore) (before f1 after : List Fact) (acts : List Fact) → act_facts s.pool s.address s.options n xs ys (GiveUp q.number) ≡ acts → f1 ≡ before ++ acts → SameHome s s1 → s1.kept.settled ≡ marked q.number s.kept.settled → s1.kept.claimed ≡ s.kept.claimed → s1.kept.status ≡ s.kept.status → shuts acts ≡ false
      → Fits s1 (after_facts s.pool n acts ys) → SameHome s1 t → SameNotes s1 t → ((k : List PoolItem) → Fits s1 k → Serves s1 t n f1 after k) → AllFirstCome s.pool n ys acts → AllOwn s.pool n ys acts
      → Accepts s t before after n (GiveUp q.number) Done xs ys
  given-up s1 t before f1 after acts acts_are f1_is at_home told same state unshut fits home notes serves fair own =
      accepts s s1 t t before f1 after n (GiveUp q.number) Done acts xs ys acts_are f1_is at_home fits serves
      (λ zs v. v)
      (λ claims own zs m. rw still refl)
      tt
      (ap is_shut (notes.status ∙ state) ∙ ap (λ b. b || is_shut s.kept.status) (sym unshut))
      (λ r. ap (has r) (notes.settled ∙ told) ∙ (has-marked r q.number s.kept.settled ∙ or_comm (has r s.kept.settled) (q.number == r)))
      (λ c. ap (has c) (notes.claimed ∙ same))
      fair own

  -- it waits in the queue
  quit-are : given_in q.phase ≡ None → act_facts s.pool s.address s.options n xs ys (GiveUp q.number) ≡ Ended q.number GaveUp ∷ []
  quit-are none = let g : given xs q.number ≡ None = z.matches.requests.given q.number ∙ (ap given_of at_q ∙ none) in rw (still, g) refl

  pub quit-accepts : (s1 t : PoolCore) (before f1 after : List Fact) → given_in q.phase ≡ None → s1 ≡ quitting s n q → f1 ≡ before ++ Ended q.number GaveUp ∷ [] → SameHome s1 t → SameNotes s1 t → ((k : List PoolItem) → Fits s1 k → Serves s1 t n f1 after k)
      → Accepts s t before after n (GiveUp q.number) Done xs ys
  quit-accepts s1 t before f1 after none s1_is f1_is home notes serves =
      given-up s1 t before f1 after (Ended q.number GaveUp ∷ []) (quit-are none) f1_is (rw s1_is (stays-home refl refl refl refl)) (ap (λ k. k.kept.settled) s1_is) (ap (λ k. k.kept.claimed) s1_is) (ap (λ k. k.kept.status) s1_is) refl
      (rw (s1_is, asked) (quit-fits s xs z n q at_q none)) home notes serves (tt, tt) (asked, tt)

  -- its connection is pending
  leave-are : (x : Connection) → connection_at s x.id ≡ Some x → x.place ≡ Pending → q.phase ≡ Given x.id → act_facts s.pool s.address s.options n xs ys (GiveUp q.number) ≡ Ended q.number GaveUp ∷ []
  leave-are x at_x place phase =
      let g : given xs q.number ≡ Some x.id = z.matches.requests.given q.number ∙ (ap given_of at_q ∙ ap given_in phase) in
      let p : has x.id (pending_list xs) ≡ true = pending-is s xs z x.id ∙ (ap is_pending_at at_x ∙ ap is_pending place) in
      rw (still, g, p) refl

  pub leave-accepts : (s1 t : PoolCore) (before f1 after : List Fact) (x : Connection) → connection_at s x.id ≡ Some x → x.place ≡ Pending → q.phase ≡ Given x.id → s1 ≡ leaving s n x q → f1 ≡ before ++ Ended q.number GaveUp ∷ [] → SameHome s1 t → SameNotes s1 t → ((k : List PoolItem) → Fits s1 k → Serves s1 t n f1 after k)
      → Accepts s t before after n (GiveUp q.number) Done xs ys
  leave-accepts s1 t before f1 after x at_x place phase s1_is f1_is home notes serves =
      given-up s1 t before f1 after (Ended q.number GaveUp ∷ []) (leave-are x at_x place phase) f1_is (rw s1_is (stays-home refl refl refl refl)) (ap (λ k. k.kept.settled) s1_is) (ap (λ k. k.kept.claimed) s1_is) (ap (λ k. k.kept.status) s1_is) refl
      (rw (s1_is, asked) (leave-fits s xs z n x q at_x at_q phase place)) home notes serves (tt, tt) (asked, tt)

  -- its connection is held
  abbrev why : Connection → Option ConnectionClosedReason
  why x = reason_now s (used_as x Ok)

  mine : (x : Connection) → q.phase ≡ Given x.id → given xs q.number ≡ Some x.id
  mine x phase = z.matches.requests.given q.number ∙ (ap given_of at_q ∙ ap given_in phase)

  hand-are : (x : Connection) → held_connection s q.number ≡ Some x → connection_at s x.id ≡ Some x → q.phase ≡ Given x.id → x.pins ≡ 0 → act_facts s.pool s.address s.options n xs ys (GiveUp q.number) ≡ Ended q.number GaveUp ∷ back_facts s (used_as x Ok) (why x)
  hand-are x held at_x phase loose =
      rw (still, holding-is s xs z q.number, held, live-pins s xs z.matches x.id x at_x, loose) (ap (λ k. Ended q.number GaveUp ∷ k) (check-in-is s ys (used_as x Ok) z.matches.clearing.status (live-service s xs z.matches x.id x at_x) (live-errored s xs z.matches x.id x at_x) (stale-at s xs z.matches x.id x at_x) (rw (mine x phase, same-number x.id) refl)))

  -- and a pin stands
  pinned-are : (x : Connection) → held_connection s q.number ≡ Some x → connection_at s x.id ≡ Some x → nat_lt 0 x.pins ≡ true → act_facts s.pool s.address s.options n xs ys (GiveUp q.number) ≡ Ended q.number GaveUp ∷ []
  pinned-are x held at_x some_pins = rw (still, holding-is s xs z q.number, held, live-pins s xs z.matches x.id x at_x, some_pins) refl

  pub pinned-accepts : (s1 t : PoolCore) (before f1 after : List Fact) (x : Connection) → held_connection s q.number ≡ Some x → connection_at s x.id ≡ Some x → x.place ≡ Held → q.phase ≡ Given x.id → nat_lt 0 x.pins ≡ true → s1 ≡ to_pin s n (used_as x Ok) q (EndedPhase GaveUp) → f1 ≡ before ++ Ended q.number GaveUp ∷ [] → SameHome s1 t → SameNotes s1 t → ((k : List PoolItem) → Fits s1 k → Serves s1 t n f1 after k)
      → Accepts s t before after n (GiveUp q.number) Done xs ys
  pinned-accepts s1 t before f1 after x held at_x place phase some_pins s1_is f1_is home notes serves =
      given-up s1 t before f1 after (Ended q.number GaveUp ∷ []) (pinned-are x held at_x some_pins) f1_is (rw s1_is (stays-home refl refl refl refl)) (ap (λ k. k.kept.settled) s1_is) (ap (λ k. k.kept.claimed) s1_is) (ap (λ k. k.kept.status) s1_is) refl
      (rw (s1_is, asked) (quit-pinned-fits s xs z n x q at_x place at_q phase some_pins)) home notes serves (tt, tt) (asked, tt)

  hand-fits-for : (x : Connection) → connection_at s x.id ≡ Some x → x.place ≡ Held → q.phase ≡ Given x.id → x.pins ≡ 0 → (o : Option ConnectionClosedReason) → Fits (handing_for s n (used_as x Ok) q o) (after_facts s.pool n (Ended q.number GaveUp ∷ back_facts s (used_as x Ok) o) ys)
  hand-fits-for x at_x place phase loose None = rw asked (back-fits s (handing s n (used_as x Ok) q) n (used_as x Ok) None (ended q.number GaveUp ∷ ys) (λ f. hand-fits s xs z n x q at_x place at_q phase loose) (λ w f. drops w f))
    where
      drops : (w : ConnectionClosedReason) → ◌≡◌ {A = Option ConnectionClosedReason} None (Some w) → Fits (handing s n (used_as x Ok) q) (closed x.id ∷ checked_in x.id n ∷ ended q.number GaveUp ∷ ys)
      drops w f = cc
  hand-fits-for x at_x place phase loose (Some w) =
      let told : after_fact s.pool n (Ended q.number GaveUp) ys ≡ ended q.number GaveUp ∷ ys = rw asked refl in
      subst (λ k. Fits (losing s n (used_as x Ok) q) (after_facts s.pool n (back_facts s (used_as x Ok) (Some w)) k)) (sym told) (back-fits s (losing s n (used_as x Ok) q) n (used_as x Ok) (Some w) (ended q.number GaveUp ∷ ys) (λ f. keeps f) (λ v f. lose-fits s xs z n x q at_x place at_q phase loose))
    where
      keeps : ◌≡◌ {A = Option ConnectionClosedReason} (Some w) None → Fits (losing s n (used_as x Ok) q) (checked_in x.id n ∷ ended q.number GaveUp ∷ ys)
      keeps f = cc

  hand-home-for : (x : Connection) (o : Option ConnectionClosedReason) → SameHome s (handing_for s n (used_as x Ok) q o)
  hand-home-for x None = stays-home refl refl refl refl
  hand-home-for x (Some w) = stays-home refl refl refl refl

  hand-notes-for : (x : Connection) (o : Option ConnectionClosedReason) → ((handing_for s n (used_as x Ok) q o).kept.settled ≡ marked q.number s.kept.settled) × ((handing_for s n (used_as x Ok) q o).kept.claimed ≡ s.kept.claimed) × ((handing_for s n (used_as x Ok) q o).kept.status ≡ s.kept.status)
  hand-notes-for x None = (refl, refl, refl)
  hand-notes-for x (Some w) = (refl, refl, refl)

  pub hand-accepts : (s1 t : PoolCore) (before f1 after : List Fact) (x : Connection) → held_connection s q.number ≡ Some x → connection_at s x.id ≡ Some x → x.place ≡ Held → q.phase ≡ Given x.id → x.pins ≡ 0 → s1 ≡ handing_for s n (used_as x Ok) q (why x) → f1 ≡ before ++ Ended q.number GaveUp ∷ back_facts s (used_as x Ok) (why x) → SameHome s1 t → SameNotes s1 t → ((k : List PoolItem) → Fits s1 k → Serves s1 t n f1 after k)
      → Accepts s t before after n (GiveUp q.number) Done xs ys
  hand-accepts s1 t before f1 after x held at_x place phase loose s1_is f1_is home notes serves =
      given-up s1 t before f1 after (Ended q.number GaveUp ∷ back_facts s (used_as x Ok) (why x)) (hand-are x held at_x phase loose) f1_is (rw s1_is (hand-home-for x (why x))) (ap (λ k. k.kept.settled) s1_is ∙ (hand-notes-for x (why x)).0) (ap (λ k. k.kept.claimed) s1_is ∙ (hand-notes-for x (why x)).1) (ap (λ k. k.kept.status) s1_is ∙ (hand-notes-for x (why x)).2) (back-open s (used_as x Ok) (why x))
      (rw s1_is (hand-fits-for x at_x place phase loose (why x))) home notes serves (tt, back-fair s n (used_as x Ok) (why x) (after_facts s.pool n (Ended q.number GaveUp ∷ []) ys)) (asked, back-own s n (used_as x Ok) (why x) (after_facts s.pool n (Ended q.number GaveUp ∷ []) ys))

-- a request that ended is told how
some-end : (o : Option Request) → is_ended_at o ≡ true → given_of o ≡ None
some-end None e = refl
some-end (Some q) e = on q.phase refl
  where
    on : (p : Phase) → q.phase ≡ p → given_of (Some q) ≡ None
    on Queued f = ap given_in f
    on (Given c) f = let k : is_ended_at (Some q) ≡ false = ap (λ p. is_some (end_in p)) f in cc
    on Over f = ap given_in f
    on (EndedPhase end) f = ap given_in f

pub late-accepts : (s s1 t : PoolCore) (before after : List Fact) (n r : ℕ) (reply : Reply) (xs : List PoolItem) → Fits s xs → is_ended_at (request_at s r) ≡ true
    → s1 ≡ record s { kept = record s.kept { last = n; settled = marked r s.kept.settled } } → SameHome s1 t → SameNotes s1 t → ((k : List PoolItem) → Fits s1 k → Serves s1 t n before after k) → reply ≡ outcome_now s r
    → Accepts s t before after n (GiveUp r) reply xs (gave_up r ∷ xs)
late-accepts s s1 t before after n r reply xs z over s1_is home notes serves reply_is =
    let gone : is_some (end_of xs r) ≡ true = ap is_some (z.matches.requests.ends r) ∙ over in
    accepts s s1 t t before before after n (GiveUp r) reply [] xs (gave_up r ∷ xs)
    (rw gone refl)
    (sym (append-nil before)) (rw s1_is (stays-home refl refl refl refl)) (rw s1_is (late-fits s xs z n r (marked r s.kept.settled) (some-end (request_at s r) over))) serves
    (λ zs v. v)
    (λ claims own zs m. rw gone (reply_is ∙ sym (outcome-is s xs z.matches r)))
    (rw reply_is (outcome-accepted s r))
    (ap is_shut (notes.status ∙ ap (λ x. x.kept.status) s1_is))
    (λ k. ap (has k) (notes.settled ∙ ap (λ x. x.kept.settled) s1_is) ∙ (has-marked k r s.kept.settled ∙ or_comm (has k s.kept.settled) (r == k)))
    (λ c. rw (reply_is, outcome-no-job s r s.pool c) (ap (has c) (notes.claimed ∙ ap (λ x. x.kept.claimed) s1_is)))
    tt tt

-- who has an open request asked
pub open-known : (s : PoolCore) (r : ℕ) → is_open_now s r ≡ true → is_asked_at (request_at s r) ≡ true
unfolding queries
open-known s r e = on (is_asked_at (request_at s r)) refl
  where
    on : (b : Bool) → is_asked_at (request_at s r) ≡ b → is_asked_at (request_at s r) ≡ true
    on true f = f
    on false f = let k : is_open_now s r ≡ false = rw f refl in cc

no-end : (s : PoolCore) (r : ℕ) (q : Request) → request_at s r ≡ Some q → is_ended_at (request_at s r) ≡ false → end_in q.phase ≡ None
no-end s r q at_r e = none (end_in q.phase) (sym (ap is_ended_at at_r) ∙ e)
  where
    none : (o : Option End) → is_some o ≡ false → o ≡ None
    none None f = refl
    none (Some end) f = cc

-- an act does what its step says, by the number that its call is given
pub hand-of : (s s1 t : PoolCore) (before f1 after : List Fact) (n : ℕ) (x y : Connection) (q : Request) (o : Option ConnectionClosedReason) (xs : List PoolItem) → Fits s xs → request_at s q.number ≡ Some q → is_asked_at (request_at s q.number) ≡ true → is_ended_at (request_at s q.number) ≡ false → held_connection s q.number ≡ Some x → y ≡ used_as x Ok → y.pins ≤ 0 → o ≡ reason_now s y
    → s1 ≡ handing_for s n y q o → f1 ≡ before ++ Ended q.number GaveUp ∷ back_facts s y o → SameHome s1 t → SameNotes s1 t → ((k : List PoolItem) → Fits s1 k → Serves s1 t n f1 after k)
    → Accepts s t before after n (GiveUp q.number) Done xs (gave_up q.number ∷ xs)
hand-of s s1 t before f1 after n x y q o xs z at_q known open_now held y_is no_pins reason s1_is f1_is home notes serves =
    let v : Holder s q.number x q = holder s q.number x q held at_q in
    let loose : x.pins ≡ 0 = ap (λ k. k.pins) (sym y_is) ∙ none-above y.pins no_pins in
    let w : o ≡ reason_now s (used_as x Ok) = reason ∙ ap (reason_now s) y_is in
    hand-accepts s xs z n q at_q (no-end s q.number q at_q open_now) known s1 t before f1 after x held v.at_x v.place v.phase loose (s1_is ∙ rw (w, y_is) refl) (f1_is ∙ rw (w, y_is) refl) home notes serves

pub pinned-of : (s s1 t : PoolCore) (before f1 after : List Fact) (n : ℕ) (x y : Connection) (q : Request) (xs : List PoolItem) → Fits s xs → request_at s q.number ≡ Some q → is_asked_at (request_at s q.number) ≡ true → is_ended_at (request_at s q.number) ≡ false → held_connection s q.number ≡ Some x → y ≡ used_as x Ok → 0 < y.pins
    → s1 ≡ to_pin s n y q (EndedPhase GaveUp) → f1 ≡ before ++ Ended q.number GaveUp ∷ [] → SameHome s1 t → SameNotes s1 t → ((k : List PoolItem) → Fits s1 k → Serves s1 t n f1 after k)
    → Accepts s t before after n (GiveUp q.number) Done xs (gave_up q.number ∷ xs)
pinned-of s s1 t before f1 after n x y q xs z at_q known open_now held y_is some_pins s1_is f1_is home notes serves =
    let v : Holder s q.number x q = holder s q.number x q held at_q in
    pinned-accepts s xs z n q at_q (no-end s q.number q at_q open_now) known s1 t before f1 after x held v.at_x v.place v.phase (ap (λ k. nat_lt 0 k.pins) (sym y_is) ∙ some-above y.pins some_pins) (s1_is ∙ rw y_is refl) f1_is home notes serves

pub leave-of : (s s1 t : PoolCore) (before f1 after : List Fact) (n r : ℕ) (x : Connection) (q : Request) (xs : List PoolItem) → Fits s xs → request_at s r ≡ Some q → is_asked_at (request_at s r) ≡ true → is_ended_at (request_at s r) ≡ false → pending_connection s r ≡ Some x
    → s1 ≡ leaving s n x q → f1 ≡ before ++ Ended q.number GaveUp ∷ [] → SameHome s1 t → SameNotes s1 t → ((k : List PoolItem) → Fits s1 k → Serves s1 t n f1 after k)
    → Accepts s t before after n (GiveUp r) Done xs (gave_up r ∷ xs)
leave-of s s1 t before f1 after n r x q xs z at_r known open_now waits s1_is f1_is home notes serves =
    let e : q.number ≡ r = entry_at-key (λ (k : Request). k.number) r q s.kept.requests at_r in
    let v : (q.phase ≡ Given x.id) × (connection_at s x.id ≡ Some x) × (x.place ≡ Pending) = pender s r x q waits at_r in
    subst (λ d. Accepts s t before after n (GiveUp d) Done xs (gave_up d ∷ xs)) e (leave-accepts s xs z n q (subst (λ d. request_at s d ≡ Some q) (sym e) at_r) (no-end s r q at_r open_now) (subst (λ d. is_asked_at (request_at s d) ≡ true) (sym e) known) s1 t before f1 after x v.1 v.2 v.0 s1_is f1_is home notes serves)

pub quit-of : (s s1 t : PoolCore) (before f1 after : List Fact) (n r : ℕ) (q : Request) (xs : List PoolItem) → Fits s xs → request_at s r ≡ Some q → is_asked_at (request_at s r) ≡ true → is_ended_at (request_at s r) ≡ false → held_connection s r ≡ None → pending_connection s r ≡ None
    → s1 ≡ quitting s n q → f1 ≡ before ++ Ended q.number GaveUp ∷ [] → SameHome s1 t → SameNotes s1 t → ((k : List PoolItem) → Fits s1 k → Serves s1 t n f1 after k)
    → Accepts s t before after n (GiveUp r) Done xs (gave_up r ∷ xs)
quit-of s s1 t before f1 after n r q xs z at_r known open_now held waits s1_is f1_is home notes serves =
    let e : q.number ≡ r = entry_at-key (λ (k : Request). k.number) r q s.kept.requests at_r in
    subst (λ d. Accepts s t before after n (GiveUp d) Done xs (gave_up d ∷ xs)) e (quit-accepts s xs z n q (subst (λ d. request_at s d ≡ Some q) (sym e) at_r) (no-end s r q at_r open_now) (subst (λ d. is_asked_at (request_at s d) ≡ true) (sym e) known) s1 t before f1 after (not-given s xs z.matches r q at_r held waits) s1_is f1_is home notes serves)
