-- What a pool answers to any step keeps its items sound.
use Rattle.std.proofs.Common.{ℕ, ◌≡◌, ◌<◌, ◌==◌, Bool, true, false, not, ◌&&◌, if◌then◌else◌, List, [], ◌∷◌, Option, Some, None, is_some, refl, sym, ◌∙◌, ap, subst, arith, nat_lt}
use Rattle.std.proofs.lemmas.Bool.Decides.{nat_tests}
use Rattle.std.specs.Option.{unwrap_or}
use Rattle.std.proofs.lemmas.Bool.{not-true, not-false}
use Rattle.mdb_base.specs.Equality.{same_address}
use Rattle.mdb_base.specs.declared.address.ServerAddress.{ServerAddress}
use Rattle.mdb_events.specs.declared.fact.Fact.{Fact}
use Rattle.mdb_log.specs.declared.options.PoolOptions.{PoolOptions}
use Rattle.mdb_log.specs.declared.step.Step.{Step}
use Rattle.mdb_log.specs.declared.step.Act.{Act}
use Rattle.mdb_log.specs.declared.step.Act.TheVariants.{Open, Request, Warm, Collect, Claim, GiveUp, Established, Failed, Return, Pin, Replicate, Take, Unpin, Error, Hello, Beat, Beaten, Rtt, Hosts, ClusterTime, Want, Unwant, Stop, Maintain, Expire, Ready, Clear, Close}
use Rattle.mdb_log.specs.declared.step.FailedAt.TheVariants.{Pre, Post}
use Rattle.mdb_log.specs.declared.reply.Reply.{Reply}
use Rattle.mdb_log.specs.declared.reply.Refused.{Refused}
use Rattle.mdb_log.specs.declared.reply.Refused.TheVariants.{TimeBack, UnknownServer, RequestKnown, UnknownRequest, NotHolder, NotPending, Unpinned, PinInUse, PinState, WrongMode}
use Rattle.mdb_log.specs.History.{Item, did, PoolItem, asked, warmed, gave_up, returned, pinned_by, established, failed, replicated, taken, unpinned, is_number, open_pool, last_moment, of_pool, after_act, after_facts, with_act, with_answer, opening, if_so, given, has_asked, has_party}
use Rattle.mdb_log.specs.Connections.{has, pending_list, holding, held, pins, is_pinned}
use Rattle.mdb_log.specs.Requests.{some_act, names_party, was_asked, leaves, told, is_open, is_claimed}
use Rattle.mdb_log.specs.Own.{IsAccepted}
use Rattle.mdb_pool.specs.Core.{PoolCore}
use Rattle.mdb_pool.specs.Now.{is_closed_now}
use Rattle.mdb_pool.proofs.Told.OfQueries.{closed-is}
use Rattle.mdb_pool_rules.specs.Refusal.{first_row, rows_of, refusal_of, wrong_service}
use Rattle.mdb_pool.specs.Standing.{StandsFor}
use Rattle.mdb_pool_rules.specs.Answer.{all_facts, answer, reply_of}
use Rattle.mdb_pool_rules.proofs.FirstRow.{first-passes, one-passes, two-pass, three-pass}
use Rattle.mdb_log.proofs.Bools.{both-true}
use Rattle.mdb_pool_rules.proofs.LimitsAreKept.{reply-accepted}
use Rattle.mdb_log.proofs.Later.{of_pool-with_facts, with_answer-accepted}
use Rattle.mdb_log.proofs.Numbers.{same-number}
use Rattle.mdb_sound.specs.Sound.{Sound, was_closed, MayTake, Holds}
use Rattle.mdb_sound.proofs.Steady.{held-given}
use Rattle.mdb_sound.proofs.Connections.{connection-laws}
use Rattle.mdb_sound.proofs.Generations.{closed-for-good}
use Rattle.mdb_pool_rules.specs.Rested.{Rested}
use Rattle.mdb_pool.proofs.Histories.Resting.{rested}
use Rattle.mdb_sound.proofs.Calm.{one-lives}
use Rattle.mdb_sound.proofs.Leaving.{stays-act}
use Rattle.mdb_sound.proofs.Acts.{Done, requests, warms, gives_up, establishes, fails, returns, pins_one, replicates, takes, unpins, maintains, expires, readies, clears, shuts, tells, all-sound}

-- What a history knows of its pool p: who is new has no part in it, and where it is open it was not closed.
pub record Knows (p : ℕ) (h : List Item) : Type 0 where
  pub fresh : (r : ℕ) → some_act names_party h r ≡ false → has_party (of_pool p h) r ≡ false
  pub here : (a : ServerAddress) → is_number (open_pool h a) p ≡ true → was_closed (of_pool p h) ≡ false

above : (n : ℕ) → nat_lt 0 n ≡ true → 0 < n
above n e = grind (arith, nat_tests)

none-above : (n : ℕ) → nat_lt 0 n ≡ false → n ≡ 0
none-above n e = grind (arith, nat_tests)

-- one item more where the test holds
one-more : (m : ℕ) (act : Act) (xs : List PoolItem) (b : Bool) (x : PoolItem) → b ≡ true → Done m xs act (x ∷ xs) → Done m xs act (if_so b x xs)
one-more m act xs b x e d = subst (λ k. Done m xs act (if_so k x xs)) (sym e) d

some-is : (o : Option ℕ) → is_some o ≡ true → (c : ℕ) × (o ≡ Some c)
some-is None e = cc
some-is (Some c) e = (c, refl)

module _ (p : ℕ) (o : PoolOptions) (h : List Item) (m : ℕ) (know : Knows p h) (s : Sound (of_pool p h)) (z : Rested (of_pool p h)) where
  abbrev xs : List PoolItem
  xs = of_pool p h

  holds : (r : ℕ) → is_some (holding xs r) ≡ true → Holds xs r
  holds r e =
      let w : (c : ℕ) × (holding xs r ≡ Some c) = some-is (holding xs r) e in
      record { connection = w.0; holds = w.1; lives = one-lives xs w.0 (z.lives r w.0 (held-given xs r w.0 w.1)) }

  has-one : (r : ℕ) → is_some (holding xs r) ≡ true → is_some (given xs r) ≡ true
  has-one r e =
      let w : (c : ℕ) × (holding xs r ≡ Some c) = some-is (holding xs r) e in
      ap is_some (held-given xs r w.0 w.1)

  takes-one : (r c : ℕ) → some_act names_party h r ≡ false → 0 < pins xs c → held xs c ≡ 0 → MayTake xs r c
  takes-one r c f l n =
      let pinned : is_pinned xs c ≡ true = z.at_pin c l n in
      record { fresh = know.fresh r f; lives = one-lives xs c ((connection-laws xs s c).pinned_lives l); pinned = pinned; free = z.pinned_free c pinned }

  -- an act that no row refuses may come; a give-up is of a request of this pool
  pub done-of : (act : Act) → ((r : ℕ) → act ≡ GiveUp r → has_asked xs r ≡ true) → first_row (rows_of p o h xs act) ≡ None → Done m xs act (after_act p (open_pool h) m act xs)
  done-of (Request r a) mine e =
      let w : (not (is_number (open_pool h a) p) ≡ false) × (some_act names_party h r ≡ false) = two-pass (not (is_number (open_pool h a) p)) (some_act names_party h r) UnknownServer RequestKnown e in
      let here : is_number (open_pool h a) p ≡ true = not-false (is_number (open_pool h a) p) w.0 in
      one-more m (Request r a) xs (is_number (open_pool h a) p) (asked r m) here (requests r a (record { fresh = know.fresh r w.1; unshut = know.here a here }))
  done-of (Warm r a) mine e =
      let w : (not (is_number (open_pool h a) p) ≡ false) × (some_act names_party h r ≡ false) = two-pass (not (is_number (open_pool h a) p)) (some_act names_party h r) UnknownServer RequestKnown e in
      let here : is_number (open_pool h a) p ≡ true = not-false (is_number (open_pool h a) p) w.0 in
      one-more m (Warm r a) xs (is_number (open_pool h a) p) (warmed r m) here (warms r a (record { fresh = know.fresh r w.1; unshut = know.here a here }))
  done-of (GiveUp r) mine e =
      let open-one : is_open h r ≡ true = not-false (is_open h r) (one-passes (not (is_open h r)) UnknownRequest e) in
      let w : (told h r == 0) && not (some_act leaves h r) ≡ true = (both-true (some_act was_asked h r) ((told h r == 0) && not (some_act leaves h r)) open-one).1 in
      let stays : some_act leaves h r ≡ false = not-true (some_act leaves h r) (both-true (told h r == 0) (not (some_act leaves h r)) w).1 in
      let asked-it : has_asked xs r ≡ true = mine r refl in
      one-more m (GiveUp r) xs (has_asked xs r) (gave_up r) asked-it (gives_up r (record { asked_for = asked-it; stays = stays-act p h r stays }))
  done-of (Established q c how) mine e =
      let w : (not ((q == p) && has c (pending_list xs)) ≡ false) × (wrong_service o.load_balanced how.service_id ≡ false) = two-pass (not ((q == p) && has c (pending_list xs))) (wrong_service o.load_balanced how.service_id) NotPending WrongMode e in
      let v : ((q == p) ≡ true) × (has c (pending_list xs) ≡ true) = both-true (q == p) (has c (pending_list xs)) (not-false ((q == p) && has c (pending_list xs)) w.0) in
      one-more m (Established q c how) xs (q == p) (established c how m) v.0 (establishes q c how v.1)
  done-of (Failed q c Pre error) mine e =
      let w : not ((q == p) && has c (pending_list xs)) ≡ false = one-passes (not ((q == p) && has c (pending_list xs))) NotPending e in
      let v : ((q == p) ≡ true) × (has c (pending_list xs) ≡ true) = both-true (q == p) (has c (pending_list xs)) (not-false ((q == p) && has c (pending_list xs)) w) in
      one-more m (Failed q c Pre error) xs (q == p) (failed c None) v.0 (fails q c Pre error None v.1)
  done-of (Failed q c (Post service) error) mine e =
      let w : (not ((q == p) && has c (pending_list xs)) ≡ false) × (not o.load_balanced && is_some service ≡ false) = two-pass (not ((q == p) && has c (pending_list xs))) (not o.load_balanced && is_some service) NotPending WrongMode e in
      let v : ((q == p) ≡ true) × (has c (pending_list xs) ≡ true) = both-true (q == p) (has c (pending_list xs)) (not-false ((q == p) && has c (pending_list xs)) w.0) in
      one-more m (Failed q c (Post service) error) xs (q == p) (failed c service) v.0 (fails q c (Post service) error service v.1)
  done-of (Return r used) mine e =
      let w : is_some (holding xs r) ≡ true = not-false (is_some (holding xs r)) (one-passes (not (is_some (holding xs r))) NotHolder e) in
      one-more m (Return r used) xs (is_some (given xs r)) (returned r used) (has-one r w) (returns r used (holds r w))
  done-of (Pin r) mine e =
      let w : is_some (holding xs r) ≡ true = not-false (is_some (holding xs r)) (first-passes (not (is_some (holding xs r))) NotHolder ((nat_lt 0 (pins xs (unwrap_or (holding xs r) 0)), PinState) ∷ []) e).0 in
      one-more m (Pin r) xs (is_some (given xs r)) (pinned_by r) (has-one r w) (pins_one r (holds r w))
  done-of (Replicate q c) mine e =
      let v : ((q == p) ≡ true) × (nat_lt 0 (pins xs c) ≡ true) = both-true (q == p) (nat_lt 0 (pins xs c)) (not-false ((q == p) && nat_lt 0 (pins xs c)) (one-passes (not ((q == p) && nat_lt 0 (pins xs c))) Unpinned e)) in
      one-more m (Replicate q c) xs (q == p) (replicated c) v.0 (replicates q c (above (pins xs c) v.1))
  done-of (Take r q c) mine e =
      let w : (some_act names_party h r ≡ false) × (not ((q == p) && nat_lt 0 (pins xs c)) ≡ false) × (nat_lt 0 (held xs c) ≡ false) = three-pass (some_act names_party h r) (not ((q == p) && nat_lt 0 (pins xs c))) (nat_lt 0 (held xs c)) RequestKnown Unpinned PinInUse e in
      let v : ((q == p) ≡ true) × (nat_lt 0 (pins xs c) ≡ true) = both-true (q == p) (nat_lt 0 (pins xs c)) (not-false ((q == p) && nat_lt 0 (pins xs c)) w.1) in
      one-more m (Take r q c) xs (q == p) (taken r c) v.0 (takes r q c (takes-one r c w.0 (above (pins xs c) v.1) (none-above (held xs c) w.2)))
  done-of (Unpin q c) mine e =
      let v : ((q == p) ≡ true) × (nat_lt 0 (pins xs c) ≡ true) = both-true (q == p) (nat_lt 0 (pins xs c)) (not-false ((q == p) && nat_lt 0 (pins xs c)) (one-passes (not ((q == p) && nat_lt 0 (pins xs c))) Unpinned e)) in
      one-more m (Unpin q c) xs (q == p) (unpinned c) v.0 (unpins q c (above (pins xs c) v.1))
  done-of (Maintain a) mine e = maintains a
  done-of (Expire a) mine e = expires a
  done-of (Ready q) mine e = readies q
  done-of (Clear q service error) mine e = clears q service error
  done-of (Close q) mine e = shuts q
  done-of (Open options) mine e = tells (Open options) (λ p a o. refl)
  done-of (Collect k) mine e = tells (Collect k) (λ p a o. refl)
  done-of Claim mine e = tells Claim (λ p a o. refl)
  done-of (Error k error) mine e = tells (Error k error) (λ p a o. refl)
  done-of (Hello a q came) mine e = tells (Hello a q came) (λ p a o. refl)
  done-of (Beat a q) mine e = tells (Beat a q) (λ p a o. refl)
  done-of (Beaten a q n came) mine e = tells (Beaten a q n came) (λ p a o. refl)
  done-of (Rtt a q n) mine e = tells (Rtt a q n) (λ p a o. refl)
  done-of (Hosts hosts) mine e = tells (Hosts hosts) (λ p a o. refl)
  done-of (ClusterTime time) mine e = tells (ClusterTime time) (λ p a o. refl)
  done-of (Want w) mine e = tells (Want w) (λ p a o. refl)
  done-of (Unwant w) mine e = tells (Unwant w) (λ p a o. refl)
  done-of Stop mine e = tells Stop (λ p a o. refl)

module _ (s : PoolCore) (h : List Item) (z : StandsFor s h) (sound : Sound (of_pool s.pool h)) where
  open-here : (a : ServerAddress) → is_number (open_pool h a) s.pool ≡ true → was_closed (of_pool s.pool h) ≡ false
  open-here a e = on (was_closed (of_pool s.pool h)) refl
    where
      on : (b : Bool) → was_closed (of_pool s.pool h) ≡ b → was_closed (of_pool s.pool h) ≡ false
      on false f = f
      on true f =
          let k : is_closed_now s ≡ true = closed-is s (of_pool s.pool h) z.fits (closed-for-good s.options (of_pool s.pool h) sound f).stays_closed in
          let none : open_pool h a ≡ None = z.open_here a ∙ rw k (shut-none (same_address s.address a)) in
          let g : is_number (open_pool h a) s.pool ≡ false = rw none refl in
          cc
        where
          shut-none : (b : Bool) → (if b && not true then Some s.pool else None) ≡ None
          shut-none true = refl
          shut-none false = refl

  knows : Knows s.pool h
  knows = record { fresh = λ r e. sym (z.asked_once r) ∙ e; here = open-here }

  mine : (act : Act) → first_row (rows_of s.pool s.options h (of_pool s.pool h) act) ≡ None → (r : ℕ) → act ≡ GiveUp r → has_asked (of_pool s.pool h) r ≡ true
  mine act e r same =
      let f : first_row (rows_of s.pool s.options h (of_pool s.pool h) (GiveUp r)) ≡ None = subst (λ k. first_row (rows_of s.pool s.options h (of_pool s.pool h) k) ≡ None) same e in
      let open-one : is_open h r ≡ true = not-false (is_open h r) (one-passes (not (is_open h r)) UnknownRequest f) in
      sym (z.requested r) ∙ (both-true (some_act was_asked h r) ((told h r == 0) && not (some_act leaves h r)) open-one).0

  -- no row refuses a step that is accepted
  pub rows-pass : (step : Step) → refusal_of s.pool s.options h step ≡ None → first_row (rows_of s.pool s.options h (of_pool s.pool h) step.act) ≡ None
  rows-pass step none = (first-passes (nat_lt step.moment (last_moment h)) (TimeBack (last_moment h)) (rows_of s.pool s.options h (of_pool s.pool h) step.act) none).1

  -- an accepted step may come
  pub step-done : (step : Step) → refusal_of s.pool s.options h step ≡ None → Done step.moment (of_pool s.pool h) step.act (with_act s.pool h step)
  step-done step none = done-of s.pool s.options h step.moment knows sound (rested s (of_pool s.pool h) z.fits) step.act (mine step.act (rows-pass step none)) (rows-pass step none)

  -- what it answers to a step keeps them sound
  pub answer-sound : (step : Step) → Sound (of_pool s.pool (with_answer step (answer s.pool s.address s.options h step).reply (answer s.pool s.address s.options h step).facts h))
  answer-sound step = on (refusal_of s.pool s.options h step) refl
    where
      accepted : (facts : List Fact) (says : Reply) → facts ≡ all_facts s.pool s.address s.options step.moment (of_pool s.pool h) (with_act s.pool h step) step.act → IsAccepted says → refusal_of s.pool s.options h step ≡ None → Sound (of_pool s.pool (with_answer step says facts h))
      accepted facts says e k none =
          let rest : Rested (of_pool s.pool h) = rested s (of_pool s.pool h) z.fits in
          let done : Done step.moment (of_pool s.pool h) step.act (with_act s.pool h step) = step-done step none in
          let all : Sound (after_facts s.pool step.moment (all_facts s.pool s.address s.options step.moment (of_pool s.pool h) (with_act s.pool h step) step.act) (with_act s.pool h step)) = all-sound s.pool s.address s.options step.moment (of_pool s.pool h) sound rest step.act (with_act s.pool h step) done in
          let same : of_pool s.pool (with_answer step says facts h) ≡ after_facts s.pool step.moment facts (with_act s.pool h step) = ap (of_pool s.pool) (with_answer-accepted step says facts h k) ∙ of_pool-with_facts s.pool step.moment facts (did step says ∷ h) in
          subst Sound (sym same) (subst (λ fs. Sound (after_facts s.pool step.moment fs (with_act s.pool h step))) (sym e) all)

      on : (why : Option Refused) → refusal_of s.pool s.options h step ≡ why → Sound (of_pool s.pool (with_answer step (answer s.pool s.address s.options h step).reply (answer s.pool s.address s.options h step).facts h))
      on (Some why) e = rw e sound
      on None e =
          let facts : List Fact = all_facts s.pool s.address s.options step.moment (of_pool s.pool h) (with_act s.pool h step) step.act in
          let zs : List PoolItem = after_facts s.pool step.moment facts (with_act s.pool h step) in
          rw e (accepted facts (reply_of s.pool (is_claimed h s.pool) (of_pool s.pool h) zs step.act) refl (reply-accepted s.pool (is_claimed h s.pool) (of_pool s.pool h) zs step.act) e)

-- a pool that was just made has a sound history
pub opening-sound : (p : ℕ) (a : ServerAddress) (o : PoolOptions) → Sound (of_pool p (opening p a o))
opening-sound p a o = rw (same-number p) (refl, tt)
