-- What a request does is the answer to its step.
use Rattle.std.proofs.Common.{ℕ, ◌≡◌, Bool, true, false, not, ◌||◌, ◌==◌, List, [], ◌∷◌, ◌++◌, find, Some, None, refl, sym, ◌∙◌, ap, subst, if◌then◌else◌, ◌&&◌, ◌-◌, Option, is_some, arith, append_assoc, append-nil}
use Rattle.mdb_events.specs.declared.fact.Fact.{Fact}
use Rattle.mdb_events.specs.declared.fact.Fact.TheVariants.{Granted}
use Rattle.mdb_events.specs.declared.end.End.{End}
use Rattle.mdb_events.specs.declared.reasons.ConnectionClosedReason.{ConnectionClosedReason}
use Rattle.mdb_pool.specs.declared.kept.connection.Connection.{Connection}
use Rattle.mdb_pool.specs.declared.kept.request.Request.{Request}
use Rattle.mdb_pool.specs.declared.kept.request.Phase.TheVariants.{Queued, Given}
use Rattle.mdb_pool.specs.declared.kept.status.Status.{Status}
use Rattle.mdb_pool.specs.declared.kept.status.Status.TheVariants.{New, Ready, Paused, Closed}
use Rattle.mdb_log.specs.declared.step.Act.TheVariants.{Request as RequestAct}
use Rattle.mdb_log.specs.declared.reply.Reply.{Reply}
use Rattle.mdb_log.specs.declared.reply.Reply.TheVariants.{Pooled}
use Rattle.mdb_pool.specs.Core.{PoolCore}
use Rattle.mdb_log.specs.History.{PoolItem, asked, after_facts}
use Rattle.mdb_log.specs.Requests.{outcome_of, is_outcome}
use Rattle.mdb_pool.specs.Standing.{Fits, Accepts, SameHome}
use Rattle.mdb_pool.specs.Acts.Doing.{Serves, SameNotes}
use Rattle.mdb_pool.specs.Kept.Values.{connection_at, request_at, outcome_now, state_in, is_shut, is_ready_now, first_queued, last_available, perished_now, ready_connection, candidate_now, blocked_now, with_requests}
use Rattle.mdb_pool.specs.Kept.Places.{is_queued}
use Rattle.mdb_pool.specs.Acts.Changes.{asking, telling, away_end, away_facts, away, handed, granting, granting_at_once, met, meeting, meeting_facts}
use Rattle.mdb_pool.proofs.Answered.Act.{accepts, outcome-is, outcome-accepted, outcome-no-job}
use Rattle.std.proofs.Math.Bool.{and-false, and-true, or-false, or_comm}
use Rattle.mdb_pool.proofs.Listed.Noted.{has-marked}
use Rattle.mdb_pool.specs.Kept.Keyed.{marked}
use Rattle.mdb_log.proofs.Numbers.{same-number}
use Rattle.mdb_pool.proofs.Follows.Fits.{ask-fits, noted-fits, end-fits}
use Rattle.mdb_log.specs.Connections.{has}
use Rattle.mdb_pool_rules.specs.Facts.{turned_away, started_fact, checked_out_fact}
use Rattle.mdb_log.specs.State.{state_of}
use Rattle.mdb_log.specs.Legal.{AllFirstCome}
use Rattle.mdb_log.specs.Own.{shuts, AllOwn}
use Rattle.mdb_slots.specs.Keyed.{entry_at, put}
use Rattle.mdb_pool_rules.proofs.Listed.Values.{entry_at-put, entry_at-swap, swap-put, find-put, find-narrow}
use Rattle.mdb_pool.proofs.Listed.FirstOrLast.{available-at}
use Rattle.mdb_pool.proofs.Follows.Stale.{ready-status}
use Rattle.mdb_pool.proofs.Turns.Serve.{starts, turn-meet-to, ends-empty}
use Rattle.mdb_pool.proofs.SameAnswers.StaysHome.{stays-home}

-- what was told is noted
pub telling-settled : (t : PoolCore) (r k : ℕ) → has k (telling t r).kept.settled ≡ ((r == k) && is_outcome (outcome_now t r)) || has k t.kept.settled
telling-settled t r k = on (is_outcome (outcome_now t r)) refl
  where
    on : (b : Bool) → is_outcome (outcome_now t r) ≡ b → has k (telling t r).kept.settled ≡ ((r == k) && is_outcome (outcome_now t r)) || has k t.kept.settled
    on true e = rw e (has-marked k r t.kept.settled ∙ (or_comm (has k t.kept.settled) (r == k) ∙ ap (λ b. b || has k t.kept.settled) (sym (and-true (r == k)))))
    on false e = rw e (ap (λ b. b || has k t.kept.settled) (sym (and-false (r == k))))

pub telling-fits : (t : PoolCore) (r : ℕ) (zs : List PoolItem) → Fits t zs → Fits (telling t r) zs
telling-fits t r zs z = noted-fits t (if is_outcome (outcome_now t r) then (marked r t.kept.settled) else t.kept.settled) t.kept.claimed t.kept.last zs z

-- a caller that is new, and ends at once where the pool isn't ready
module _ (s : PoolCore) (xs : List PoolItem) (z : Fits s xs) (n r : ℕ) (absent : request_at s r ≡ None) where
  abbrev ys : List PoolItem
  ys = asked r n ∷ xs

  abbrev new_q : Request
  new_q = record { number = r; asked_at = n; warm = false; took = false; phase = Queued }

  abbrev away_now : Option End
  away_now = away_end s.kept.status

  no-time : n - n ≡ 0
  no-time = omega arith

  away-are : (t : Status) → state_of s.options xs ≡ state_in t → turned_away s.pool s.address s.options n ys r ≡ away_facts s r false (away_end t)
  away-are New e = rw (e, same-number r, no-time) refl
  away-are Ready e = rw e refl
  away-are (Paused error) e = rw (e, same-number r, no-time) refl
  away-are Closed e = rw e refl

  there : request_at (asking s r n false) r ≡ Some new_q
  there = entry_at-put (λ (q : Request). q.number) r new_q s.kept.requests ∙ rw (same-number r) refl

  away-fits : (o : Option End) → Fits (away (asking s r n false) r n false o) (after_facts s.pool n (started_fact s.pool s.address ∷ away_facts s r false o) ys)
  away-fits None = ask-fits s xs z n r absent
  away-fits (Some end) = rw (same-number r) (end-fits (asking s r n false) ys (ask-fits s xs z n r absent) n new_q end there refl)

  away-home : (o : Option End) → SameHome s (away (asking s r n false) r n false o)
  away-home None = stays-home refl refl refl refl
  away-home (Some end) = stays-home refl refl refl refl

  away-notes : (o : Option End) → SameNotes s (away (asking s r n false) r n false o)
  away-notes None = record { settled = refl; claimed = refl; status = refl }
  away-notes (Some end) = record { settled = refl; claimed = refl; status = refl }

  away-same : (o : Option End) → away_facts (asking s r n false) r false o ≡ away_facts s r false o
  away-same None = refl
  away-same (Some end) = refl

  away-open : (o : Option End) → shuts (started_fact s.pool s.address ∷ away_facts s r false o) ≡ false
  away-open None = refl
  away-open (Some end) = refl

  away-fair : (o : Option End) → AllFirstCome s.pool n ys (started_fact s.pool s.address ∷ away_facts s r false o)
  away-fair None = (tt, tt)
  away-fair (Some end) = (tt, (tt, (tt, tt)))

  away-own : (o : Option End) → AllOwn s.pool n ys (started_fact s.pool s.address ∷ away_facts s r false o)
  away-own None = (refl, tt)
  away-own (Some end) = (refl, (rw (same-number r) refl, (refl, tt)))

pub request-accepts : (s s0 s1 t u : PoolCore) (before f0 f1 after : List Fact) (n r : ℕ) (reply : Reply) (xs : List PoolItem) → Fits s xs
    → request_at s r ≡ None → s0 ≡ asking s r n false → f0 ≡ before ++ started_fact s.pool s.address ∷ [] → s1 ≡ away s0 r n false (away_end s0.kept.status) → f1 ≡ f0 ++ away_facts s0 r false (away_end s0.kept.status) → SameHome s1 t → SameNotes s1 t
    → ((k : List PoolItem) → Fits s1 k → Serves s1 t n f1 after k) → u ≡ telling t r → reply ≡ outcome_now t r
    → Accepts s u before after n (RequestAct r s.address) reply xs (asked r n ∷ xs)
request-accepts s s0 s1 t u before f0 f1 after n r reply xs z absent s0_is f0_is s1_is f1_is home notes serves u_is reply_is =
    let o : Option End = away_end s.kept.status in
    let whole : s1 ≡ away (asking s r n false) r n false o = s1_is ∙ ap (λ k. away k r n false (away_end k.kept.status)) s0_is in
    let told : f1 ≡ before ++ started_fact s.pool s.address ∷ away_facts s r false o =
    f1_is ∙ (ap (λ k. f0 ++ away_facts k r false (away_end k.kept.status)) s0_is ∙ (ap (λ f. f ++ away_facts (asking s r n false) r false o) f0_is ∙ (append_assoc before (started_fact s.pool s.address ∷ []) (away_facts (asking s r n false) r false o) ∙ ap (λ f. before ++ started_fact s.pool s.address ∷ f) (away-same s xs z n r absent o)))) in
    let at_home : SameHome s s1 = rw whole (away-home s xs z n r absent o) in
    let state : t.kept.status ≡ s.kept.status = notes.status ∙ (ap (λ k. k.kept.status) whole ∙ (away-notes s xs z n r absent o).status) in
    accepts s s1 t u before f1 after n (RequestAct r s.address) reply (started_fact s.pool s.address ∷ away_facts s r false o) xs (asked r n ∷ xs)
    (ap (λ k. started_fact s.pool s.address ∷ k) (away-are s xs z n r absent s.kept.status z.matches.clearing.status))
    told at_home (rw whole (away-fits s xs z n r absent o)) serves
    (λ zs v. rw u_is (telling-fits t r zs v))
    (λ claims own zs m. reply_is ∙ (sym (outcome-is t zs m r) ∙ ap (λ p. outcome_of p zs r) (home.pool ∙ at_home.pool)))
    (rw reply_is (outcome-accepted t r))
    (ap (λ k. is_shut k.kept.status) u_is ∙ (ap is_shut state ∙ ap (λ b. b || is_shut s.kept.status) (sym (away-open s xs z n r absent o))))
    (λ k. rw (u_is, reply_is) (telling-settled t r k ∙ rw (or-false ((r == k) && is_outcome (outcome_now t r))) (ap (λ b. ((r == k) && is_outcome (outcome_now t r)) || has k b) (notes.settled ∙ (ap (λ x. x.kept.settled) whole ∙ (away-notes s xs z n r absent o).settled)))))
    (λ c. rw (u_is, reply_is, outcome-no-job t r s.pool c) (ap (has c) (notes.claimed ∙ (ap (λ x. x.kept.claimed) whole ∙ (away-notes s xs z n r absent o).claimed))))
    (away-fair s xs z n r absent o)
    (away-own s xs z n r absent o)

-- what a new caller finds that gets a connection at once
pub record MeetsAtOnce (s : PoolCore) (n : ℕ) (x : Connection) : Type 0 where
  pub ready : is_ready_now s.kept.status ≡ true
  pub nobody : first_queued s ≡ None
  pub last : last_available s ≡ Some x
  pub fresh : perished_now s n x ≡ None

pub meets-at-once : (s : PoolCore) (n : ℕ) (x : Connection) → ready_connection s n ≡ Some x → MeetsAtOnce s n x
meets-at-once s n x e = on (is_ready_now s.kept.status) (first_queued s) (last_available s) refl refl refl
  where
    none : ready_connection s n ≡ None → MeetsAtOnce s n x
    none k = let w : ◌≡◌ {A = Option Connection} None (Some x) = sym k ∙ e in cc

    at_fresh : (y : Connection) (o : Option ConnectionClosedReason) → is_ready_now s.kept.status ≡ true → first_queued s ≡ None → last_available s ≡ Some y → perished_now s n y ≡ o → MeetsAtOnce s n x
    at_fresh y None f g h w =
        let k : ready_connection s n ≡ Some y = rw (f, g, h, w) refl in
        let v : Some y ≡ Some x = sym k ∙ e in
        let u : y ≡ x = cc in
        record { ready = f; nobody = g; last = h ∙ ap Some u; fresh = subst (λ z. perished_now s n z ≡ None) u w }
    at_fresh y (Some why) f g h w = none (rw (f, g, h, w) refl)

    on : (b : Bool) (o : Option Request) (p : Option Connection) → is_ready_now s.kept.status ≡ b → first_queued s ≡ o → last_available s ≡ p → MeetsAtOnce s n x
    on false o p f g h = none (rw f refl)
    on true (Some q) p f g h = none (rw (f, g) refl)
    on true None None f g h = none (rw (f, g, h) refl)
    on true None (Some y) f g h = at_fresh y (perished_now s n y) f g h refl

-- the request of a new caller gets the connection in one turn of the serving
module _ (s : PoolCore) (n r : ℕ) (x : Connection) (absent : request_at s r ≡ None) (m : MeetsAtOnce s n x) where
  abbrev asked_s : PoolCore
  asked_s = asking s r n false

  abbrev asked_q : Request
  asked_q = record { number = r; asked_at = n; warm = false; took = false; phase = Queued }

  abbrev given_q : Request
  given_q = record { number = r; asked_at = n; warm = false; took = false; phase = Given x.id }

  abbrev given_s : PoolCore
  given_s = granting asked_s x asked_q

  -- with the request comes what meets the test of the serving, or nothing
  served-first : (q : Request) (b : Bool) → q.number ≡ r → find (λ k. is_queued k.phase && not (k.warm && b)) (put (λ k. k.number) q s.kept.requests) ≡ if is_queued q.phase && not (q.warm && b) then Some q else None
  served-first q b e = find-put (λ k. k.number) (λ k. is_queued k.phase && not (k.warm && b)) q s.kept.requests (rw e absent) (find-narrow (λ k. is_queued k.phase) (λ k. not (k.warm && b)) s.kept.requests m.nobody)

  requests-are : given_s.kept.requests ≡ put (λ k. k.number) given_q s.kept.requests
  requests-are = swap-put (λ (k : Request). k.number) asked_q given_q s.kept.requests refl

  candidate-first : candidate_now asked_s ≡ Some asked_q
  candidate-first = served-first asked_q (blocked_now asked_s) refl

  candidate-none : candidate_now given_s ≡ None
  candidate-none = ap (find (λ k. is_queued k.phase && not (k.warm && blocked_now given_s))) requests-are ∙ served-first given_q (blocked_now given_s) refl

  no-wait : n - n ≡ 0
  no-wait = omega arith

  serves-once : (before after : List Fact) (xs : List PoolItem) → after ≡ before ++ Granted r s.pool x.id ∷ checked_out_fact s.pool s.address x.id 0 ∷ [] → Fits asked_s xs → Serves asked_s given_s n before after xs
  serves-once before after xs told z =
      let meets : given_s ≡ meeting asked_s n x asked_q = sym (ap (met asked_s x asked_q) m.fresh) in
      let facts_are : Granted r s.pool x.id ∷ checked_out_fact s.pool s.address x.id 0 ∷ [] ≡ meeting_facts asked_s n x asked_q = rw (m.fresh, no-wait) refl in
      ends-empty asked_s given_s (stays-home refl refl refl refl) n before after xs
      (turn-meet-to asked_s asked_s given_s (stays-home refl refl refl refl) n before before after xs asked_q x (starts asked_s n before xs z) m.ready candidate-first refl m.last meets (told ∙ ap (λ fs. before ++ fs) facts_are))
      (ready-status s.kept.status m.ready) candidate-none

  outcome-pooled : connection_at s x.id ≡ Some x → outcome_now given_s r ≡ Pooled s.pool x.id
  outcome-pooled there =
      let at_r : request_at given_s r ≡ Some given_q = ap (entry_at (λ (k : Request). k.number) r) requests-are ∙ (entry_at-put (λ (k : Request). k.number) r given_q s.kept.requests ∙ rw (same-number r) refl) in
      let at_x : connection_at given_s x.id ≡ Some (handed s x r) = entry_at-swap (λ (y : Connection). y.id) x.id (handed s x r) s.kept.connections (ap is_some there) ∙ rw (same-number x.id) refl in
      rw (at_r, at_x) refl

  told-at-once : connection_at s x.id ≡ Some x → granting_at_once s n r x ≡ telling given_s r
  told-at-once there =
      ap (with_requests (granting_at_once s n r x)) (sym requests-are)
      ∙ sym (ap (λ o. record given_s { kept = record given_s.kept { settled = if is_outcome o then marked r given_s.kept.settled else given_s.kept.settled } }) (outcome-pooled there))

pub at-once-accepts : (s u : PoolCore) (before after : List Fact) (n r : ℕ) (x : Connection) (reply : Reply) (xs : List PoolItem) → Fits s xs
    → request_at s r ≡ None → ready_connection s n ≡ Some x → u ≡ granting_at_once s n r x
    → after ≡ before ++ started_fact s.pool s.address ∷ Granted r s.pool x.id ∷ checked_out_fact s.pool s.address x.id 0 ∷ [] → reply ≡ Pooled s.pool x.id
    → Accepts s u before after n (RequestAct r s.address) reply xs (asked r n ∷ xs)
at-once-accepts s u before after n r x reply xs z absent e u_is told reply_is =
    let m : MeetsAtOnce s n x = meets-at-once s n x e in
    let asked_s : PoolCore = asking s r n false in
    let begun : List Fact = before ++ started_fact s.pool s.address ∷ [] in
    let there : connection_at s x.id ≡ Some x = (available-at s xs z.matches x m.last).0 in
    let stays : away_end s.kept.status ≡ None = rw (ready-status s.kept.status m.ready) refl in
    request-accepts s asked_s asked_s (given_s s n r x absent m) u before begun begun after n r reply xs z absent refl refl
    (sym (ap (away asked_s r n false) stays))
    (sym (ap (λ o. begun ++ away_facts asked_s r false o) stays ∙ append-nil begun))
    (stays-home refl refl refl refl) (record { settled = refl; claimed = refl; status = refl })
    (λ k v. serves-once s n r x absent m begun after k (told ∙ sym (append_assoc before (started_fact s.pool s.address ∷ []) (Granted r s.pool x.id ∷ checked_out_fact s.pool s.address x.id 0 ∷ []))) v)
    (u_is ∙ told-at-once s n r x absent m there) (reply_is ∙ sym (outcome-pooled s n r x absent m there))
