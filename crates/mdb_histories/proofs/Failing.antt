-- A connection that fails ends soundly after a clear by its error.
use Rattle.std.proofs.Common.{ℕ, ◌≡◌, ◌==◌, ◌&&◌, Bool, true, false, not, if◌then◌else◌, List, [], ◌∷◌, Option, Some, None, is_some, refl, sym, ◌∙◌, subst}
use Rattle.mdb_base.specs.declared.address.ServerAddress.{ServerAddress}
use Rattle.mdb_base.specs.declared.error.Error.{Error}
use Rattle.mdb_base.specs.declared.object_id.ObjectId.{ObjectId}
use Rattle.mdb_events.specs.declared.end.End.{End}
use Rattle.mdb_events.specs.declared.end.End.TheVariants.{Cleared, Failed as FailedEnd}
use Rattle.mdb_events.specs.declared.fact.Fact.{Fact}
use Rattle.mdb_events.specs.declared.fact.Fact.TheVariants.{Raised}
use Rattle.mdb_events.specs.declared.reasons.ConnectionClosedReason.TheVariants.{Error as ErrorReason}
use Rattle.mdb_log.specs.declared.options.PoolOptions.{PoolOptions}
use Rattle.mdb_log.specs.declared.step.Act.TheVariants.{Failed}
use Rattle.mdb_log.specs.declared.step.FailedAt.{FailedAt}
use Rattle.mdb_log.specs.History.{PoolItem, failed, closed, raised, ended, if_so, after_facts, given, has_asked}
use Rattle.mdb_log.specs.Connections.{has, live, pending_list, pins, granted_to, known_service}
use Rattle.mdb_log.specs.Requests.{queued, is_warm, end_of}
use Rattle.mdb_log.specs.State.{State, is_new, is_ready, is_paused, is_closed, state_of}
use Rattle.mdb_log.specs.Own.{AllOwn}
use Rattle.mdb_log.proofs.Frame.{asked-fact}
use Rattle.mdb_log.proofs.Later.{after-append}
use Rattle.mdb_log.proofs.Numbers.{same-number}
use Rattle.mdb_pool_rules.specs.Facts.{closed_fact, cleared_fact, end_facts, all_ends, clear_facts, fail_requester, act_facts}
use Rattle.mdb_sound.specs.Sound.{Sound, just_failed, lost, MayClose}
use Rattle.mdb_sound.proofs.Calm.{none-is, one-lives, calm-close}
use Rattle.mdb_sound.proofs.Connections.{connection-laws}
use Rattle.mdb_sound.proofs.Ends.{ends-fine}
use Rattle.mdb_pool_rules.specs.Rested.{Rested}
use Rattle.mdb_sound.proofs.Served.{Fine}
use Rattle.mdb_histories.proofs.Owns.{fail-own}

-- the items ns came after the failure of the connection c, and say of it and of its request what the items xs said before it
pub record Behind (xs : List PoolItem) (c : ℕ) (ns : List PoolItem) : Type 0 where
  pub lives : live ns c ≡ 1
  pub just : just_failed ns c ≡ true
  pub loose : pins ns c ≡ 0
  pub granted : granted_to ns c ≡ granted_to xs c
  pub asks : (r : ℕ) → has_asked ns r ≡ has_asked xs r
  pub gives : (r : ℕ) → end_of ns r ≡ None → given ns r ≡ given xs r
  pub goes : (r : ℕ) → end_of ns r ≡ None → end_of xs r ≡ None

pub behind-first : (xs : List PoolItem) (c : ℕ) (service : Option ObjectId) → Sound xs → Rested xs → has c (pending_list xs) ≡ true → Behind xs c (failed c service ∷ xs)
behind-first xs c service s z w = record { lives = (connection-laws xs s c).pending_lives w; just = same-number c; loose = z.pending_loose c w; granted = refl; asks = λ r. refl; gives = λ r e. refl; goes = λ r e. e }

module _ (xs : List PoolItem) (c : ℕ) where
  behind-raised : (service : Option ObjectId) (error : Error) (ns : List PoolItem) → Behind xs c ns → Behind xs c (raised service error ∷ ns)
  behind-raised service error ns b = record { lives = b.lives; just = b.just; loose = b.loose; granted = b.granted; asks = b.asks; gives = b.gives; goes = b.goes }

  unended : (q r : ℕ) (end : End) (ns : List PoolItem) → end_of (ended q end ∷ ns) r ≡ None → ((q == r) ≡ false) × (end_of ns r ≡ None)
  unended q r end ns e = on (q == r) refl e
    where
      on : (b : Bool) → (q == r) ≡ b → (if q == r then Some end else end_of ns r) ≡ None → ((q == r) ≡ false) × (end_of ns r ≡ None)
      on true f e = let w : ◌≡◌ {A = Option End} (Some end) None = sym (rw f refl) ∙ e in absurd (no-some w)
        where
          no-some : ◌≡◌ {A = Option End} (Some end) None → ⊥
          no-some w = cc
      on false f e = (f, sym (rw f refl) ∙ e)

  behind-ended : (q : ℕ) (end : End) (ns : List PoolItem) → Behind xs c ns → Behind xs c (ended q end ∷ ns)
  behind-ended q end ns b = record {
    lives = b.lives;
    just = b.just;
    loose = b.loose;
    granted = b.granted;
    asks = b.asks;
    gives = λ r e. (let w : ((q == r) ≡ false) × (end_of ns r ≡ None) = unended q r end ns e in rw w.0 (b.gives r w.1));
    goes = λ r e. b.goes r (unended q r end ns e).1;
  }

  behind-if : (q : ℕ) (end : End) (b : Bool) (ns : List PoolItem) → Behind xs c ns → Behind xs c (if_so b (ended q end) ns)
  behind-if q end true ns z = behind-ended q end ns z
  behind-if q end false ns z = z

  module _ (p : ℕ) (a : ServerAddress) (o : PoolOptions) (m : ℕ) where
    behind-ends : (ws : List PoolItem) (end : End) (rs : List ℕ) (ns : List PoolItem) → Behind xs c ns → Behind xs c (after_facts p m (all_ends p a m ws end rs) ns)
    behind-ends ws end [] ns b = b
    behind-ends ws end (r ∷ rs) ns b =
        subst (Behind xs c) (sym (after-append p m (end_facts p a m ws r end) (all_ends p a m ws end rs) ns))
        (behind-ends ws end rs (after_facts p m (end_facts p a m ws r end) ns) (on (is_warm ws r) refl))
      where
        on : (w : Bool) → is_warm ws r ≡ w → Behind xs c (after_facts p m (end_facts p a m ws r end) ns)
        on true e = rw e (behind-if r end (has_asked ns r) ns b)
        on false e = rw e (behind-if r end (has_asked ns r) ns b)

    -- a clear says nothing else of it
    pub behind-clear : (service : Option ObjectId) (error : Error) (ns : List PoolItem) → Behind xs c ns → Behind xs c (after_facts p m (clear_facts p a o m ns service error) ns)
    behind-clear service error ns b = on (state_of o ns) service refl
      where
        says : (k : Option ObjectId) (fs : List Fact) → Behind xs c (after_facts p m fs (raised k error ∷ ns)) → Behind xs c (after_facts p m (Raised p k error ∷ fs) ns)
        says k fs f = subst (λ d. Behind xs c (after_facts p m fs (if_so d (raised k error) ns))) (sym (same-number p)) f

        on : (t : State) (k : Option ObjectId) → state_of o ns ≡ t → Behind xs c (after_facts p m (clear_facts p a o m ns k error) ns)
        on is_closed k e = rw e b
        on is_new None e = rw e (says None [] (behind-raised None error ns b))
        on is_new (Some t) e = rw e (says (Some t) (cleared_fact p a (Some t) error ∷ []) (behind-raised (Some t) error ns b))
        on (is_paused why) None e = rw e (says None [] (behind-raised None error ns b))
        on (is_paused why) (Some t) e = rw e (says (Some t) (cleared_fact p a (Some t) error ∷ []) (behind-raised (Some t) error ns b))
        on is_ready (Some t) e = rw e (says (Some t) (cleared_fact p a (Some t) error ∷ []) (behind-raised (Some t) error ns b))
        on is_ready None e = rw e (says None (cleared_fact p a None error ∷ all_ends p a m ns (Cleared error) (queued ns)) (behind-ends ns (Cleared error) (queued ns) (raised None error ∷ ns) (behind-raised None error ns b)))

    module _ (s : Sound xs) (z : Rested xs) (w : has c (pending_list xs) ≡ true) (ns : List PoolItem) (b : Behind xs c ns) (fine : Fine ns) (error : Error) where
      closes : MayClose ns c
      closes = record { lives = one-lives ns c b.lives; unused = rw b.just (neither (not (has c (pending_list ns)))); unpinned = b.loose }
        where
          neither : (b : Bool) → b && false ≡ false
          neither true = refl
          neither false = refl

      closed-then : Fine (closed c ∷ ns)
      closed-then = ((closes, fine.0), calm-close ns c fine.1)

      known : (r : ℕ) → granted_to ns c ≡ Some r → has_asked ns r ≡ true
      known r g = b.asks r ∙ z.known c r w (sym b.granted ∙ g)

      -- the connection is closed, and its request ends
      ends-then : (x : Option ℕ) → granted_to ns c ≡ x → Fine (after_facts p m (fail_requester p a o m ns error x) (closed c ∷ ns))
      ends-then None g = closed-then
      ends-then (Some r) g = at-end (is_some (end_of ns r)) refl
        where
          at-end : (d : Bool) → is_some (end_of ns r) ≡ d → Fine (after_facts p m (fail_requester p a o m ns error (Some r)) (closed c ∷ ns))
          at-end true e = rw e closed-then
          at-end false e =
              let none : end_of ns r ≡ None = none-is (end_of ns r) e in
              let has-it : given ns r ≡ Some c = b.gives r none ∙ z.waits c r w (sym b.granted ∙ g) (b.goes r none) in
              let gone : lost (closed c ∷ ns) r ≡ true = rw (has-it, b.lives, same-number c) refl in
              rw e (ends-fine p a o m ns (closed c ∷ ns) r (FailedEnd error) closed-then (record { asked_for = known r g; unended = none; so = gone }))

      pub failing-fine : (q : ℕ) (at : FailedAt) → Fine (after_facts p m (act_facts p a o m xs ns (Failed q c at error)) ns)
      failing-fine q at = subst (λ d. Fine (after_facts p m (fail_requester p a o m ns error (granted_to ns c)) (if_so d (closed c) ns))) (sym (same-number p)) (ends-then (granted_to ns c) refl)

      pub failing-own : (q : ℕ) (at : FailedAt) → AllOwn p m ns (act_facts p a o m xs ns (Failed q c at error))
      failing-own q at = (refl, fail-own p a o m ns _ error (granted_to ns c) (λ r g. asked-fact p m r (closed_fact p a c ErrorReason (known_service ns c)) ns ∙ known r g))
