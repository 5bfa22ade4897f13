-- A step that no row refuses: what its call wants, and what the call does is what the step does.
use Rattle.std.proofs.Common.{ℕ, ◌≡◌, true, false, not, ◌&&◌, ◌==◌, nat_lt, List, ◌∷◌, None, is_some, refl, sym, ◌∙◌, ap, subst, arith}
use Rattle.std.specs.Prelude.{IfOk, Result}
use Rattle.std.proofs.lemmas.Result.{IfOk-weaker}
use Rattle.std.proofs.lemmas.Bool.{not-false}
use Rattle.mdb_base.specs.declared.address.ServerAddress.{ServerAddress}
use Rattle.mdb_base.specs.declared.error.Error.{Error}
use Rattle.mdb_events.specs.declared.fact.Fact.{Fact}
use Rattle.mdb_log.specs.declared.step.Act.{Act}
use Rattle.mdb_log.specs.declared.step.Act.TheVariants.{Request, Warm, GiveUp, Established, Failed, Return, Pin, Replicate, Take, Unpin, Maintain, Expire}
use Rattle.mdb_log.specs.declared.step.Established.{Established as Made}
use Rattle.mdb_log.specs.declared.step.FailedAt.{FailedAt}
use Rattle.mdb_log.specs.declared.step.FailedAt.TheVariants.{Pre, Post}
use Rattle.mdb_log.specs.declared.step.Step.{Step}
use Rattle.mdb_log.specs.declared.step.Use.{Use}
use Rattle.mdb_log.specs.declared.reply.Refused.TheVariants.{TimeBack, UnknownServer, RequestKnown, UnknownRequest, NotHolder, NotPending, Unpinned, PinInUse, PinState, WrongMode}
use Rattle.mdb_log.specs.declared.reply.Reply.{Reply}
use Rattle.mdb_log.specs.History.{PoolItem, asked, warmed, gave_up, established, failed, returned, pinned_by, replicated, taken, unpinned, service_in}
use Rattle.mdb_describe.proofs.Addresses.{same-address}
use Rattle.mdb_log.proofs.Numbers.{same-number}
use Rattle.mdb_base.specs.Equality.{same_address}
use Rattle.mdb_pool.specs.Core.{PoolCore}
use Rattle.mdb_pool.specs.Kept.Values.{request_at, connection_at, held_connection, is_asked_at, is_pending_at, is_held_at, is_shut, pins_at}
use Rattle.mdb_pool.specs.Now.{is_open_now, last_now, queries}
use Rattle.mdb_pool_rules.specs.Refusal.{first_row, wrong_service}
use Rattle.mdb_pool.specs.Refusing.{rows_now, refusal_now, is_here, is_pending_here, is_pinned_here}
use Rattle.mdb_pool.specs.Planning.{Does, with_item}
use Rattle.mdb_pool.specs.Standing.{Fits, Accepts}
use Rattle.mdb_pool.proofs.Answered.Act.{no-some, holds-given}
use Rattle.mdb_pool.proofs.Answered.GiveUp.{open-known}
use Rattle.mdb_pool_rules.proofs.FirstRow.{first-passes, one-passes, two-pass, three-pass}
use Rattle.mdb_log.proofs.Bools.{both-true}
use Rattle.mdb_pool.proofs.Follows.Fits.{asked-known}

-- what the calls want
module _ (s : PoolCore) (step : Step) (none : refusal_now s step ≡ None) where
  pub rows-pass : {act : Act} → step.act ≡ act → first_row (rows_now s act) ≡ None
  rows-pass is = ap (λ k. first_row (rows_now s k)) (sym is) ∙ (first-passes (nat_lt step.moment (last_now s)) (TimeBack (last_now s)) (rows_now s step.act) none).1

  address-is : {a : ServerAddress} → is_here s a ≡ true → s.address ≡ a
  unfolding queries
  address-is {a} e = same-address s.address a (both-true (same_address s.address a) (not (is_shut s.kept.status)) e).0

  pub request-here : {r : ℕ} {a : ServerAddress} → step.act ≡ Request r a → (s.address ≡ a) × (request_at s r ≡ None)
  unfolding queries
  request-here {r} {a} is =
      let rows : (not (is_here s a) ≡ false) × (is_some (request_at s r) ≡ false) = two-pass (not (is_here s a)) (is_some (request_at s r)) UnknownServer RequestKnown (rows-pass is) in
      (address-is (not-false (is_here s a) rows.0), no-some (request_at s r) rows.1)

  pub warm-here : {r : ℕ} {a : ServerAddress} → step.act ≡ Warm r a → (s.address ≡ a) × (request_at s r ≡ None)
  unfolding queries
  warm-here {r} {a} is =
      let rows : (not (is_here s a) ≡ false) × (is_some (request_at s r) ≡ false) = two-pass (not (is_here s a)) (is_some (request_at s r)) UnknownServer RequestKnown (rows-pass is) in
      (address-is (not-false (is_here s a) rows.0), no-some (request_at s r) rows.1)

  pub maintain-here : {a : ServerAddress} → step.act ≡ Maintain a → s.address ≡ a
  maintain-here {a} is = address-is (not-false (is_here s a) (one-passes (not (is_here s a)) UnknownServer (rows-pass is)))

  pub expire-here : {a : ServerAddress} → step.act ≡ Expire a → s.address ≡ a
  expire-here {a} is = address-is (not-false (is_here s a) (one-passes (not (is_here s a)) UnknownServer (rows-pass is)))

  pub give-up-asked : {r : ℕ} → step.act ≡ GiveUp r → is_asked_at (request_at s r) ≡ true
  unfolding queries
  give-up-asked {r} is = open-known s r (not-false (is_open_now s r) (one-passes (not (is_open_now s r)) UnknownRequest (rows-pass is)))

  pending-here : (q c : ℕ) → is_pending_here s q c ≡ true → ((q == s.pool) ≡ true) × (is_pending_at (connection_at s c) ≡ true)
  unfolding queries
  pending-here q c e = both-true (q == s.pool) (is_pending_at (connection_at s c)) e

  pinned-here : (q c : ℕ) → is_pinned_here s q c ≡ true → ((q == s.pool) ≡ true) × (nat_lt 0 (pins_at (connection_at s c)) ≡ true)
  unfolding queries
  pinned-here q c e = both-true (q == s.pool) (nat_lt 0 (pins_at (connection_at s c))) e

  pub established-pending : {q c : ℕ} {how : Made} → step.act ≡ Established q c how → ((q == s.pool) ≡ true) × (is_pending_at (connection_at s c) ≡ true)
  established-pending {q} {c} {how} is = pending-here q c (not-false (is_pending_here s q c) (two-pass (not (is_pending_here s q c)) (wrong_service s.options.load_balanced how.service_id) NotPending WrongMode (rows-pass is)).0)

  pub failed-pending : {q c : ℕ} {at : FailedAt} {error : Error} → step.act ≡ Failed q c at error → ((q == s.pool) ≡ true) × (is_pending_at (connection_at s c) ≡ true)
  failed-pending {q} {c} {at} is = pending-here q c (not-false (is_pending_here s q c) (two-pass (not (is_pending_here s q c)) (not s.options.load_balanced && is_some (service_in at)) NotPending WrongMode (rows-pass is)).0)

  pub return-held : {r : ℕ} {used : Use} → step.act ≡ Return r used → is_some (held_connection s r) ≡ true
  unfolding queries
  return-held {r} is = not-false (is_some (held_connection s r)) (one-passes (not (is_some (held_connection s r))) NotHolder (rows-pass is))

  pub pin-held : {r : ℕ} → step.act ≡ Pin r → is_some (held_connection s r) ≡ true
  unfolding queries
  pin-held {r} is = not-false (is_some (held_connection s r)) (two-pass (not (is_some (held_connection s r))) (nat_lt 0 (pins_at (held_connection s r))) NotHolder PinState (rows-pass is)).0

  pub replicate-pinned : {q c : ℕ} → step.act ≡ Replicate q c → ((q == s.pool) ≡ true) × (nat_lt 0 (pins_at (connection_at s c)) ≡ true)
  replicate-pinned {q} {c} is = pinned-here q c (not-false (is_pinned_here s q c) (one-passes (not (is_pinned_here s q c)) Unpinned (rows-pass is)))

  pub unpin-pinned : {q c : ℕ} → step.act ≡ Unpin q c → ((q == s.pool) ≡ true) × (nat_lt 0 (pins_at (connection_at s c)) ≡ true)
  unpin-pinned {q} {c} is = pinned-here q c (not-false (is_pinned_here s q c) (one-passes (not (is_pinned_here s q c)) Unpinned (rows-pass is)))

  take-rows : {r q c : ℕ} → step.act ≡ Take r q c → (is_some (request_at s r) ≡ false) × (not (is_pinned_here s q c) ≡ false) × (is_held_at (connection_at s c) ≡ false)
  unfolding queries
  take-rows {r} {q} {c} is = three-pass (is_some (request_at s r)) (not (is_pinned_here s q c)) (is_held_at (connection_at s c)) RequestKnown Unpinned PinInUse (rows-pass is)

  pub take-unknown : {r q c : ℕ} → step.act ≡ Take r q c → is_some (request_at s r) ≡ false
  unfolding queries
  take-unknown is = (take-rows is).0

  pub take-pinned : {r q c : ℕ} → step.act ≡ Take r q c → ((q == s.pool) ≡ true) × (nat_lt 0 (pins_at (connection_at s c)) ≡ true)
  take-pinned {r} {q} {c} is = pinned-here q c (not-false (is_pinned_here s q c) (take-rows is).1)

  pub take-free : {r q c : ℕ} → step.act ≡ Take r q c → is_held_at (connection_at s c) ≡ false
  unfolding queries
  take-free is = (take-rows is).2

is-here : (q p : ℕ) → (q == p) ≡ true → q ≡ p
is-here q p e = grind (arith, e)

-- a failure with the same cause
pub as-failed : {act : Act} {q c : ℕ} {at : FailedAt} {error cause : Error} → act ≡ Failed q c at error → cause ≡ error → act ≡ Failed q c at cause
as-failed {act} {q} {c} {at} is e = is ∙ ap (Failed q c at) (sym e)

-- what a call does for its act, the step does
module _ (s t : PoolCore) (before after : List Fact) {E : Type 0} (result : Result Reply E) (step : Step) where
  as-does : {act : Act} {ys : List PoolItem → List PoolItem} → step.act ≡ act → ((xs : List PoolItem) → Fits s xs → with_item s.pool step.moment act xs ≡ ys xs)
      → IfOk result (λ reply. (xs : List PoolItem) → Fits s xs → Accepts s t before after step.moment act reply xs (ys xs))
      → IfOk result (Does s t before after step)
  as-does {act} {ys} is same v = IfOk-weaker result _ _ (λ reply w xs z. subst (λ k. Accepts s t before after step.moment k reply xs (with_item s.pool step.moment k xs)) (sym is) (subst (Accepts s t before after step.moment act reply xs) (sym (same xs z)) (w xs z))) v

  -- an act that is no item
  pub bare-does : {act : Act} → step.act ≡ act → ((xs : List PoolItem) → with_item s.pool step.moment act xs ≡ xs)
      → IfOk result (λ reply. (xs : List PoolItem) → Fits s xs → Accepts s t before after step.moment act reply xs xs)
      → IfOk result (Does s t before after step)
  bare-does is same v = as-does is (λ xs z. same xs) v

  module _ (none : refusal_now s step ≡ None) where
    pub request-does : {r : ℕ} {a : ServerAddress} → step.act ≡ Request r a → IfOk result (λ reply. (xs : List PoolItem) → Fits s xs → Accepts s t before after step.moment (Request r s.address) reply xs (asked r step.moment ∷ xs)) → IfOk result (Does s t before after step)
    request-does {r} is v = as-does (is ∙ ap (Request r) (sym (request-here s step none is).0)) (λ xs z. rw (same-number s.pool) refl) v

    pub warm-does : {r : ℕ} {a : ServerAddress} → step.act ≡ Warm r a → IfOk result (λ reply. (xs : List PoolItem) → Fits s xs → Accepts s t before after step.moment (Warm r s.address) reply xs (warmed r step.moment ∷ xs)) → IfOk result (Does s t before after step)
    warm-does {r} is v = as-does (is ∙ ap (Warm r) (sym (warm-here s step none is).0)) (λ xs z. rw (same-number s.pool) refl) v

    pub maintain-does : {a : ServerAddress} → step.act ≡ Maintain a → IfOk result (λ reply. (xs : List PoolItem) → Fits s xs → Accepts s t before after step.moment (Maintain s.address) reply xs xs) → IfOk result (Does s t before after step)
    maintain-does is v = bare-does (is ∙ ap Maintain (sym (maintain-here s step none is))) (λ xs. refl) v

    pub expire-does : {a : ServerAddress} → step.act ≡ Expire a → IfOk result (λ reply. (xs : List PoolItem) → Fits s xs → Accepts s t before after step.moment (Expire s.address) reply xs xs) → IfOk result (Does s t before after step)
    expire-does is v = bare-does (is ∙ ap Expire (sym (expire-here s step none is))) (λ xs. refl) v

    pub give-up-does : {r : ℕ} → step.act ≡ GiveUp r → IfOk result (λ reply. (xs : List PoolItem) → Fits s xs → Accepts s t before after step.moment (GiveUp r) reply xs (gave_up r ∷ xs)) → IfOk result (Does s t before after step)
    give-up-does {r} is v = as-does is (λ xs z. rw (asked-known s xs z r ∙ give-up-asked s step none is) refl) v

    pub established-does : {q c : ℕ} {how : Made} → step.act ≡ Established q c how → IfOk result (λ reply. (xs : List PoolItem) → Fits s xs → Accepts s t before after step.moment (Established s.pool c how) reply xs (established c how step.moment ∷ xs)) → IfOk result (Does s t before after step)
    established-does {q} {c} {how} is v = as-does (is ∙ ap (λ k. Established k c how) (is-here q s.pool (established-pending s step none is).0)) (λ xs z. rw (same-number s.pool) refl) v

    failed-item : (c : ℕ) (at : FailedAt) (error : Error) (xs : List PoolItem) → with_item s.pool step.moment (Failed s.pool c at error) xs ≡ failed c (service_in at) ∷ xs
    failed-item c Pre error xs = rw (same-number s.pool) refl
    failed-item c (Post service) error xs = rw (same-number s.pool) refl

    pub failed-does : {q c : ℕ} {at : FailedAt} {error : Error} → step.act ≡ Failed q c at error → IfOk result (λ reply. (xs : List PoolItem) → Fits s xs → Accepts s t before after step.moment (Failed s.pool c at error) reply xs (failed c (service_in at) ∷ xs)) → IfOk result (Does s t before after step)
    failed-does {q} {c} {at} {error} is v = as-does (is ∙ ap (λ k. Failed k c at error) (is-here q s.pool (failed-pending s step none is).0)) (λ xs z. failed-item c at error xs) v

    pub return-does : {r : ℕ} {used : Use} → step.act ≡ Return r used → IfOk result (λ reply. (xs : List PoolItem) → Fits s xs → Accepts s t before after step.moment (Return r used) reply xs (returned r used ∷ xs)) → IfOk result (Does s t before after step)
    return-does {r} is v = as-does is (λ xs z. rw (holds-given s xs z r (return-held s step none is)) refl) v

    pub pin-does : {r : ℕ} → step.act ≡ Pin r → IfOk result (λ reply. (xs : List PoolItem) → Fits s xs → Accepts s t before after step.moment (Pin r) reply xs (pinned_by r ∷ xs)) → IfOk result (Does s t before after step)
    pin-does {r} is v = as-does is (λ xs z. rw (holds-given s xs z r (pin-held s step none is)) refl) v

    pub replicate-does : {q c : ℕ} → step.act ≡ Replicate q c → IfOk result (λ reply. (xs : List PoolItem) → Fits s xs → Accepts s t before after step.moment (Replicate s.pool c) reply xs (replicated c ∷ xs)) → IfOk result (Does s t before after step)
    replicate-does {q} {c} is v = as-does (is ∙ ap (λ k. Replicate k c) (is-here q s.pool (replicate-pinned s step none is).0)) (λ xs z. rw (same-number s.pool) refl) v

    pub unpin-does : {q c : ℕ} → step.act ≡ Unpin q c → IfOk result (λ reply. (xs : List PoolItem) → Fits s xs → Accepts s t before after step.moment (Unpin s.pool c) reply xs (unpinned c ∷ xs)) → IfOk result (Does s t before after step)
    unpin-does {q} {c} is v = as-does (is ∙ ap (λ k. Unpin k c) (is-here q s.pool (unpin-pinned s step none is).0)) (λ xs z. rw (same-number s.pool) refl) v

    pub take-does : {r q c : ℕ} → step.act ≡ Take r q c → IfOk result (λ reply. (xs : List PoolItem) → Fits s xs → Accepts s t before after step.moment (Take r s.pool c) reply xs (taken r c ∷ xs)) → IfOk result (Does s t before after step)
    take-does {r} {q} {c} is v = as-does (is ∙ ap (λ k. Take r k c) (is-here q s.pool (take-pinned s step none is).0)) (λ xs z. rw (same-number s.pool) refl) v
