-- An accepted step may come after a sound history.
use Rattle.std.proofs.Common.{ℕ, ◌≡◌, ◌≢◌, ◌==◌, ◌&&◌, Bool, true, false, not, List, [], ◌∷◌, Option, Some, None, is_some, nat_lt, refl, sym, ◌∙◌, ap, subst, arith}
use Rattle.std.proofs.lemmas.Bool.{not-false}
use Rattle.mdb_base.specs.declared.options.Options.{Options}
use Rattle.mdb_log.specs.declared.step.Step.{Step}
use Rattle.mdb_log.specs.declared.step.Act.{Act}
use Rattle.mdb_log.specs.declared.step.Act.TheVariants as Do
use Rattle.mdb_log.specs.declared.step.FailedAt.TheVariants.{Pre, Post}
use Rattle.mdb_log.specs.declared.reply.Reply.{Reply}
use Rattle.mdb_log.specs.declared.reply.Refused.TheVariants.{UnknownServer, RequestKnown, UnknownRequest, NotHolder, NotPending, Unpinned, PinInUse, PinState, WrongMode}
use Rattle.mdb_log.specs.History.{Item, did, PoolItem, if_so, is_number, of_pool, open_pool, after_act, given, has_asked, has_party}
use Rattle.mdb_log.specs.Connections.{has, pending_list, holding, held, pins}
use Rattle.mdb_log.specs.Requests.{some_act, names_party, was_asked, leaves, told, is_open}
use Rattle.mdb_log.specs.Homes.{Home}
use Rattle.mdb_pool_rules.specs.Refusal.{first_row, wrong_service}
use Rattle.mdb_pool_rules.proofs.FirstRow.{first-passes, one-passes, two-pass, three-pass}
use Rattle.mdb_log.proofs.Bools.{both-true}
use Rattle.mdb_sound.specs.Sound.{Sound}
use Rattle.mdb_pool_rules.specs.Rested.{Rested}
use Rattle.mdb_driver_rules.specs.Homes.{concerns, home_of}
use Rattle.mdb_driver_rules.specs.Refusal.{rows_of, homeless, holds_pinned}
use Rattle.mdb_histories.specs.SoundHistory.{SoundHistory, MayCome, StepNames, HasOne, was_opened}
use Rattle.mdb_histories.proofs.Parties.{each-sound, apart}
use Rattle.mdb_histories.proofs.Opened.{unopened-empty}
use Rattle.mdb_histories.proofs.Begins.{done-sound, home-done, given-at}
use Rattle.mdb_histories.proofs.Steps.{home-concerned, given-party, asked-some}

module _ (o : Options) (h : List Item) (s : SoundHistory h) (rest : (p : ℕ) → Rested (of_pool p h)) where
  -- of a pool that was not opened nothing is said
  opened-by : (q : ℕ) (test : List PoolItem → Bool) → test [] ≡ false → not (test (of_pool q h)) ≡ false → was_opened h q ≡ true
  opened-by q test none e = on (was_opened h q) refl
    where
      on : (b : Bool) → was_opened h q ≡ b → was_opened h q ≡ true
      on true f = f
      on false f =
          let g : test (of_pool q h) ≡ false = ap test (unopened-empty h s q f) ∙ none in
          let k : test (of_pool q h) ≡ true = not-false (test (of_pool q h)) e in
          cc

  -- who holds a connection of the pool that is found
  module _ (act : Act) (r : ℕ) (holder : (p : ℕ) → concerns h act p ≡ is_some (holding (of_pool p h) r)) where
    found : (x : Option Home) → home_of h act ≡ x → not (is_some x) ≡ false → HasOne h r
    found None e f = cc
    found (Some x) e f = record { pool = x.number; has = given-at o h s rest 0 r x.number (sym (holder x.number) ∙ home-concerned h act x e) }

    -- has one of no other pool
    pub only-there : (x : Option Home) → home_of h act ≡ x → not (is_some x) ≡ false → (p : ℕ) → is_some (given (of_pool p h) r) ≡ true → concerns h act p ≡ true
    only-there None e f p g = cc
    only-there (Some x) e f p g = on (x.number == p) refl
      where
        here : concerns h act x.number ≡ true
        here = home-concerned h act x e

        party : has_party (of_pool x.number h) r ≡ true
        party = given-party (of_pool x.number h) (each-sound h s x.number) r (given-at o h s rest 0 r x.number (sym (holder x.number) ∙ here))

        on : (b : Bool) → (x.number == p) ≡ b → concerns h act p ≡ true
        on true k = let same : x.number ≡ p = grind arith in subst (λ n. concerns h act n ≡ true) same here
        on false k =
            let ne : x.number ≢ p = grind arith in
            let none : has_party (of_pool p h) r ≡ false = apart h s r x.number p ne party in
            let one : has_party (of_pool p h) r ≡ true = given-party (of_pool p h) (each-sound h s p) r g in
            cc

    pub holder-found : not (is_some (home_of h act)) ≡ false → HasOne h r
    holder-found e = found (home_of h act) refl e

  -- whom and what an accepted step names
  names-of : (act : Act) → first_row (rows_of o h act) ≡ None → StepNames h act
  names-of (Do.Request r a) e =
      let w : (not (is_some (open_pool h a)) ≡ false) × (some_act names_party h r ≡ false) = two-pass (not (is_some (open_pool h a))) (some_act names_party h r) UnknownServer RequestKnown e in
      record { fresh = w.1; there = not-false (is_some (open_pool h a)) w.0 }
  names-of (Do.Warm r a) e =
      let w : (not (is_some (open_pool h a)) ≡ false) × (some_act names_party h r ≡ false) = two-pass (not (is_some (open_pool h a))) (some_act names_party h r) UnknownServer RequestKnown e in
      record { fresh = w.1; there = not-false (is_some (open_pool h a)) w.0 }
  names-of (Do.GiveUp r) e =
      let open-one : is_open h r ≡ true = not-false (is_open h r) (one-passes (not (is_open h r)) UnknownRequest e) in
      asked-some h s r (both-true (some_act was_asked h r) ((told h r == 0) && not (some_act leaves h r)) open-one).0
  names-of (Do.Established q c how) e = opened-by q (λ xs. has c (pending_list xs)) refl (first-passes (not (has c (pending_list (of_pool q h)))) NotPending ((wrong_service o.load_balanced how.service_id, WrongMode) ∷ []) e).0
  names-of (Do.Failed q c Pre error) e = opened-by q (λ xs. has c (pending_list xs)) refl (one-passes (not (has c (pending_list (of_pool q h)))) NotPending e)
  names-of (Do.Failed q c (Post service) error) e = opened-by q (λ xs. has c (pending_list xs)) refl (first-passes (not (has c (pending_list (of_pool q h)))) NotPending ((not o.load_balanced && is_some service, WrongMode) ∷ []) e).0
  names-of (Do.Return r used) e = holder-found (Do.Return r used) r (λ p. refl) (one-passes (homeless h (Do.Return r used)) NotHolder e)
  names-of (Do.Pin r) e = holder-found (Do.Pin r) r (λ p. refl) (first-passes (homeless h (Do.Pin r)) NotHolder ((holds_pinned h (home_of h (Do.Pin r)) r, PinState) ∷ []) e).0
  names-of (Do.Replicate q c) e = opened-by q (λ xs. nat_lt 0 (pins xs c)) refl (one-passes (not (nat_lt 0 (pins (of_pool q h) c))) Unpinned e)
  names-of (Do.Take r q c) e =
      let w : (some_act names_party h r ≡ false) × (not (nat_lt 0 (pins (of_pool q h) c)) ≡ false) × (nat_lt 0 (held (of_pool q h) c) ≡ false) = three-pass (some_act names_party h r) (not (nat_lt 0 (pins (of_pool q h) c))) (nat_lt 0 (held (of_pool q h) c)) RequestKnown Unpinned PinInUse e in
      record { fresh = w.0; there = opened-by q (λ xs. nat_lt 0 (pins xs c)) refl w.1 }
  names-of (Do.Unpin q c) e = opened-by q (λ xs. nat_lt 0 (pins xs c)) refl (one-passes (not (nat_lt 0 (pins (of_pool q h) c))) Unpinned e)
  names-of _ e = tt

  -- each pool is sound with it
  module _ (m p : ℕ) where
    concerned : (act : Act) → first_row (rows_of o h act) ≡ None → concerns h act p ≡ true → Sound (after_act p (open_pool h) m act (of_pool p h))
    concerned act e k = done-sound m (of_pool p h) act (after_act p (open_pool h) m act (of_pool p h)) (home-done o h s rest m act p k e) (each-sound h s p)

    skipped : (b : Bool) (x : PoolItem) → b ≡ false → Sound (if_so b x (of_pool p h))
    skipped b x e = rw e (each-sound h s p)

    at-test : (act : Act) (b : Bool) (x : PoolItem) → (b ≡ true → Sound (if_so b x (of_pool p h))) → Sound (if_so b x (of_pool p h))
    at-test act b x there = on b refl
      where
        on : (c : Bool) → b ≡ c → Sound (if_so b x (of_pool p h))
        on true e = there e
        on false e = skipped b x e

    act-sound : (act : Act) → first_row (rows_of o h act) ≡ None → Sound (after_act p (open_pool h) m act (of_pool p h))
    act-sound (Do.Request r a) e = at-test (Do.Request r a) (is_number (open_pool h a) p) _ (concerned (Do.Request r a) e)
    act-sound (Do.Warm r a) e = at-test (Do.Warm r a) (is_number (open_pool h a) p) _ (concerned (Do.Warm r a) e)
    act-sound (Do.GiveUp r) e = at-test (Do.GiveUp r) (has_asked (of_pool p h) r) _ (concerned (Do.GiveUp r) e)
    act-sound (Do.Established q c how) e = at-test (Do.Established q c how) (q == p) _ (concerned (Do.Established q c how) e)
    act-sound (Do.Failed q c Pre error) e = at-test (Do.Failed q c Pre error) (q == p) _ (concerned (Do.Failed q c Pre error) e)
    act-sound (Do.Failed q c (Post service) error) e = at-test (Do.Failed q c (Post service) error) (q == p) _ (concerned (Do.Failed q c (Post service) error) e)
    act-sound (Do.Return r used) e =
        let w : not (is_some (home_of h (Do.Return r used))) ≡ false = one-passes (homeless h (Do.Return r used)) NotHolder e in
        at-test (Do.Return r used) (is_some (given (of_pool p h) r)) _ (λ g. concerned (Do.Return r used) e (only-there (Do.Return r used) r (λ q. refl) (home_of h (Do.Return r used)) refl w p g))
    act-sound (Do.Pin r) e =
        let w : not (is_some (home_of h (Do.Pin r))) ≡ false = (first-passes (homeless h (Do.Pin r)) NotHolder ((holds_pinned h (home_of h (Do.Pin r)) r, PinState) ∷ []) e).0 in
        at-test (Do.Pin r) (is_some (given (of_pool p h) r)) _ (λ g. concerned (Do.Pin r) e (only-there (Do.Pin r) r (λ q. refl) (home_of h (Do.Pin r)) refl w p g))
    act-sound (Do.Replicate q c) e = at-test (Do.Replicate q c) (q == p) _ (concerned (Do.Replicate q c) e)
    act-sound (Do.Take r q c) e = at-test (Do.Take r q c) (q == p) _ (concerned (Do.Take r q c) e)
    act-sound (Do.Unpin q c) e = at-test (Do.Unpin q c) (q == p) _ (concerned (Do.Unpin q c) e)
    act-sound _ e = each-sound h s p

  -- the step may come
  pub step-comes : (step : Step) (reply : Reply) → first_row (rows_of o h step.act) ≡ None → MayCome h (did step reply)
  step-comes step reply e = record { in_each = λ p. act-sound step.moment p step.act e; names = names-of step.act e }
