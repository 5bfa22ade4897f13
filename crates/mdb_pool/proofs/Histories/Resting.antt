-- No answer is half told in the items that the state of a pool fits.
use Rattle.std.proofs.Common.{ℕ, ◌≡◌, ◌<◌, Bool, true, false, List, [], ◌∷◌, Option, Some, None, is_some, ◌⊎◌, inl, inr, refl, sym, ◌∙◌, ap, subst, arith}
use Rattle.mdb_pool.specs.declared.kept.connection.Connection.{Connection}
use Rattle.mdb_pool.specs.declared.kept.connection.Place.{Place}
use Rattle.mdb_pool.specs.declared.kept.connection.Place.TheVariants.{Pending, Available, Held, Pinned}
use Rattle.mdb_pool.specs.declared.kept.request.Request.{Request}
use Rattle.mdb_pool.specs.declared.kept.request.Phase.{Phase}
use Rattle.mdb_pool.specs.declared.kept.request.Phase.TheVariants.{Queued, Given, Over, Ended as EndedPhase}
use Rattle.mdb_pool.specs.Core.{PoolCore}
use Rattle.mdb_log.specs.History.{PoolItem, given}
use Rattle.mdb_log.specs.Connections.{one_if, has, pending_list, available_list, parties, pins, is_pinned, held, granted_to}
use Rattle.mdb_log.specs.Requests.{end_of}
use Rattle.mdb_pool_rules.specs.Rested.{Rested}
use Rattle.mdb_pool.specs.Kept.Matching.{Matches}
use Rattle.mdb_pool.specs.Standing.{Fits}
use Rattle.mdb_pool.specs.Kept.Places.{is_pending, is_available, is_held, is_at_pin, stays}
use Rattle.mdb_pool.specs.Kept.Values.{connection_at, request_at, given_of, given_in, holder_at, end_at, end_in, is_ended_at, one_party, pins_at, is_pinned_at}
use Rattle.mdb_pool_rules.proofs.Listed.Values.{has-where, passes}

-- a connection that passes a test
some-passes : (test : Place → Bool) (o : Option Connection) → passes (λ (x : Connection). x.id) (λ x. test x.place) o ≡ true → (x : Connection) × ((o ≡ Some x) × (test x.place ≡ true))
some-passes test None e = cc
some-passes test (Some x) e = (x, (refl, e))

some-given : (o : Option Request) (c : ℕ) → given_of o ≡ Some c → (q : Request) × ((o ≡ Some q) × (q.phase ≡ Given c))
some-given None c e = cc
some-given (Some q) c e = on q.phase refl
  where
    on : (p : Phase) → q.phase ≡ p → (k : Request) × ((Some q ≡ Some k) × (k.phase ≡ Given c))
    on Queued f = let g : given_in Queued ≡ Some c = sym (ap given_in f) ∙ e in cc
    on (Given d) f = let g : given_in (Given d) ≡ Some c = sym (ap given_in f) ∙ e in let h : d ≡ c = cc in (q, (refl, subst (λ k. q.phase ≡ Given k) h f))
    on Over f = let g : given_in Over ≡ Some c = sym (ap given_in f) ∙ e in cc
    on (EndedPhase end) f = let g : given_in (EndedPhase end) ≡ Some c = sym (ap given_in f) ∙ e in cc

some-holder : (o : Option Connection) (r : ℕ) → holder_at o ≡ Some r → (x : Connection) × ((o ≡ Some x) × (x.holder ≡ Some r))
some-holder None r e = cc
some-holder (Some x) r e = (x, (refl, e))

module _ (s : PoolCore) (xs : List PoolItem) (z : Fits s xs) where
  m : Matches s xs
  m = z.matches

  pending-one : (c : ℕ) → has c (pending_list xs) ≡ true → (x : Connection) × ((connection_at s c ≡ Some x) × (is_pending x.place ≡ true))
  pending-one c e = some-passes is_pending (connection_at s c) (sym (has-where (λ (x : Connection). x.id) (λ x. is_pending x.place) c s.kept.connections (m.counts.single c)) ∙ (ap (has c) (sym m.counts.pending) ∙ e))

  available-one : (c : ℕ) → has c (available_list xs) ≡ true → (x : Connection) × ((connection_at s c ≡ Some x) × (is_available x.place ≡ true))
  available-one c e = some-passes is_available (connection_at s c) (sym (has-where (λ (x : Connection). x.id) (λ x. is_available x.place) c s.kept.connections (m.counts.single c)) ∙ (ap (has c) (sym m.counts.available) ∙ e))

  available-is : (c : ℕ) → has c (available_list xs) ≡ passes (λ (x : Connection). x.id) (λ x. is_available x.place) (connection_at s c)
  available-is c = ap (has c) m.counts.available ∙ has-where (λ (x : Connection). x.id) (λ x. is_available x.place) c s.kept.connections (m.counts.single c)

  pending-is : (c : ℕ) → has c (pending_list xs) ≡ passes (λ (x : Connection). x.id) (λ x. is_pending x.place) (connection_at s c)
  pending-is c = ap (has c) m.counts.pending ∙ has-where (λ (x : Connection). x.id) (λ x. is_pending x.place) c s.kept.connections (m.counts.single c)

  given-one : (r c : ℕ) → given xs r ≡ Some c → (q : Request) × ((request_at s r ≡ Some q) × (q.phase ≡ Given c))
  given-one r c e = some-given (request_at s r) c (sym (m.requests.given r) ∙ e)

  holder-one : (r c : ℕ) → given xs r ≡ Some c → (x : Connection) × ((connection_at s c ≡ Some x) × (x.holder ≡ Some r))
  holder-one r c e = some-holder (connection_at s c) r (m.links.taken r c (sym (m.requests.given r) ∙ e))

  unended-is : (r c : ℕ) → given xs r ≡ Some c → end_of xs r ≡ None
  unended-is r c e = let z : (q : Request) × ((request_at s r ≡ Some q) × (q.phase ≡ Given c)) = given-one r c e in m.requests.ends r ∙ (ap end_at z.1.0 ∙ ap end_in z.1.1)

  parties-are : (c : ℕ) (x : Connection) (o : Option ℕ) → connection_at s c ≡ Some x → x.holder ≡ o → parties xs c ≡ one_party o
  parties-are c x o e f = m.connections.parties c ∙ (ap (λ k. one_party (holder_at k)) e ∙ ap one_party f)

  pending-stays : (p : Place) → is_pending p ≡ true → stays p ≡ false
  pending-stays Pending e = refl
  pending-stays Available e = cc
  pending-stays Held e = cc
  pending-stays Pinned e = cc

  available-stays : (p : Place) → is_available p ≡ true → (stays p ≡ false) × (is_pending p ≡ false)
  available-stays Pending e = cc
  available-stays Available e = (refl, refl)
  available-stays Held e = cc
  available-stays Pinned e = cc

  pending-away : (p : Place) → is_pending p ≡ true → is_available p ≡ false
  pending-away Pending e = refl
  pending-away Available e = cc
  pending-away Held e = cc
  pending-away Pinned e = cc

  -- the party of a pending connection is the one that it was granted to
  pending-holder : (c r : ℕ) (x : Connection) (o : Option ℕ) → connection_at s c ≡ Some x → is_pending x.place ≡ true → granted_to xs c ≡ Some r → x.holder ≡ o → ((x.holder ≡ None) × (is_some (end_of xs r) ≡ true)) ⊎ (given xs r ≡ Some c)
  pending-holder c r x None at_x p g f = inl (f, let w : is_ended_at (request_at s r) ≡ true = m.links.left_by c x r at_x p f (sym (m.connections.granted_to c x at_x) ∙ g) in ap is_some (m.requests.ends r) ∙ w)
  pending-holder c r x (Some k) at_x p g f =
      let w : x.party ≡ Some k = m.links.waits c x k at_x p f in
      let v : ◌≡◌ {A = Option ℕ} (Some r) (Some k) = sym g ∙ (m.connections.granted_to c x at_x ∙ w) in
      let same : r ≡ k = cc in
      let own : given_of (request_at s k) ≡ Some c = m.links.owned c k (ap holder_at at_x ∙ f) in
      inr (m.requests.given r ∙ subst (λ n. given_of (request_at s n) ≡ Some c) (sym same) own)

  at-pin : (c : ℕ) → 0 < pins xs c → held xs c ≡ 0 → is_pinned xs c ≡ true
  at-pin c l none = on (connection_at s c) refl
    where
      at_held : (x : Connection) (o : Option ℕ) → connection_at s c ≡ Some x → x.place ≡ Held → x.holder ≡ o → is_pinned xs c ≡ true
      at_held x None e f g = let k : is_some x.holder ≡ true = m.links.busy c x e (ap is_held f) in let w : is_some x.holder ≡ false = ap is_some g in cc
      at_held x (Some r) e f g =
          let p : has c (pending_list xs) ≡ false = pending-is c ∙ (ap (passes (λ (y : Connection). y.id) (λ y. is_pending y.place)) e ∙ ap is_pending f) in
          let h : parties xs c ≡ r ∷ [] = parties-are c x (Some r) e g in
          let k : held xs c ≡ 1 = rw (p, h) refl in
          absurd (omega arith)

      at_place : (x : Connection) (p : Place) → connection_at s c ≡ Some x → x.place ≡ p → is_pinned xs c ≡ true
      at_place x Pending e f = let k : x.pins ≡ 0 = m.pinning.loose c x e (ap stays f) in let w : pins xs c ≡ 0 = m.pinning.pins c ∙ (ap pins_at e ∙ k) in absurd (omega arith)
      at_place x Available e f = let k : x.pins ≡ 0 = m.pinning.loose c x e (ap stays f) in let w : pins xs c ≡ 0 = m.pinning.pins c ∙ (ap pins_at e ∙ k) in absurd (omega arith)
      at_place x Held e f = at_held x x.holder e f refl
      at_place x Pinned e f = m.at_pin c ∙ (ap is_pinned_at e ∙ ap is_at_pin f)

      on : (o : Option Connection) → connection_at s c ≡ o → is_pinned xs c ≡ true
      on None e = let w : pins xs c ≡ 0 = m.pinning.pins c ∙ ap pins_at e in absurd (omega arith)
      on (Some x) e = at_place x x.place e refl

  pinned-free : (c : ℕ) → is_pinned xs c ≡ true → parties xs c ≡ []
  pinned-free c i = on (connection_at s c) refl
    where
      on : (o : Option Connection) → connection_at s c ≡ o → parties xs c ≡ []
      on None e = let k : is_pinned xs c ≡ false = m.at_pin c ∙ ap is_pinned_at e in cc
      on (Some x) e = let k : is_at_pin x.place ≡ true = sym (m.at_pin c ∙ ap is_pinned_at e) ∙ i in parties-are c x None e (m.pinning.rests c x e k)

  pub rested : Rested xs
  rested = record {
    lives = λ r c e. let z : (x : Connection) × ((connection_at s c ≡ Some x) × (x.holder ≡ Some r)) = holder-one r c e in m.connections.live c ∙ ap (λ o. one_if (is_some o)) z.1.0;
    unended = unended-is;
    free = λ c e. let z : (x : Connection) × ((connection_at s c ≡ Some x) × (is_available x.place ≡ true)) = available-one c e in parties-are c z.0 None z.1.0 (m.links.free c z.0 z.1.0 z.1.1);
    loose = λ c e. let z : (x : Connection) × ((connection_at s c ≡ Some x) × (is_available x.place ≡ true)) = available-one c e in m.pinning.pins c ∙ (ap pins_at z.1.0 ∙ m.pinning.loose c z.0 z.1.0 (available-stays z.0.place z.1.1).0);
    pending_loose = λ c e. let z : (x : Connection) × ((connection_at s c ≡ Some x) × (is_pending x.place ≡ true)) = pending-one c e in m.pinning.pins c ∙ (ap pins_at z.1.0 ∙ m.pinning.loose c z.0 z.1.0 (pending-stays z.0.place z.1.1));
    apart = λ c e. let z : (x : Connection) × ((connection_at s c ≡ Some x) × (is_pending x.place ≡ true)) = pending-one c e in available-is c ∙ (ap (passes (λ (y : Connection). y.id) (λ y. is_available y.place)) z.1.0 ∙ pending-away z.0.place z.1.1);
    background = λ c e g. let z : (x : Connection) × ((connection_at s c ≡ Some x) × (is_pending x.place ≡ true)) = pending-one c e in in_background c z.0 z.0.holder z.1.0 z.1.1 g refl;
    left = λ c r e g f. let z : (x : Connection) × ((connection_at s c ≡ Some x) × (is_pending x.place ≡ true)) = pending-one c e in left_one c r z.0 z.1.0 f (pending-holder c r z.0 z.0.holder z.1.0 z.1.1 g refl);
    waits = λ c r e g f. let z : (x : Connection) × ((connection_at s c ≡ Some x) × (is_pending x.place ≡ true)) = pending-one c e in waits_one c r z.0 f (pending-holder c r z.0 z.0.holder z.1.0 z.1.1 g refl);
    known = λ c r e g. let z : (x : Connection) × ((connection_at s c ≡ Some x) × (is_pending x.place ≡ true)) = pending-one c e in m.requests.asks r ∙ m.links.known c z.0 r z.1.0 (sym (m.connections.granted_to c z.0 z.1.0) ∙ g);
    warm = λ r c e w. let z : (x : Connection) × ((connection_at s c ≡ Some x) × (x.holder ≡ Some r)) = holder-one r c e in pending-is c ∙ (ap (passes (λ (y : Connection). y.id) (λ y. is_pending y.place)) z.1.0 ∙ m.links.fills c z.0 r z.1.0 z.1.1 (sym (m.requests.warm r) ∙ w));
    at_pin = at-pin;
    pinned_free = pinned-free;
  }
    where
      in_background : (c : ℕ) (x : Connection) (o : Option ℕ) → connection_at s c ≡ Some x → is_pending x.place ≡ true → granted_to xs c ≡ None → x.holder ≡ o → parties xs c ≡ []
      in_background c x None at_x p g f = parties-are c x None at_x f
      in_background c x (Some k) at_x p g f = let w : x.party ≡ Some k = m.links.waits c x k at_x p f in let v : ◌≡◌ {A = Option ℕ} None (Some k) = sym g ∙ (m.connections.granted_to c x at_x ∙ w) in cc

      left_one : (c r : ℕ) (x : Connection) → connection_at s c ≡ Some x → is_some (end_of xs r) ≡ true → ((x.holder ≡ None) × (is_some (end_of xs r) ≡ true)) ⊎ (given xs r ≡ Some c) → parties xs c ≡ []
      left_one c r x at_x f (inl z) = parties-are c x None at_x z.0
      left_one c r x at_x f (inr g) = let k : is_some (end_of xs r) ≡ false = ap is_some (unended-is r c g) in cc

      waits_one : (c r : ℕ) (x : Connection) → end_of xs r ≡ None → ((x.holder ≡ None) × (is_some (end_of xs r) ≡ true)) ⊎ (given xs r ≡ Some c) → given xs r ≡ Some c
      waits_one c r x f (inl z) = let k : is_some (end_of xs r) ≡ false = ap is_some f in let w : is_some (end_of xs r) ≡ true = z.1 in cc
      waits_one c r x f (inr g) = g
