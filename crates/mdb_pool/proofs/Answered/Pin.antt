-- What a pin and a replicate do is the answer to their steps.
use Rattle.std.proofs.Common.{ℕ, ◌≡◌, Bool, true, false, List, [], ◌∷◌, Option, Some, None, refl, sym, ◌∙◌, ap, subst, append-nil, nat_lt}
use Rattle.mdb_events.specs.declared.fact.Fact.{Fact}
use Rattle.mdb_log.specs.declared.step.Act.TheVariants.{Pin, Replicate}
use Rattle.mdb_log.specs.declared.reply.Reply.TheVariants.{Done}
use Rattle.mdb_pool.specs.declared.kept.connection.Connection.{Connection}
use Rattle.mdb_pool.specs.declared.kept.connection.Place.TheVariants.{Held}
use Rattle.mdb_pool.specs.declared.kept.request.Request.{Request}
use Rattle.mdb_pool.specs.Core.{PoolCore}
use Rattle.mdb_log.specs.History.{PoolItem, pinned_by, replicated}
use Rattle.mdb_log.specs.Connections.{has}
use Rattle.mdb_pool.specs.Standing.{Fits, Accepts, SameHome}
use Rattle.mdb_pool.specs.Acts.Doing.{Serves, SameNotes}
use Rattle.mdb_pool.specs.Kept.Matching.{Matches}
use Rattle.mdb_pool.specs.Kept.Values.{connection_at, request_at, held_connection, given_of, given_in, is_shut, pins_at}
use Rattle.mdb_pool.specs.Kept.Places.{stays}
use Rattle.mdb_pool.specs.Acts.Changes.{pinning}
use Rattle.mdb_pool.proofs.Answered.Act.{accepts}
use Rattle.mdb_pool.proofs.Listed.FirstOrLast.{Holder, holder}
use Rattle.mdb_pool_rules.proofs.Listed.Values.{entry_at-key}
use Rattle.mdb_pool.proofs.Follows.PinsFit.{pin-fits, replicate-fits}
use Rattle.mdb_pool.proofs.SameAnswers.StaysHome.{stays-home}

-- the connection that a party holds was given to it
pub held-at : (s : PoolCore) (r : ℕ) (x : Connection) → held_connection s r ≡ Some x → (given_of (request_at s r) ≡ Some x.id) × (connection_at s x.id ≡ Some x) × (x.place ≡ Held)
held-at s r x held = on (request_at s r) refl
  where
    on : (o : Option Request) → request_at s r ≡ o → (given_of (request_at s r) ≡ Some x.id) × (connection_at s x.id ≡ Some x) × (x.place ≡ Held)
    on None e = let k : held_connection s r ≡ None = rw e refl in let w : ◌≡◌ {A = Option Connection} None (Some x) = sym k ∙ held in cc
    on (Some q) e = let v : Holder s r x q = holder s r x q held e in (ap given_of e ∙ ap given_in v.phase, v.at_x, v.place)

-- a connection with a pin is there, held or at its pin
pub pinned-at : (s : PoolCore) (c : ℕ) (x : Connection) → connection_at s c ≡ Some x → x.id ≡ c
pinned-at s c x e = entry_at-key (λ (y : Connection). y.id) c x s.kept.connections e

pub pinned-outside : (s : PoolCore) (xs : List PoolItem) → Matches s xs → (c : ℕ) (x : Connection) → connection_at s c ≡ Some x → nat_lt 0 x.pins ≡ true → stays x.place ≡ true
pinned-outside s xs m c x e some_pins = on (stays x.place) refl
  where
    on : (b : Bool) → stays x.place ≡ b → stays x.place ≡ true
    on true f = f
    on false f = let k : nat_lt 0 x.pins ≡ false = ap (nat_lt 0) (m.pinning.loose c x e f) in cc

pub pin-accepts : (s s1 t : PoolCore) (before after : List Fact) (n r : ℕ) (x : Connection) (xs : List PoolItem) → Fits s xs → held_connection s r ≡ Some x → s1 ≡ pinning s n x → SameHome s1 t → SameNotes s1 t → ((k : List PoolItem) → Fits s1 k → Serves s1 t n before after k)
    → Accepts s t before after n (Pin r) Done xs (pinned_by r ∷ xs)
pin-accepts s s1 t before after n r x xs z held s1_is home notes serves =
    let v : (given_of (request_at s r) ≡ Some x.id) × (connection_at s x.id ≡ Some x) × (x.place ≡ Held) = held-at s r x held in
    accepts s s1 t t before before after n (Pin r) Done [] xs (pinned_by r ∷ xs)
    refl
    (sym (append-nil before)) (rw s1_is (stays-home refl refl refl refl)) (rw s1_is (pin-fits s xs z n x r v.1 v.2 (z.matches.requests.given r ∙ v.0))) serves
    (λ zs v. v)
    (λ claims own zs m. refl)
    tt
    (ap is_shut (notes.status ∙ ap (λ k. k.kept.status) s1_is))
    (λ r. ap (has r) (notes.settled ∙ ap (λ k. k.kept.settled) s1_is))
    (λ c. ap (has c) (notes.claimed ∙ ap (λ k. k.kept.claimed) s1_is))
    tt
    tt

pub replicate-accepts : (s s1 t : PoolCore) (before after : List Fact) (n c : ℕ) (x : Connection) (xs : List PoolItem) → Fits s xs → connection_at s c ≡ Some x → nat_lt 0 (pins_at (connection_at s c)) ≡ true → s1 ≡ pinning s n x → SameHome s1 t → SameNotes s1 t → ((k : List PoolItem) → Fits s1 k → Serves s1 t n before after k)
    → Accepts s t before after n (Replicate s.pool c) Done xs (replicated c ∷ xs)
replicate-accepts s s1 t before after n c x xs z at_c some_pins s1_is home notes serves =
    let e : x.id ≡ c = pinned-at s c x at_c in
    let at_x : connection_at s x.id ≡ Some x = subst (λ d. connection_at s d ≡ Some x) (sym e) at_c in
    let outside : stays x.place ≡ true = pinned-outside s xs z.matches c x at_c (ap (λ o. nat_lt 0 (pins_at o)) (sym at_c) ∙ some_pins) in
    accepts s s1 t t before before after n (Replicate s.pool c) Done [] xs (replicated c ∷ xs)
    refl
    (sym (append-nil before)) (rw s1_is (stays-home refl refl refl refl)) (rw s1_is (subst (λ d. Fits (pinning s n x) (replicated d ∷ xs)) e (replicate-fits s xs z n x at_x outside))) serves
    (λ zs v. v)
    (λ claims own zs m. refl)
    tt
    (ap is_shut (notes.status ∙ ap (λ k. k.kept.status) s1_is))
    (λ r. ap (has r) (notes.settled ∙ ap (λ k. k.kept.settled) s1_is))
    (λ c. ap (has c) (notes.claimed ∙ ap (λ k. k.kept.claimed) s1_is))
    tt
    tt
