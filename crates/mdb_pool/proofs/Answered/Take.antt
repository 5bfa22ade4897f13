-- What a take does is the answer to its step.
use Rattle.std.proofs.Common.{ℕ, ◌≡◌, true, false, List, [], ◌∷◌, length, Option, Some, None, is_some, refl, sym, ◌∙◌, ap, subst, if◌then◌else◌, append-nil, nat_lt}
use Rattle.mdb_events.specs.declared.fact.Fact.{Fact}
use Rattle.mdb_log.specs.declared.step.Act.TheVariants.{Take}
use Rattle.mdb_log.specs.declared.reply.Reply.TheVariants.{Pooled}
use Rattle.mdb_pool.specs.declared.kept.connection.Connection.{Connection}
use Rattle.mdb_pool.specs.declared.kept.connection.Place.{Place}
use Rattle.mdb_pool.specs.declared.kept.connection.Place.TheVariants.{Pending, Available, Held, Pinned}
use Rattle.mdb_pool.specs.Core.{PoolCore}
use Rattle.mdb_log.specs.History.{PoolItem, taken}
use Rattle.mdb_log.specs.Connections.{has, held}
use Rattle.mdb_pool.specs.Standing.{Fits, Accepts, SameHome}
use Rattle.mdb_pool.specs.Acts.Doing.{Serves, SameNotes}
use Rattle.mdb_pool.specs.Kept.Values.{connection_at, request_at, is_shut, pins_at, is_held_at, is_pending_at, holder_at, one_party}
use Rattle.mdb_pool.specs.Kept.Places.{is_available, is_held, is_at_pin, stays}
use Rattle.mdb_pool.specs.Acts.Changes.{taking}
use Rattle.mdb_pool.proofs.Answered.Act.{accepts, pending-is, no-some}
use Rattle.mdb_pool.proofs.Answered.Pin.{pinned-at, pinned-outside}
use Rattle.mdb_pool.proofs.Follows.PinsFit.{take-fits}
use Rattle.mdb_pool.proofs.SameAnswers.StaysHome.{stays-home}

-- a pinned connection that nobody has is at its pin
pub at-pin : (p : Place) → stays p ≡ true → is_held p ≡ false → p ≡ Pinned
at-pin Pending e f = cc
at-pin Available e f = cc
at-pin Held e f = cc
at-pin Pinned e f = refl

-- whether a party has the connection
pub held-is : (s : PoolCore) (xs : List PoolItem) → Fits s xs → (c : ℕ) → nat_lt 0 (held xs c) ≡ is_held_at (connection_at s c)
held-is s xs z c = ap (nat_lt 0) count ∙ on (connection_at s c) refl
  where
    count : held xs c ≡ (if is_pending_at (connection_at s c) then 0 else length (one_party (holder_at (connection_at s c))))
    count = rw (pending-is s xs z c, z.matches.connections.parties c) refl

    at_held : (x : Connection) (o : Option ℕ) → connection_at s c ≡ Some x → is_held x.place ≡ true → x.holder ≡ o → nat_lt 0 (length (one_party x.holder)) ≡ true
    at_held x None e f g = let k : is_some x.holder ≡ true = z.matches.links.busy c x e f in let w : is_some x.holder ≡ false = ap is_some g in cc
    at_held x (Some r) e f g = rw g refl

    at_place : (x : Connection) (p : Place) → connection_at s c ≡ Some x → x.place ≡ p → nat_lt 0 (if is_pending_at (Some x) then 0 else length (one_party (holder_at (Some x)))) ≡ is_held_at (Some x)
    at_place x Pending e f = rw f refl
    at_place x Available e f = rw (f, z.matches.links.free c x e (ap is_available f)) refl
    at_place x Held e f = rw f (at_held x x.holder e (ap is_held f) refl)
    at_place x Pinned e f = rw (f, z.matches.pinning.rests c x e (ap is_at_pin f)) refl

    on : (o : Option Connection) → connection_at s c ≡ o → nat_lt 0 (if is_pending_at o then 0 else length (one_party (holder_at o))) ≡ is_held_at o
    on None e = refl
    on (Some x) e = at_place x x.place e refl

pub take-accepts : (s s1 t : PoolCore) (before after : List Fact) (n r c : ℕ) (x : Connection) (xs : List PoolItem) → Fits s xs → is_some (request_at s r) ≡ false → connection_at s c ≡ Some x → nat_lt 0 (pins_at (connection_at s c)) ≡ true → is_held_at (connection_at s c) ≡ false → s1 ≡ taking s n r x → SameHome s1 t → SameNotes s1 t
    → ((k : List PoolItem) → Fits s1 k → Serves s1 t n before after k)
    → Accepts s t before after n (Take r s.pool c) (Pooled t.pool c) xs (taken r c ∷ xs)
take-accepts s s1 t before after n r c x xs z absent at_c some_pins alone s1_is home notes serves =
    let e : x.id ≡ c = pinned-at s c x at_c in
    let at_x : connection_at s x.id ≡ Some x = subst (λ d. connection_at s d ≡ Some x) (sym e) at_c in
    let outside : stays x.place ≡ true = pinned-outside s xs z.matches c x at_c (ap (λ o. nat_lt 0 (pins_at o)) (sym at_c) ∙ some_pins) in
    let place : x.place ≡ Pinned = at-pin x.place outside (ap is_held_at (sym at_c) ∙ alone) in
    let same : t.pool ≡ s.pool = home.pool ∙ ap (λ k. k.pool) s1_is in
    accepts s s1 t t before before after n (Take r s.pool c) (Pooled t.pool c) [] xs (taken r c ∷ xs)
    refl
    (sym (append-nil before)) (rw s1_is (stays-home refl refl refl refl)) (rw s1_is (subst (λ d. Fits (taking s n r x) (taken r d ∷ xs)) e (take-fits s xs z n x r at_x place (no-some (request_at s r) absent)))) serves
    (λ zs v. v)
    (λ claims own zs m. ap (λ p. Pooled p c) same)
    tt
    (ap is_shut (notes.status ∙ ap (λ k. k.kept.status) s1_is))
    (λ r. ap (has r) (notes.settled ∙ ap (λ k. k.kept.settled) s1_is))
    (λ c. ap (has c) (notes.claimed ∙ ap (λ k. k.kept.claimed) s1_is))
    tt
    tt
