-- What the state finds first or last.
use Rattle.std.proofs.Common.{ℕ, ◌≡◌, Bool, true, false, not, ◌&&◌, List, [], ◌∷◌, find, Option, Some, None, is_some, ◌⊎◌, inl, inr, refl, sym, ◌∙◌, ap, subst, arith}
use Rattle.mdb_pool.specs.declared.kept.connection.Connection.{Connection}
use Rattle.mdb_pool.specs.declared.kept.connection.Place.{Place}
use Rattle.mdb_pool.specs.declared.kept.connection.Place.TheVariants.{Pending, Available, Held, Pinned}
use Rattle.mdb_pool.specs.declared.kept.request.Request.{Request}
use Rattle.mdb_pool.specs.declared.kept.request.Phase.{Phase}
use Rattle.mdb_pool.specs.declared.kept.request.Phase.TheVariants.{Queued, Given, Over, Ended as EndedPhase}
use Rattle.mdb_pool.specs.Core.{PoolCore}
use Rattle.mdb_log.specs.History.{PoolItem}
use Rattle.mdb_pool_rules.specs.Serving.{last_of}
use Rattle.mdb_pool.specs.Kept.Matching.{Matches}
use Rattle.mdb_pool.specs.Kept.Values.{connection_at, request_at, ids_where, numbers_where, first_queued, candidate_now, blocked_now, first_perished, perished_now, last_available, last_from, held_given, held_connection, if_held, given_in, given_of, if_pending, pending_connection, holder_at}
use Rattle.mdb_pool.specs.Kept.Places.{is_pending, is_available, is_held, is_at_pin, is_queued}
use Rattle.mdb_log.proofs.Bools.{both-left, both-right}
use Rattle.mdb_pool_rules.proofs.Listed.Values.{In, here, there, member-at, one_if-le, find-member, entry_at-key}

pub is-queued : (p : Phase) → is_queued p ≡ true → p ≡ Queued
is-queued Queued e = refl
is-queued (Given c) e = cc
is-queued Over e = cc
is-queued (EndedPhase end) e = cc

pub is-available : (p : Place) → is_available p ≡ true → p ≡ Available
is-available Pending e = cc
is-available Available e = refl
is-available Held e = cc
is-available Pinned e = cc

-- the last available one is a member
pub last-member : (before : Option Connection) (x : Connection) (xs : List Connection) → last_from before xs ≡ Some x → (before ≡ Some x) ⊎ (In x xs × (is_available x.place ≡ true))
last-member before x [] e = inl e
last-member before x (y ∷ ys) e = on (is_available y.place) refl (λ b. last-member b x ys)
  where
    deeper : (b : Option Connection) → (b ≡ Some x) ⊎ (In x ys × (is_available x.place ≡ true)) → (b ≡ Some x → (before ≡ Some x) ⊎ (In x (y ∷ ys) × (is_available x.place ≡ true))) → (before ≡ Some x) ⊎ (In x (y ∷ ys) × (is_available x.place ≡ true))
    deeper b (inl f) g = g f
    deeper b (inr i) g = inr (there i.0, i.1)

    on : (b : Bool) → is_available y.place ≡ b → ((c : Option Connection) → last_from c ys ≡ Some x → (c ≡ Some x) ⊎ (In x ys × (is_available x.place ≡ true))) → (before ≡ Some x) ⊎ (In x (y ∷ ys) × (is_available x.place ≡ true))
    on true f rest =
        let g : last_from (Some y) ys ≡ Some x = grind arith in
        deeper (Some y) (rest (Some y) g) (λ k. let w : y ≡ x = cc in subst (λ z. (before ≡ Some x) ⊎ (In x (z ∷ ys) × (is_available x.place ≡ true))) (sym w) (inr (here, rw (← w) f)))
    on false f rest =
        let g : last_from before ys ≡ Some x = grind arith in
        deeper before (rest before g) (λ k. inl k)

-- it is the last of the numbers of the available ones
abbrev pub id_or : Option Connection → Option ℕ → Option ℕ
id_or None n = n
id_or (Some x) n = Some x.id

abbrev pub or_else : Option ℕ → Option ℕ → Option ℕ
or_else None n = n
or_else (Some c) n = Some c

pub last-id : (before : Option Connection) (xs : List Connection) → id_or (last_from before xs) None ≡ or_else (last_of (ids_where is_available xs)) (id_or before None)
last-id before [] = refl
last-id before (x ∷ xs) = on (is_available x.place) refl (λ b. last-id b xs)
  where
    on : (b : Bool) → is_available x.place ≡ b → ((c : Option Connection) → id_or (last_from c xs) None ≡ or_else (last_of (ids_where is_available xs)) (id_or c None)) → id_or (last_from before (x ∷ xs)) None ≡ or_else (last_of (ids_where is_available (x ∷ xs))) (id_or before None)
    on true f rest = grind (arith, rest (Some x))
    on false f rest = grind (arith, rest before)

module _ (s : PoolCore) (xs : List PoolItem) (m : Matches s xs) where
  pub queued-at : (q : Request) → first_queued s ≡ Some q → (request_at s q.number ≡ Some q) × (q.phase ≡ Queued)
  queued-at q e =
      let i : In q s.kept.requests × (is_queued q.phase ≡ true) = find-member (λ (r : Request). is_queued r.phase) q s.kept.requests e in
      (member-at (λ (r : Request). r.number) q s.kept.requests i.0 (rw (m.requests.single_request q.number) (one_if-le (is_some (request_at s q.number)))), is-queued q.phase i.1)

  pub candidate-at : (q : Request) → candidate_now s ≡ Some q → (request_at s q.number ≡ Some q) × (q.phase ≡ Queued)
  candidate-at q e =
      let i : In q s.kept.requests × ((is_queued q.phase && not (q.warm && blocked_now s)) ≡ true) = find-member (λ (r : Request). is_queued r.phase && not (r.warm && blocked_now s)) q s.kept.requests e in
      (member-at (λ (r : Request). r.number) q s.kept.requests i.0 (rw (m.requests.single_request q.number) (one_if-le (is_some (request_at s q.number)))), is-queued q.phase (both-left (is_queued q.phase) (not (q.warm && blocked_now s)) i.1))

  pub perished-at : (n : ℕ) (x : Connection) → first_perished s n ≡ Some x → (connection_at s x.id ≡ Some x) × (x.place ≡ Available) × (is_some (perished_now s n x) ≡ true)
  perished-at n x e =
      let i : In x s.kept.connections × ((is_available x.place && is_some (perished_now s n x)) ≡ true) = find-member (λ (y : Connection). is_available y.place && is_some (perished_now s n y)) x s.kept.connections e in
      (member-at (λ (y : Connection). y.id) x s.kept.connections i.0 (rw (m.counts.single x.id) (one_if-le (is_some (connection_at s x.id)))), is-available x.place (both-left (is_available x.place) (is_some (perished_now s n x)) i.1), both-right (is_available x.place) (is_some (perished_now s n x)) i.1)

  pub available-at : (x : Connection) → last_available s ≡ Some x → (connection_at s x.id ≡ Some x) × (x.place ≡ Available)
  available-at x e = on (last-member None x s.kept.connections e)
    where
      on : (◌≡◌ {A = Option Connection} None (Some x)) ⊎ (In x s.kept.connections × (is_available x.place ≡ true)) → (connection_at s x.id ≡ Some x) × (x.place ≡ Available)
      on (inl f) = cc
      on (inr i) = (member-at (λ (y : Connection). y.id) x s.kept.connections i.0 (rw (m.counts.single x.id) (one_if-le (is_some (connection_at s x.id)))), is-available x.place i.1)

-- the first queued one is the first of the queue
pub queue-head : (q : Request) (qs : List Request) → find (λ r. is_queued r.phase) qs ≡ Some q → (rest : List ℕ) × (numbers_where is_queued qs ≡ q.number ∷ rest)
queue-head q [] e = cc
queue-head q (r ∷ qs) e = on (is_queued r.phase) refl (queue-head q qs)
  where
    on : (b : Bool) → is_queued r.phase ≡ b → (find (λ k. is_queued k.phase) qs ≡ Some q → (rest : List ℕ) × (numbers_where is_queued qs ≡ q.number ∷ rest)) → (rest : List ℕ) × (numbers_where is_queued (r ∷ qs) ≡ q.number ∷ rest)
    on true f deeper = (numbers_where is_queued qs, let g : r ≡ q = grind arith in grind arith)
    on false f deeper = let g : find (λ k. is_queued k.phase) qs ≡ Some q = grind arith in ((deeper g).0, let k : numbers_where is_queued qs ≡ q.number ∷ (deeper g).0 = (deeper g).1 in grind arith)

pub queue-empty : (qs : List Request) → find (λ r. is_queued r.phase) qs ≡ None → numbers_where is_queued qs ≡ []
queue-empty [] e = refl
queue-empty (r ∷ qs) e = grind (arith, queue-empty qs)

pub is-pending : (p : Place) → is_pending p ≡ true → p ≡ Pending
is-pending Pending e = refl
is-pending Available e = cc
is-pending Held e = cc
is-pending Pinned e = cc

pub is-held : (p : Place) → is_held p ≡ true → p ≡ Held
is-held Pending e = cc
is-held Available e = cc
is-held Held e = refl
is-held Pinned e = cc

pub is-pinned : (p : Place) → is_at_pin p ≡ true → p ≡ Pinned
is-pinned Pending e = cc
is-pinned Available e = cc
is-pinned Held e = cc
is-pinned Pinned e = refl

-- what the request of a party was given, where the party holds it
pub held-by : (s : PoolCore) (r : ℕ) (q : Request) (x : Connection) → Some q ≡ request_at s r → Some x ≡ held_given s (given_in q.phase) → held_connection s r ≡ Some x
held-by s r q x e f = ap (λ o. held_given s (given_of o)) (sym e) ∙ sym f

-- who holds a connection has a request that was given it
pub record Holder (s : PoolCore) (r : ℕ) (x : Connection) (q : Request) : Type 0 where
  pub phase : q.phase ≡ Given x.id
  pub at_x : connection_at s x.id ≡ Some x
  pub place : x.place ≡ Held

pub holder : (s : PoolCore) (r : ℕ) (x : Connection) (q : Request) → held_connection s r ≡ Some x → request_at s r ≡ Some q → Holder s r x q
holder s r x q e f = on q.phase refl
  where
    at_held : (c : ℕ) (y : Connection) (b : Bool) → connection_at s c ≡ Some y → is_held y.place ≡ b → q.phase ≡ Given c → if_held (Some y) ≡ Some x → Holder s r x q
    at_held c y true g k p t =
        let w : y ≡ x = grind arith in
        let i : y.id ≡ c = entry_at-key (λ (z : Connection). z.id) c y s.kept.connections g in
        record {
          phase = p ∙ ap Given (sym i ∙ ap (λ z. z.id) w);
          at_x = subst (λ d. connection_at s d ≡ Some x) (sym i ∙ ap (λ z. z.id) w) (g ∙ ap Some w);
          place = ap (λ z. z.place) (sym w) ∙ is-held y.place k;
        }
    at_held c y false g k p t = let w : ◌≡◌ {A = Option Connection} None (Some x) = grind arith in cc

    at_connection : (c : ℕ) (o : Option Connection) → connection_at s c ≡ o → q.phase ≡ Given c → if_held o ≡ Some x → Holder s r x q
    at_connection c None g p t = cc
    at_connection c (Some y) g p t = at_held c y (is_held y.place) g refl p t

    on : (p : Phase) → q.phase ≡ p → Holder s r x q
    on Queued p = let t : held_connection s r ≡ None = rw (f, p) refl in let w : ◌≡◌ {A = Option Connection} None (Some x) = sym t ∙ e in cc
    on (Given c) p = let t : held_connection s r ≡ if_held (connection_at s c) = rw (f, p) refl in at_connection c (connection_at s c) refl p (sym t ∙ e)
    on Over p = let t : held_connection s r ≡ None = rw (f, p) refl in let w : ◌≡◌ {A = Option Connection} None (Some x) = sym t ∙ e in cc
    on (EndedPhase end) p = let t : held_connection s r ≡ None = rw (f, p) refl in let w : ◌≡◌ {A = Option Connection} None (Some x) = sym t ∙ e in cc

-- who waits for a pending connection has a request that was given it
pub pender : (s : PoolCore) (r : ℕ) (x : Connection) (q : Request) → pending_connection s r ≡ Some x → request_at s r ≡ Some q → (q.phase ≡ Given x.id) × (connection_at s x.id ≡ Some x) × (x.place ≡ Pending)
pender s r x q e f = on q.phase refl
  where
    at_pending : (c : ℕ) (y : Connection) (b : Bool) → connection_at s c ≡ Some y → is_pending y.place ≡ b → q.phase ≡ Given c → if_pending (Some y) ≡ Some x → (q.phase ≡ Given x.id) × (connection_at s x.id ≡ Some x) × (x.place ≡ Pending)
    at_pending c y true g k p t =
        let w : y ≡ x = grind arith in
        let i : y.id ≡ c = entry_at-key (λ (z : Connection). z.id) c y s.kept.connections g in
        (p ∙ ap Given (sym i ∙ ap (λ z. z.id) w), subst (λ d. connection_at s d ≡ Some x) (sym i ∙ ap (λ z. z.id) w) (g ∙ ap Some w), ap (λ z. z.place) (sym w) ∙ is-pending y.place k)
    at_pending c y false g k p t = let w : ◌≡◌ {A = Option Connection} None (Some x) = grind arith in cc

    at_connection : (c : ℕ) (o : Option Connection) → connection_at s c ≡ o → q.phase ≡ Given c → if_pending o ≡ Some x → (q.phase ≡ Given x.id) × (connection_at s x.id ≡ Some x) × (x.place ≡ Pending)
    at_connection c None g p t = cc
    at_connection c (Some y) g p t = at_pending c y (is_pending y.place) g refl p t

    on : (p : Phase) → q.phase ≡ p → (q.phase ≡ Given x.id) × (connection_at s x.id ≡ Some x) × (x.place ≡ Pending)
    on Queued p = let t : pending_connection s r ≡ None = rw (f, p) refl in let w : ◌≡◌ {A = Option Connection} None (Some x) = sym t ∙ e in cc
    on (Given c) p = let t : pending_connection s r ≡ if_pending (connection_at s c) = rw (f, p) refl in at_connection c (connection_at s c) refl p (sym t ∙ e)
    on Over p = let t : pending_connection s r ≡ None = rw (f, p) refl in let w : ◌≡◌ {A = Option Connection} None (Some x) = sym t ∙ e in cc
    on (EndedPhase end) p = let t : pending_connection s r ≡ None = rw (f, p) refl in let w : ◌≡◌ {A = Option Connection} None (Some x) = sym t ∙ e in cc

-- who neither holds a connection nor waits for one was given none
pub not-given : (s : PoolCore) (xs : List PoolItem) → Matches s xs → (r : ℕ) (q : Request) → request_at s r ≡ Some q → held_connection s r ≡ None → pending_connection s r ≡ None → given_in q.phase ≡ None
not-given s xs m r q f h p = on q.phase refl
  where
    at_place : (c : ℕ) (x : Connection) (l : Place) → connection_at s c ≡ Some x → x.place ≡ l → q.phase ≡ Given c → holder_at (connection_at s c) ≡ Some r → given_in q.phase ≡ None
    at_place c x Pending g l e t = let k : pending_connection s r ≡ Some x = rw (f, e, g, l) refl in cc
    at_place c x Available g l e t = let k : holder_at (Some x) ≡ None = m.links.free c x g (ap is_available l) in let v : holder_at (Some x) ≡ Some r = ap holder_at (sym g) ∙ t in cc
    at_place c x Held g l e t = let k : held_connection s r ≡ Some x = rw (f, e, g, l) refl in cc
    at_place c x Pinned g l e t = let k : holder_at (Some x) ≡ None = m.pinning.rests c x g (ap is_at_pin l) in let v : holder_at (Some x) ≡ Some r = ap holder_at (sym g) ∙ t in cc

    at_connection : (c : ℕ) (o : Option Connection) → connection_at s c ≡ o → q.phase ≡ Given c → holder_at (connection_at s c) ≡ Some r → given_in q.phase ≡ None
    at_connection c None g e t = let v : holder_at None ≡ Some r = ap holder_at (sym g) ∙ t in cc
    at_connection c (Some x) g e t = at_place c x x.place g refl e t

    on : (k : Phase) → q.phase ≡ k → given_in q.phase ≡ None
    on Queued e = ap given_in e
    on (Given c) e = at_connection c (connection_at s c) refl e (m.links.taken r c (ap given_of f ∙ ap given_in e))
    on Over e = ap given_in e
    on (EndedPhase end) e = ap given_in e

-- a connection that is found is the one of its id
pub found-at : (s : PoolCore) (c : ℕ) (x : Connection) → connection_at s c ≡ Some x → connection_at s x.id ≡ Some x
found-at s c x e = subst (λ d. connection_at s d ≡ Some x) (sym (entry_at-key (λ (z : Connection). z.id) c x s.kept.connections e)) e

pub pending-at : (s : PoolCore) (r : ℕ) (x : Connection) → pending_connection s r ≡ Some x → connection_at s x.id ≡ Some x
pending-at s r x e = on (given_of (request_at s r)) refl
  where
    at_pending : (c : ℕ) (y : Connection) (b : Bool) → connection_at s c ≡ Some y → is_pending y.place ≡ b → if_pending (Some y) ≡ Some x → connection_at s x.id ≡ Some x
    at_pending c y true g k t =
        let w : if_pending (Some y) ≡ Some y = rw k refl in
        let v : Some y ≡ Some x = sym w ∙ t in
        let u : y ≡ x = cc in
        found-at s c x (g ∙ ap Some u)
    at_pending c y false g k t =
        let w : if_pending (Some y) ≡ None = rw k refl in
        let v : ◌≡◌ {A = Option Connection} None (Some x) = sym w ∙ t in cc

    at_connection : (c : ℕ) (o : Option Connection) → connection_at s c ≡ o → if_pending o ≡ Some x → connection_at s x.id ≡ Some x
    at_connection c None g t = let v : ◌≡◌ {A = Option Connection} None (Some x) = t in cc
    at_connection c (Some y) g t = at_pending c y (is_pending y.place) g refl t

    on : (o : Option ℕ) → given_of (request_at s r) ≡ o → connection_at s x.id ≡ Some x
    on None w = let t : pending_connection s r ≡ None = rw w refl in let v : ◌≡◌ {A = Option Connection} None (Some x) = sym t ∙ e in cc
    on (Some c) w = let t : pending_connection s r ≡ if_pending (connection_at s c) = rw w refl in at_connection c (connection_at s c) refl (sym t ∙ e)
