-- What the queries of a pool say of one another, and what they say of its items where they are no query of their own.
use Rattle.std.proofs.Common.{ℕ, ◌≡◌, ◌≤◌, true, false, ◌||◌, if◌then◌else◌, nat_lt, List, Option, Some, None, is_some, refl, sym, ◌∙◌, ap}
use Rattle.std.specs.Prelude.{unwrap_or}
use Rattle.mdb_base.specs.declared.object_id.ObjectId.{ObjectId}
use Rattle.mdb_log.specs.History.{PoolItem, given, has_asked, has_party}
use Rattle.mdb_log.specs.Connections.{created_total, has, held, holding, pending_list, pins, service_of, wire_of}
use Rattle.mdb_log.specs.Generations.{carried}
use Rattle.mdb_log.specs.State.{generation_before, generation_of, is_closed, state_of}
use Rattle.mdb_pool_rules.specs.Refusal.{is_exhausted}
use Rattle.mdb_pool.specs.declared.kept.connection.Connection.{Connection}
use Rattle.mdb_pool.specs.declared.kept.request.Request.{Request}
use Rattle.mdb_pool.specs.declared.kept.status.Status.{Status}
use Rattle.mdb_pool.specs.declared.kept.status.Status.TheVariants.{New, Ready, Paused, Closed}
use Rattle.mdb_pool.specs.Core.{PoolCore}
use Rattle.mdb_pool.specs.Kept.Values.{connection_at, given_of, held_connection, id_at, is_asked_at, is_pending_at, is_shut, pins_at, request_at, service_at, state_in}
use Rattle.mdb_pool.specs.Now.{asked_now, clears_before_now, clears_now, exhausted_now, generation_now, held_now, holds_now, is_closed_name, is_closed_now, is_held_now, is_live_now, is_open_now, is_pending_now, is_pinned_now, knows_now, name_of, pins_now, queries, service_now, state_now, wire_now}
use Rattle.mdb_pool.specs.Standing.{Fits}
use Rattle.mdb_pool.proofs.Answered.Act.{held-known, holds-is as holds-kept, live-pins, pending-is as pending-kept}
use Rattle.mdb_pool.proofs.Answered.Clear.{exhausted-is as exhausted-kept}
use Rattle.mdb_pool.proofs.Answered.Pin.{held-at}
use Rattle.mdb_pool.proofs.Answered.Take.{held-is as held-kept}
use Rattle.mdb_pool.proofs.Follows.Stale.{live-created, live-served}
use Rattle.mdb_pool.proofs.Histories.GrantsAreFresh.{pending-created, pinned-created}
use Rattle.mdb_pool.proofs.KeptInLittle.AskedOfThoseThatStay.{open-asked as open-kept}
use Rattle.mdb_pool.proofs.Told.OfItems.{held-now}

-- a pool is closed where its state has that name
pub closed-named : (s : PoolCore) → is_closed_now s ≡ is_closed_name (name_of (state_now s))
unfolding queries
closed-named s = on s.kept.status
  where
    on : (u : Status) → is_shut u ≡ is_closed_name (name_of (state_in u))
    on New = refl
    on Ready = refl
    on (Paused error) = refl
    on Closed = refl

-- whoever asked is known
pub asked-knows : (s : PoolCore) (r : ℕ) → asked_now s r ≡ true → knows_now s r ≡ true
unfolding queries
asked-knows s r e = on (request_at s r) e
  where
    on : (o : Option Request) → is_asked_at o ≡ true → is_some o ≡ true
    on None f = cc
    on (Some q) f = refl

-- whoever has an open request asked, and is known, as is whoever holds a connection
pub open-asked : (s : PoolCore) (r : ℕ) → is_open_now s r ≡ true → asked_now s r ≡ true
unfolding queries
open-asked = open-kept

pub open-knows : (s : PoolCore) (r : ℕ) → is_open_now s r ≡ true → knows_now s r ≡ true
unfolding queries
open-knows s r e = asked-knows s r (open-asked s r e)

pub holds-knows : (s : PoolCore) (r : ℕ) → holds_now s r ≡ true → knows_now s r ≡ true
unfolding queries
holds-knows = held-known

some-held : (o : Option Connection) → is_some o ≡ true → (x : Connection) × (o ≡ Some x)
some-held None e = cc
some-held (Some x) e = (x, refl)

-- whoever holds a connection holds a live one
pub holds-held : (s : PoolCore) (r : ℕ) → holds_now s r ≡ true → (c : ℕ) × (held_now s r ≡ Some c)
unfolding queries
holds-held s r e = let x = some-held (held_connection s r) e in (x.0.id, ap id_at x.1)

held-by-some : (o : Option Connection) (c : ℕ) → id_at o ≡ Some c → (x : Connection) × (o ≡ Some x) × (x.id ≡ c)
held-by-some None c e = cc
held-by-some (Some x) c e = (x, refl, let w : x.id ≡ c = cc in w)

pub held-holds : (s : PoolCore) (r c : ℕ) → held_now s r ≡ Some c → holds_now s r ≡ true
unfolding queries
held-holds s r c e = ap is_some (held-by-some (held_connection s r) c e).1

pub held-lives : (s : PoolCore) (r c : ℕ) → held_now s r ≡ Some c → is_live_now s c ≡ true
unfolding queries
held-lives s r c e =
    let x = held-by-some (held_connection s r) c e in
    ap (λ n. is_some (connection_at s n)) (sym x.2) ∙ ap is_some (held-at s r x.0 x.1).1

pub pending-lives : (s : PoolCore) (c : ℕ) → is_pending_now s c ≡ true → is_live_now s c ≡ true
unfolding queries
pending-lives s c e = on (connection_at s c) e
  where
    on : (o : Option Connection) → is_pending_at o ≡ true → is_some o ≡ true
    on None f = cc
    on (Some x) f = refl

-- the generation that a live connection carries
pub generation-is : (s : PoolCore) (c : ℕ) → is_live_now s c ≡ true → generation_now s c ≡ Some (carried s.options.load_balanced (clears_before_now s c) (service_now s c))
unfolding queries
generation-is s c e = let x = some-held (connection_at s c) e in rw x.1 refl

module _ (s : PoolCore) (xs : List PoolItem) (z : Fits s xs) where
  pub party-is : (r : ℕ) → has_party xs r ≡ knows_now s r
  unfolding queries
  party-is r = z.asked r

  pub asked-is : (r : ℕ) → has_asked xs r ≡ asked_now s r
  unfolding queries
  asked-is r = z.matches.requests.asks r

  pub holding-is : (r : ℕ) → holding xs r ≡ held_now s r
  unfolding queries
  holding-is r = sym (held-now s xs z r)

  pub holds-is : (r : ℕ) → is_some (holding xs r) ≡ holds_now s r
  unfolding queries
  holds-is r = holds-kept s xs z r

  pub pending-is : (c : ℕ) → has c (pending_list xs) ≡ is_pending_now s c
  unfolding queries
  pending-is c = pending-kept s xs z c

  pub held-is : (c : ℕ) → nat_lt 0 (held xs c) ≡ is_held_now s c
  unfolding queries
  held-is c = held-kept s xs z c

  pub exhausted-is : (service : Option ObjectId) → is_exhausted s.options xs service ≡ exhausted_now s service
  unfolding queries
  exhausted-is service = exhausted-kept s xs z service

  -- a party that is not known was given nothing
  pub given-none : (r : ℕ) → knows_now s r ≡ false → is_some (given xs r) ≡ false
  unfolding queries
  given-none r e = ap is_some (z.matches.requests.given r) ∙ on (request_at s r) e
    where
      on : (o : Option Request) → is_some o ≡ false → is_some (given_of o) ≡ false
      on None f = refl
      on (Some q) f = cc

  -- a closed pool is closed by its items
  pub closed-is : state_of s.options xs ≡ is_closed → is_closed_now s ≡ true
  unfolding queries
  closed-is e = on s.kept.status (sym z.matches.clearing.status ∙ e)
    where
      on : (u : Status) → state_in u ≡ is_closed → is_shut u ≡ true
      on New f = cc
      on Ready f = cc
      on (Paused error) f = cc
      on Closed f = refl

  pub pins-are : (c : ℕ) → pins xs c ≡ pins_now s c
  unfolding queries
  pins-are c = z.matches.pinning.pins c

  -- the pins of the connection that a party holds
  pub held-pins : (r : ℕ) → holds_now s r ≡ true → nat_lt 0 (pins xs (unwrap_or (holding xs r) 0)) ≡ is_pinned_now s r
  unfolding queries
  held-pins r e =
      let x = some-held (held_connection s r) e in
      let holds : holding xs r ≡ Some x.0.id = holding-is r ∙ ap id_at x.1 in
      ap (λ o. nat_lt 0 (pins xs (unwrap_or o 0))) holds ∙ (ap (nat_lt 0) (live-pins s xs z.matches x.0.id x.0 (held-at s r x.0 x.1).1) ∙ ap (λ o. nat_lt 0 (pins_at o)) (sym x.1))

  -- what establishing a live connection told
  pub wire-is : (c : ℕ) → is_live_now s c ≡ true → wire_of xs c ≡ wire_now s c
  unfolding queries
  wire-is c e = sym (ap (λ b. if b || nat_lt s.kept.created c then wire_of xs c else None) e) ∙ z.matches.told.wire c

  pub service-is : (c : ℕ) → is_live_now s c ≡ true → service_of xs c ≡ service_now s c
  unfolding queries
  service-is c e = let x = some-held (connection_at s c) e in live-served s xs z.matches c x.0 x.1 ∙ ap service_at (sym x.1)

  -- how often the pool was cleared, and how often before a live connection was created
  pub clears-are : (t : Option ObjectId) → generation_of xs t ≡ clears_now s t
  unfolding queries
  clears-are t = z.matches.clearing.clears t

  pub before-is : (c : ℕ) → is_live_now s c ≡ true → (t : Option ObjectId) → generation_before xs c t ≡ clears_before_now s c t
  unfolding queries
  before-is c e t = let x = some-held (connection_at s c) e in z.matches.clearing.before c t (live-created s xs z.matches c x.0 x.1)

  -- what is pending, or has a pin, was created
  pub pending-made : (c : ℕ) → is_pending_now s c ≡ true → c ≤ created_total xs
  unfolding queries
  pending-made c e = pending-created s xs z c (pending-is c ∙ e)

  pub pinned-made : (c : ℕ) → nat_lt 0 (pins_now s c) ≡ true → c ≤ created_total xs
  unfolding queries
  pinned-made c e = pinned-created s xs z c (ap (nat_lt 0) (pins-are c) ∙ e)
