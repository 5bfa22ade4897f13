-- What a pool says of itself now is what its items say, and where those don't tell it, its history.
use Rattle.std.proofs.Common.{ℕ, ◌≡◌, Bool, true, false, List, [], ◌∷◌, Option, Some, None, is_some, refl, sym, ◌∙◌, ap, if◌then◌else◌, nat_lt, not, ◌&&◌, ◌==◌, ◌+◌, arith}
use Rattle.mdb_base.specs.declared.object_id.ObjectId.{ObjectId}
use Rattle.mdb_pool.specs.declared.kept.connection.Connection.{Connection}
use Rattle.mdb_pool.specs.Core.{PoolCore}
use Rattle.std.specs.List.{list_any}
use Rattle.std.specs.Prelude.{find}
use Rattle.mdb_log.specs.History.{Item, PoolItem, has_asked, of_pool}
use Rattle.mdb_log.specs.Requests.{is_claimed, is_open}
use Rattle.mdb_log.specs.Connections.{has, is_live, pending_list, held, holding, known_service, pins, timeouts_since, wire_of}
use Rattle.mdb_log.specs.State.{generation_of, generation_before, is_interrupted, state_of}
use Rattle.mdb_pool.specs.Kept.Values.{ids_where, connection_at, held_connection, id_at, clears_before, generation_at, interrupted_at, timeouts_in, is_held_at, pins_at, wire_at}
use Rattle.mdb_pool.specs.Now.{claimed_now, clears_before_now, clears_now, generation_now, has_job_now, held_now, holds_now, is_held_now, is_live_now, is_open_now, is_pending_now, pins_now, queries, state_now, wire_now}
use Rattle.mdb_pool.specs.Kept.Places.{is_held, is_pending}
use Rattle.mdb_log.specs.Generations.{carried}
use Rattle.mdb_log.specs.declared.generation.ConnectionGeneration.TheVariants.{Normal, LoadBalanced}
use Rattle.mdb_pool.proofs.Answered.Take.{held-is}
use Rattle.std.proofs.lemmas.Bool.Decides.{nat_tests}
use Rattle.std.proofs.Math.Bool.{and-false}
use Rattle.mdb_pool.specs.Standing.{Fits, StandsFor, StandsIn}
use Rattle.mdb_pool.proofs.Answered.Act.{holding-is, holds-is, pending-is, live-service}
use Rattle.mdb_pool.proofs.Follows.Fits.{asked-known}
use Rattle.mdb_pool.proofs.Listed.FirstOrLast.{id_or}
use Rattle.mdb_pool.proofs.Follows.Stale.{live-created}

module _ (s : PoolCore) (xs : List PoolItem) (z : Fits s xs) where
  pub state-now : state_now s ≡ state_of s.options xs
  unfolding queries
  state-now = sym z.matches.clearing.status

  pub generation-now : (t : Option ObjectId) → clears_now s t ≡ generation_of xs t
  unfolding queries
  generation-now t = sym (z.matches.clearing.clears t)

  pub live-is : (c : ℕ) → is_live xs c ≡ is_live_now s c
  unfolding queries
  live-is c = rw (z.matches.connections.live c) (on (is_some (connection_at s c)))
    where
      on : (b : Bool) → nat_lt 0 (if b then 1 else 0) ≡ b
      on true = refl
      on false = refl

  pub wire-now : (c : ℕ) → wire_now s c ≡ (if is_live xs c then wire_of xs c else None)
  unfolding queries
  wire-now c = rw (live-is c) (on (connection_at s c) refl)
    where
      on : (o : Option Connection) → connection_at s c ≡ o → wire_at (connection_at s c) ≡ (if is_some (connection_at s c) then wire_of xs c else None)
      on None e = rw e refl
      on (Some x) e = sym (z.matches.told.wire c) ∙ rw e refl

  pub before-now : (c : ℕ) (t : Option ObjectId) → (if is_live_now s c then Some (clears_before_now s c t) else None) ≡ (if is_live xs c then Some (generation_before xs c t) else None)
  unfolding queries
  before-now c t = rw (live-is c) (on (connection_at s c) refl)
    where
      on : (o : Option Connection) → connection_at s c ≡ o → (if is_live_now s c then Some (clears_before_now s c t) else None) ≡ (if is_live_now s c then Some (generation_before xs c t) else None)
      on None e = rw e refl
      on (Some x) e = rw e (ap Some (sym (z.matches.clearing.before c t (live-created s xs z.matches c x e))))

  pub held-now : (r : ℕ) → held_now s r ≡ holding xs r
  unfolding queries
  held-now r = on (held_connection s r) ∙ sym (holding-is s xs z r)
    where
      on : (o : Option Connection) → id_at o ≡ id_or o None
      on None = refl
      on (Some x) = refl

  pub holds-now : (r : ℕ) → holds_now s r ≡ is_some (holding xs r)
  unfolding queries
  holds-now r = sym (holds-is s xs z r)

  pub pins-now : (c : ℕ) → nat_lt 0 (pins_now s c) ≡ nat_lt 0 (pins xs c)
  unfolding queries
  pins-now c = ap (nat_lt 0) (sym (z.matches.pinning.pins c))

  pub in-use-now : (c : ℕ) → is_held_now s c ≡ nat_lt 0 (held xs c)
  unfolding queries
  in-use-now c = sym (held-is s xs z c)

  pub pending-now : (c : ℕ) → is_pending_now s c ≡ has c (pending_list xs)
  unfolding queries
  pending-now c = sym (pending-is s xs z c)

  -- the generation that a connection carries
  carried-same : (c : ℕ) (x : Connection) → connection_at s c ≡ Some x → (b : Bool) (o : Option ObjectId) → carried b (λ t. clears_before c t s.kept.clears) o ≡ carried b (generation_before xs c) o
  carried-same c x e false o = ap Normal (sym (z.matches.clearing.before c None (live-created s xs z.matches c x e)))
  carried-same c x e true None = refl
  carried-same c x e true (Some t) = ap (λ n. LoadBalanced (Some (record { generation = n; service_id = t }))) (sym (z.matches.clearing.before c (Some t) (live-created s xs z.matches c x e)))

  pub carried-now : (c : ℕ) → generation_now s c ≡ (if is_live xs c then Some (carried s.options.load_balanced (generation_before xs c) (known_service xs c)) else None)
  unfolding queries
  carried-now c = rw (live-is c) (on (connection_at s c) refl)
    where
      on : (o : Option Connection) → connection_at s c ≡ o → generation_at s c (connection_at s c) ≡ (if is_some (connection_at s c) then Some (carried s.options.load_balanced (generation_before xs c) (known_service xs c)) else None)
      on None e = rw e refl
      on (Some x) e = rw (e, live-service s xs z.matches c x e) (ap Some (carried-same c x e s.options.load_balanced x.service))

  -- whether a connection is interrupted
  since-now : (k : ℕ) (x : Connection) → k + x.timeouts ≡ timeouts_in s.kept.clears → nat_lt x.timeouts (timeouts_in s.kept.clears) ≡ nat_lt 0 k
  since-now k x e = grind (arith, nat_tests)

  pub interrupted-now : (c : ℕ) → interrupted_at s (connection_at s c) ≡ is_interrupted s.options xs c
  interrupted-now c = sym (rw (held-is s xs z c, z.matches.pinning.pins c) (on (connection_at s c) refl))
    where
      at_held : (x : Connection) (b : Bool) → connection_at s c ≡ Some x → is_held x.place ≡ b → not s.options.load_balanced && (b && ((x.pins == 0) && nat_lt 0 (timeouts_since xs c))) ≡ not s.options.load_balanced && (b && ((x.pins == 0) && nat_lt x.timeouts (timeouts_in s.kept.clears)))
      at_held x false e f = refl
      at_held x true e f = rw (since-now (timeouts_since xs c) x (z.matches.uses.calm c x e (z.matches.links.busy c x e f))) refl

      on : (o : Option Connection) → connection_at s c ≡ o → not s.options.load_balanced && (is_held_at o && ((pins_at o == 0) && nat_lt 0 (timeouts_since xs c))) ≡ interrupted_at s o
      on None e = and-false (not s.options.load_balanced)
      on (Some x) e = at_held x (is_held x.place) e refl

-- Some pending connection is not claimed.
module _ (s : PoolCore) (xs : List PoolItem) (z : Fits s xs) (claimed : ℕ → Bool) (claims : (c : ℕ) → claimed c ≡ claimed_now s c) where
  unclaimed-in : (cs : List Connection) → is_some (find (λ x. is_pending x.place && not (has x.id s.kept.claimed)) cs) ≡ list_any (λ c. not (claimed c)) (ids_where is_pending cs)
  unfolding queries
  unclaimed-in [] = refl
  unclaimed-in (x ∷ cs) = on (is_pending x.place) (has x.id s.kept.claimed) refl refl (unclaimed-in cs)
    where
      on : (b k : Bool) → is_pending x.place ≡ b → has x.id s.kept.claimed ≡ k → is_some (find (λ y. is_pending y.place && not (has y.id s.kept.claimed)) cs) ≡ list_any (λ c. not (claimed c)) (ids_where is_pending cs) → is_some (find (λ y. is_pending y.place && not (has y.id s.kept.claimed)) (x ∷ cs)) ≡ list_any (λ c. not (claimed c)) (ids_where is_pending (x ∷ cs))
      on false k e f rest = rw e rest
      on true true e f rest = rw (e, claims x.id, f) rest
      on true false e f rest = rw (e, claims x.id, f) refl

  pub job-by : has_job_now s ≡ list_any (λ c. not (claimed c)) (pending_list xs)
  unfolding queries
  job-by = rw z.matches.counts.pending (unclaimed-in s.kept.connections)

-- a pool that stands for a history of its own stands in it
pub stands-in : (s : PoolCore) (h : List Item) → StandsFor s h → StandsIn s h
unfolding queries
stands-in s h z = record {
  fits = z.fits;
  opens = λ r e. rw (z.requested r, e) (z.opens r);
  claims = z.claims;
}

module _ (s : PoolCore) (h : List Item) (z : StandsIn s h) where
  abbrev own : List PoolItem
  own = of_pool s.pool h

  pub open-now : (r : ℕ) → is_open_now s r ≡ has_asked own r && is_open h r
  unfolding queries
  open-now r = ap (λ b. b && not (has r s.kept.settled)) (sym (asked-known s own z.fits r)) ∙ on (has_asked own r) refl
    where
      on : (b : Bool) → has_asked own r ≡ b → b && not (has r s.kept.settled) ≡ b && is_open h r
      on false e = refl
      on true e = sym (z.opens r e)

  pub job-now : has_job_now s ≡ list_any (λ c. not (is_claimed h s.pool c)) (pending_list own)
  unfolding queries
  job-now = job-by s own z.fits (is_claimed h s.pool) z.claims
