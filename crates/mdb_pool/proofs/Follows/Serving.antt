-- The moves of the serving and of requests follow the items of the pool.
use Rattle.std.proofs.Common.{ℕ, ◌≡◌, arith, ◌+◌, true, false, ◌==◌, List, [], ◌∷◌, ◌++◌, Option, Some, None, is_some, refl, sym, ◌∙◌, ap, if◌then◌else◌}
use Rattle.std.proofs.lemmas.Grind.{common_steps}
use Rattle.std.proofs.lemmas.Bool.Decides.{nat_tests}
use Rattle.mdb_pool.specs.declared.kept.connection.Connection.{Connection}
use Rattle.mdb_pool.specs.declared.kept.connection.Place.TheVariants.{Pending, Available, Held}
use Rattle.mdb_pool.specs.declared.kept.request.Request.{Request}
use Rattle.mdb_pool.specs.declared.kept.request.Phase.TheVariants.{Queued, Given}
use Rattle.mdb_pool.specs.Core.{PoolCore}
use Rattle.mdb_log.specs.History.{PoolItem, is_number, without, asked, warmed, created, granted, has_asked}
use Rattle.mdb_pool.specs.Kept.Values.{connection_at, request_at, one_party, holder_at, given_of, timeouts_in, is_asked_at}
use Rattle.mdb_pool.specs.Kept.Matching.{Matches}
use Rattle.mdb_log.specs.Connections.{one_if, has, granted_to, parties, pending_list}
use Rattle.mdb_pool.specs.Kept.Places.{is_pending, is_available, is_queued}
use Rattle.mdb_log.specs.declared.step.Use.TheVariants.{Ok}
use Rattle.mdb_log.proofs.Pins.{pinned-again, queued-asked}
use Rattle.mdb_pool.specs.Acts.Changes.{asking, creating, granting, spawning}
use Rattle.mdb_pool_rules.proofs.Listed.Values.{entry_at-put, named, named-put, length-put, passes, has-where, where-put_out, where-put_stay, where-put_in, entry_at-swap, named-swap, length-swap, where-swap_out, where-swap_stay}

without-one : (o : Option ℕ) (r : ℕ) → without r (one_party o) ≡ if is_number o r then [] else one_party o
without-one None r = refl
without-one (Some k) r = grind (arith, common_steps)

number-some : (o : Option ℕ) (r : ℕ) → is_number o r ≡ true → o ≡ Some r
number-some None r e = cc
number-some (Some k) r e = let f : k ≡ r = grind arith in ap Some f

-- a party that leaves no longer has what it held
pub parties-without : (s : PoolCore) (xs : List PoolItem) → Matches s xs → (r c : ℕ) → without r (parties xs c) ≡ if is_number (holder_at (connection_at s c)) r then [] else parties xs c
parties-without s xs m r c = rw (m.connections.parties c) (without-one (holder_at (connection_at s c)) r)

-- whoever has a connection was given it
pub holder-given : (s : PoolCore) (xs : List PoolItem) → Matches s xs → (r c : ℕ) → is_number (holder_at (connection_at s c)) r ≡ true → given_of (request_at s r) ≡ Some c
holder-given s xs m r c e = m.links.owned c r (number-some (holder_at (connection_at s c)) r e)

module _ (s : PoolCore) (xs : List PoolItem) (m : Matches s xs) where
  -- a connection is pending or available as its place says
  pub pending-place : (x : Connection) → connection_at s x.id ≡ Some x → has x.id (pending_list xs) ≡ is_pending x.place
  pending-place x e = rw (m.counts.pending, has-where (λ (y : Connection). y.id) (λ y. is_pending y.place) x.id s.kept.connections (m.counts.single x.id)) (ap (passes (λ (y : Connection). y.id) (λ y. is_pending y.place)) e)

  -- who is in the queue asked
  pub queued-asked_at : (q : Request) → request_at s q.number ≡ Some q → is_queued q.phase ≡ true → has_asked xs q.number ≡ true
  queued-asked_at q at_q queued_now =
      queued-asked xs q.number (rw m.requests.queue (has-where (λ (y : Request). y.number) (λ y. is_queued y.phase) q.number s.kept.requests (m.requests.single_request q.number)) ∙ (ap (passes (λ (y : Request). y.number) (λ y. is_queued y.phase)) at_q ∙ queued_now))

  pub queued-known : (q : Request) → request_at s q.number ≡ Some q → is_queued q.phase ≡ true → is_asked_at (request_at s q.number) ≡ true
  queued-known q at_q queued_now = sym (m.requests.asks q.number) ∙ queued-asked_at q at_q queued_now

abbrev id_of : Connection → ℕ
id_of x = x.id

abbrev number_of : Request → ℕ
number_of q = q.number

-- an available connection is granted to a queued request
module _ (s : PoolCore) (xs : List PoolItem) (m : Matches s xs) (x : Connection) (q : Request)
    (at_x : connection_at s x.id ≡ Some x) (place : x.place ≡ Available) (at_q : request_at s q.number ≡ Some q) (phase : q.phase ≡ Queued) where
  abbrev granted_x : Connection
  granted_x = record x { place = Held; party = Some q.number; holder = Some q.number; timeouts = timeouts_in s.kept.clears }

  abbrev pub granted_q : Request
  granted_q = record q { phase = Given x.id }

  new_connection : (c : ℕ) → connection_at (granting s x q) c ≡ if x.id == c then Some granted_x else connection_at s c
  new_connection c = entry_at-swap id_of c granted_x s.kept.connections (ap is_some at_x)

  pub new_request : (r : ℕ) → request_at (granting s x q) r ≡ if q.number == r then Some granted_q else request_at s r
  new_request r = entry_at-swap number_of r granted_q s.kept.requests (ap is_some at_q)

  alone : x.holder ≡ None
  alone = m.links.free x.id x at_x (ap is_available place)

  asker : is_asked_at (request_at s q.number) ≡ true
  asker = queued-known s xs m q at_q (ap is_queued phase)

  pub grant-matches : q.warm ≡ false → Matches (granting s x q) (granted q.number x.id ∷ xs)
  grant-matches cold = record {
    counts = record {
      created = m.counts.created;
      live_all = m.counts.live_all ∙ sym (length-swap id_of granted_x s.kept.connections);
      pending = m.counts.pending ∙ sym (where-swap_stay id_of (λ y. is_pending y.place) granted_x s.kept.connections refl (m.counts.single x.id) (ap (passes id_of (λ y. is_pending y.place)) at_x ∙ ap is_pending place));
      available = ap (without x.id) m.counts.available ∙ sym (where-swap_out id_of (λ y. is_available y.place) granted_x s.kept.connections refl);
      single = λ c. grind (arith, named-swap id_of c granted_x s.kept.connections, new_connection c, m.counts.single c);
      unused = λ c h. grind (arith, new_connection c, m.counts.unused c h);
    };
    connections = record {
      live = λ c. grind (arith, new_connection c, m.connections.live c);
      parties = λ c. grind (arith, new_connection c, m.connections.parties c, at_x, alone);
      ungranted = λ c h. grind (arith, m.connections.ungranted c h, m.counts.unused c h, at_x);
      granted_to = λ c y e. grind (arith, new_connection c, m.connections.granted_to c y);
      created_at = λ c y e. grind (arith, new_connection c, m.connections.created_at c y, m.connections.created_at x.id x at_x);
      since = λ c y e f. grind (arith, new_connection c, m.connections.since c y);
    };
    told = record {
      served = λ c. grind (arith, nat_tests, new_connection c, m.told.served c, m.told.served x.id, at_x);
      service = λ c. grind (arith, nat_tests, new_connection c, m.told.service c, m.told.service x.id, at_x);
      wire = λ c. grind (arith, nat_tests, new_connection c, m.told.wire c, m.told.wire x.id, at_x);
    };
    requests = record {
      queue = ap (without q.number) m.requests.queue ∙ sym (where-swap_out number_of (λ y. is_queued y.phase) granted_q s.kept.requests refl);
      given = λ r. grind (arith, new_request r, m.requests.given r);
      single_request = λ r. grind (arith, named-swap number_of r granted_q s.kept.requests, new_request r, m.requests.single_request r);
      asked_at = λ r. grind (arith, new_request r, m.requests.asked_at r);
      ends = λ r. grind (arith, new_request r, m.requests.ends r);
      asks = λ r. grind (arith, new_request r, m.requests.asks r);
      warm = λ r. grind (arith, new_request r, m.requests.warm r);
    };
    links = record {
      taken = λ r c h. grind (arith, new_request r, new_connection c, m.links.taken r c, m.links.owned c r, at_x, alone);
      owned = λ c r h. grind (arith, new_request r, new_connection c, m.links.owned c r, m.links.taken r c, at_q, phase);
      known = λ c y r e f. grind (arith, new_connection c, m.links.known c y r, m.links.known x.id x r at_x, new_request r, asker, at_q);
      free = λ c y e f. grind (arith, new_connection c, m.links.free c y);
      busy = λ c y e f. grind (arith, new_connection c, m.links.busy c y);
      waits = λ c y r e f g. grind (arith, new_connection c, m.links.waits c y r);
      left_by = λ c y r e f g h. grind (arith, new_connection c, m.links.left_by c y r, new_request r);
      fills = λ c y r e f g. grind (arith, new_connection c, new_request r, m.links.fills c y r, cold);
    };
    pinning = record {
      pins = λ c. grind (arith, new_connection c, m.pinning.pins c, m.pinning.pins x.id, at_x);
      loose = λ c y e f. grind (arith, new_connection c, m.pinning.loose c y, m.pinning.loose x.id x at_x);
      rests = λ c y e f. grind (arith, new_connection c, m.pinning.rests c y);
    };
    uses = record {
      errored = λ c. grind (arith, nat_tests, new_connection c, m.uses.errored c, m.uses.errored x.id, at_x);
      dropped = λ c. grind (arith, nat_tests, new_connection c, m.uses.dropped c, m.uses.dropped x.id, at_x);
      calm = λ c y e f. grind (arith, new_connection c, m.uses.calm c y);
    };
    clearing = m.clearing;
    at_pin = λ c. grind (arith, new_connection c, pinned-again xs c, m.at_pin c, m.at_pin x.id, at_x, place);
  }

-- a party that is new asks
module _ (s : PoolCore) (xs : List PoolItem) (m : Matches s xs) (r n : ℕ) (absent : request_at s r ≡ None) where
  abbrev pub asked_q : Request
  asked_q = record { number = r; asked_at = n; warm = false; took = false; phase = Queued }

  pub asked_request : (k : ℕ) → request_at (asking s r n false) k ≡ if r == k then Some asked_q else request_at s k
  asked_request k = entry_at-put number_of k asked_q s.kept.requests

  pub ask-matches : Matches (asking s r n false) (asked r n ∷ xs)
  ask-matches = record {
    counts = m.counts;
    connections = m.connections;
    told = m.told;
    requests = record {
      queue = ap (λ rs. rs ++ r ∷ []) m.requests.queue ∙ sym (where-put_in number_of (λ y. is_queued y.phase) asked_q s.kept.requests refl (m.requests.single_request r) (ap (passes number_of (λ y. is_queued y.phase)) absent));
      given = λ r. grind (arith, asked_request r, m.requests.given r);
      single_request = λ r. grind (arith, named-put number_of r asked_q s.kept.requests, asked_request r, m.requests.single_request r);
      asked_at = λ r. grind (arith, asked_request r, m.requests.asked_at r);
      ends = λ k. grind (arith, asked_request k, m.requests.ends k, absent);
      asks = λ r. grind (arith, asked_request r, m.requests.asks r);
      warm = λ r. grind (arith, asked_request r, m.requests.warm r);
    };
    links = record {
      taken = λ k c h. grind (arith, asked_request k, m.links.taken k c);
      owned = λ c k h. grind (arith, asked_request k, m.links.owned c k, absent);
      known = λ c y r e f. grind (arith, asked_request r, m.links.known c y r);
      free = m.links.free;
      busy = m.links.busy;
      waits = m.links.waits;
      left_by = λ c y r e f g h. grind (arith, asked_request r, m.links.left_by c y r e f g h, m.links.known c y r e h, absent);
      fills = λ c y r e f g. grind (arith, asked_request r, m.links.fills c y r);
    };
    pinning = m.pinning;
    uses = m.uses;
    clearing = m.clearing;
    at_pin = λ c. grind (arith, pinned-again xs c, m.at_pin c);
  }

-- a new warm request
module _ (s : PoolCore) (xs : List PoolItem) (m : Matches s xs) (r n : ℕ) (absent : request_at s r ≡ None) where
  abbrev pub warm_q : Request
  warm_q = record { number = r; asked_at = n; warm = true; took = false; phase = Queued }

  pub warm_request : (k : ℕ) → request_at (asking s r n true) k ≡ if r == k then Some warm_q else request_at s k
  warm_request k = entry_at-put number_of k warm_q s.kept.requests

  pub warm-matches : Matches (asking s r n true) (warmed r n ∷ xs)
  warm-matches = record {
    counts = m.counts;
    connections = m.connections;
    told = m.told;
    requests = record {
      queue = ap (λ rs. rs ++ r ∷ []) m.requests.queue ∙ sym (where-put_in number_of (λ y. is_queued y.phase) warm_q s.kept.requests refl (m.requests.single_request r) (ap (passes number_of (λ y. is_queued y.phase)) absent));
      given = λ r. grind (arith, warm_request r, m.requests.given r);
      single_request = λ r. grind (arith, named-put number_of r warm_q s.kept.requests, warm_request r, m.requests.single_request r);
      asked_at = λ r. grind (arith, warm_request r, m.requests.asked_at r);
      ends = λ k. grind (arith, warm_request k, m.requests.ends k, absent);
      asks = λ r. grind (arith, warm_request r, m.requests.asks r);
      warm = λ r. grind (arith, warm_request r, m.requests.warm r);
    };
    links = record {
      taken = λ k c h. grind (arith, warm_request k, m.links.taken k c);
      owned = λ c k h. grind (arith, warm_request k, m.links.owned c k, absent);
      known = λ c y r e f. grind (arith, warm_request r, m.links.known c y r);
      free = m.links.free;
      busy = m.links.busy;
      waits = m.links.waits;
      left_by = λ c y r e f g h. grind (arith, warm_request r, m.links.left_by c y r e f g h, m.links.known c y r e h, absent);
      fills = λ c y k e f g. grind (arith, warm_request k, m.links.fills c y k, m.links.owned c k, m.links.taken k c, absent, e, f);
    };
    pinning = m.pinning;
    uses = m.uses;
    clearing = m.clearing;
    at_pin = λ c. grind (arith, pinned-again xs c, m.at_pin c);
  }

-- a connection is created for a queued request
module _ (s : PoolCore) (xs : List PoolItem) (m : Matches s xs) (n : ℕ) (q : Request)
    (at_q : request_at s q.number ≡ Some q) (phase : q.phase ≡ Queued) where
  abbrev made_x : Connection
  made_x = record { id = s.kept.created + 1; created_at = n; place = Pending; party = Some q.number; holder = Some q.number; service = None; wire = None; since = n; pins = 0; used = Ok; errored = false; timeouts = timeouts_in s.kept.clears }

  abbrev pub made_q : Request
  made_q = record q { phase = Given (s.kept.created + 1) }

  fresh : connection_at s (s.kept.created + 1) ≡ None
  fresh = m.counts.unused (s.kept.created + 1) (omega arith)

  caller : is_asked_at (request_at s q.number) ≡ true
  caller = queued-known s xs m q at_q (ap is_queued phase)

  made_connection : (c : ℕ) → connection_at (creating s n q) c ≡ if s.kept.created + 1 == c then Some made_x else connection_at s c
  made_connection c = entry_at-put id_of c made_x s.kept.connections

  pub made_request : (r : ℕ) → request_at (creating s n q) r ≡ if q.number == r then Some made_q else request_at s r
  made_request r = entry_at-swap number_of r made_q s.kept.requests (ap is_some at_q)

  none_named : named id_of (s.kept.created + 1) s.kept.connections ≡ 0
  none_named = m.counts.single (s.kept.created + 1) ∙ ap (λ o. one_if (is_some o)) fresh

  pub create-matches : Matches (creating s n q) (granted q.number (s.kept.created + 1) ∷ created (s.kept.created + 1) n ∷ xs)
  create-matches = record {
    counts = record {
      created = ap (λ k. k + 1) m.counts.created;
      live_all = grind (arith, m.counts.live_all, length-put id_of made_x s.kept.connections, none_named);
      pending = ap (λ cs. cs ++ (s.kept.created + 1) ∷ []) m.counts.pending ∙ sym (where-put_in id_of (λ y. is_pending y.place) made_x s.kept.connections refl (m.counts.single (s.kept.created + 1)) (ap (passes id_of (λ y. is_pending y.place)) fresh));
      available = ap (without (s.kept.created + 1)) m.counts.available ∙ sym (where-put_out id_of (λ y. is_available y.place) made_x s.kept.connections refl);
      single = λ c. grind (arith, named-put id_of c made_x s.kept.connections, made_connection c, m.counts.single c);
      unused = λ c h. grind (arith, made_connection c, m.counts.unused c);
    };
    connections = record {
      live = λ c. grind (arith, made_connection c, m.connections.live c, fresh);
      parties = λ c. grind (arith, made_connection c, m.connections.parties c, fresh);
      ungranted = λ c h. grind (arith, m.connections.ungranted c);
      granted_to = λ c y e. grind (arith, made_connection c, m.connections.granted_to c y);
      created_at = λ c y e. grind (arith, made_connection c, m.connections.created_at c y);
      since = λ c y e f. grind (arith, made_connection c, m.connections.since c y);
    };
    told = record {
      served = λ c. grind (arith, nat_tests, made_connection c, m.told.served c, fresh);
      service = λ c. grind (arith, nat_tests, made_connection c, m.told.service c, fresh);
      wire = λ c. grind (arith, nat_tests, made_connection c, m.told.wire c, fresh);
    };
    requests = record {
      queue = ap (without q.number) m.requests.queue ∙ sym (where-swap_out number_of (λ y. is_queued y.phase) made_q s.kept.requests refl);
      given = λ r. grind (arith, made_request r, m.requests.given r);
      single_request = λ r. grind (arith, named-swap number_of r made_q s.kept.requests, made_request r, m.requests.single_request r);
      asked_at = λ r. grind (arith, made_request r, m.requests.asked_at r);
      ends = λ r. grind (arith, made_request r, m.requests.ends r);
      asks = λ r. grind (arith, made_request r, m.requests.asks r);
      warm = λ r. grind (arith, made_request r, m.requests.warm r);
    };
    links = record {
      taken = λ r c h. grind (arith, made_request r, made_connection c, m.links.taken r c, m.links.owned c r, fresh);
      owned = λ c r h. grind (arith, made_request r, made_connection c, m.links.owned c r, m.links.taken r c, fresh, at_q, phase);
      known = λ c y r e f. grind (arith, made_connection c, made_request r, m.links.known c y r, caller, at_q);
      free = λ c y e f. grind (arith, made_connection c, m.links.free c y);
      busy = λ c y e f. grind (arith, made_connection c, m.links.busy c y);
      waits = λ c y r e f g. grind (arith, made_connection c, m.links.waits c y r);
      left_by = λ c y r e f g h. grind (arith, made_connection c, made_request r, m.links.left_by c y r, at_q, phase);
      fills = λ c y r e f g. grind (arith, made_connection c, made_request r, m.links.fills c y r);
    };
    pinning = record {
      pins = λ c. grind (arith, made_connection c, m.pinning.pins c, fresh);
      loose = λ c y e f. grind (arith, made_connection c, m.pinning.loose c y);
      rests = λ c y e f. grind (arith, made_connection c, m.pinning.rests c y);
    };
    uses = record {
      errored = λ c. grind (arith, nat_tests, made_connection c, m.uses.errored c, fresh);
      dropped = λ c. grind (arith, nat_tests, made_connection c, m.uses.dropped c, fresh);
      calm = λ c y e f. grind (arith, made_connection c, m.uses.calm c y);
    };
    clearing = record {
      status = m.clearing.status;
      clears = m.clearing.clears;
      before = λ c t h. grind (arith, m.clearing.before c t, m.clearing.seen c t, m.clearing.clears t);
      seen = λ c t h. m.clearing.seen c t (omega arith);
    };
    at_pin = λ c. grind (arith, made_connection c, pinned-again xs c, m.at_pin c, fresh);
  }

-- a connection is created in the background
module _ (s : PoolCore) (xs : List PoolItem) (m : Matches s xs) (n : ℕ) where
  abbrev spare_x : Connection
  spare_x = record { id = s.kept.created + 1; created_at = n; place = Pending; party = None; holder = None; service = None; wire = None; since = n; pins = 0; used = Ok; errored = false; timeouts = 0 }

  unmade : connection_at s (s.kept.created + 1) ≡ None
  unmade = m.counts.unused (s.kept.created + 1) (omega arith)

  spare_connection : (c : ℕ) → connection_at (spawning s n) c ≡ if s.kept.created + 1 == c then Some spare_x else connection_at s c
  spare_connection c = entry_at-put id_of c spare_x s.kept.connections

  not_named : named id_of (s.kept.created + 1) s.kept.connections ≡ 0
  not_named = m.counts.single (s.kept.created + 1) ∙ ap (λ o. one_if (is_some o)) unmade

  not_granted : granted_to xs (s.kept.created + 1) ≡ None
  not_granted = m.connections.ungranted (s.kept.created + 1) (omega arith)

  pub spawn-matches : Matches (spawning s n) (created (s.kept.created + 1) n ∷ xs)
  spawn-matches = record {
    counts = record {
      created = ap (λ k. k + 1) m.counts.created;
      live_all = grind (arith, m.counts.live_all, length-put id_of spare_x s.kept.connections, not_named);
      pending = ap (λ cs. cs ++ (s.kept.created + 1) ∷ []) m.counts.pending ∙ sym (where-put_in id_of (λ y. is_pending y.place) spare_x s.kept.connections refl (m.counts.single (s.kept.created + 1)) (ap (passes id_of (λ y. is_pending y.place)) unmade));
      available = m.counts.available ∙ sym (where-put_stay id_of (λ y. is_available y.place) spare_x s.kept.connections refl (m.counts.single (s.kept.created + 1)) (ap (passes id_of (λ y. is_available y.place)) unmade));
      single = λ c. grind (arith, named-put id_of c spare_x s.kept.connections, spare_connection c, m.counts.single c);
      unused = λ c h. grind (arith, spare_connection c, m.counts.unused c);
    };
    connections = record {
      live = λ c. grind (arith, spare_connection c, m.connections.live c, unmade);
      parties = λ c. grind (arith, spare_connection c, m.connections.parties c, unmade);
      ungranted = λ c h. m.connections.ungranted c (omega arith);
      granted_to = λ c y e. grind (arith, spare_connection c, m.connections.granted_to c y, not_granted);
      created_at = λ c y e. grind (arith, spare_connection c, m.connections.created_at c y);
      since = λ c y e f. grind (arith, spare_connection c, m.connections.since c y);
    };
    told = record {
      served = λ c. grind (arith, nat_tests, spare_connection c, m.told.served c, unmade);
      service = λ c. grind (arith, nat_tests, spare_connection c, m.told.service c, unmade);
      wire = λ c. grind (arith, nat_tests, spare_connection c, m.told.wire c, unmade);
    };
    requests = m.requests;
    links = record {
      taken = λ r c h. grind (arith, spare_connection c, m.links.taken r c, unmade);
      owned = λ c r h. grind (arith, spare_connection c, m.links.owned c r);
      known = λ c y r e f. grind (arith, spare_connection c, m.links.known c y r);
      free = λ c y e f. grind (arith, spare_connection c, m.links.free c y);
      busy = λ c y e f. grind (arith, spare_connection c, m.links.busy c y);
      waits = λ c y r e f g. grind (arith, spare_connection c, m.links.waits c y r);
      left_by = λ c y r e f g h. grind (arith, spare_connection c, m.links.left_by c y r);
      fills = λ c y r e f g. grind (arith, spare_connection c, m.links.fills c y r);
    };
    pinning = record {
      pins = λ c. grind (arith, spare_connection c, m.pinning.pins c, unmade);
      loose = λ c y e f. grind (arith, spare_connection c, m.pinning.loose c y);
      rests = λ c y e f. grind (arith, spare_connection c, m.pinning.rests c y);
    };
    uses = record {
      errored = λ c. grind (arith, nat_tests, spare_connection c, m.uses.errored c, unmade);
      dropped = λ c. grind (arith, nat_tests, spare_connection c, m.uses.dropped c, unmade);
      calm = λ c y e f. grind (arith, spare_connection c, m.uses.calm c y);
    };
    clearing = record {
      status = m.clearing.status;
      clears = m.clearing.clears;
      before = λ c t h. grind (arith, m.clearing.before c t, m.clearing.seen c t, m.clearing.clears t);
      seen = λ c t h. m.clearing.seen c t (omega arith);
    };
    at_pin = λ c. grind (arith, spare_connection c, pinned-again xs c, m.at_pin c, unmade);
  }
