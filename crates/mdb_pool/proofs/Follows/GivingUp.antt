-- What a give-up does follows the items of the pool.
use Rattle.std.proofs.Common.{ℕ, ◌≡◌, arith, ◌≤◌, ◌==◌, List, [], ◌∷◌, ◌++◌, Some, None, is_some, refl, sym, ◌∙◌, ap, if◌then◌else◌}
use Rattle.std.proofs.lemmas.Bool.Decides.{nat_tests}
use Rattle.mdb_events.specs.declared.end.End.{End}
use Rattle.mdb_events.specs.declared.end.End.TheVariants.{GaveUp}
use Rattle.mdb_pool.specs.declared.kept.connection.Connection.{Connection}
use Rattle.mdb_pool.specs.declared.kept.connection.Place.TheVariants.{Pending, Available, Held}
use Rattle.mdb_pool.specs.declared.kept.request.Request.{Request}
use Rattle.mdb_pool.specs.declared.kept.request.Phase.TheVariants.{Given, Ended as EndedPhase}
use Rattle.mdb_pool.specs.Core.{PoolCore}
use Rattle.mdb_log.specs.History.{PoolItem, without, given, gave_up, checked_in, ended}
use Rattle.mdb_pool.specs.Kept.Values.{connection_at, request_at, given_in, given_of, holder_at, used_as}
use Rattle.mdb_log.specs.Requests.{queued}
use Rattle.mdb_pool.specs.Kept.Matching.{Matches}
use Rattle.mdb_log.specs.Connections.{holding}
use Rattle.mdb_pool.specs.Kept.Places.{is_pending, is_available, is_queued, stays}
use Rattle.mdb_pool.specs.Acts.Changes.{quitting, leaving, parting, handing}
use Rattle.mdb_pool.proofs.Follows.Serving.{parties-without, holder-given, pending-place}
use Rattle.mdb_log.proofs.Pins.{pinned-again, holding-none, holding-one, holding-pending}
use Rattle.mdb_log.specs.declared.step.Use.TheVariants.{Ok}
use Rattle.mdb_pool_rules.proofs.Listed.Values.{without-absent, entry_at-put, where-put, named, named-put, length-put, passes, has-where, where-put_stay, entry_at-swap, named-swap, length-swap, where-swap_out, where-swap_stay, where-swap_same, one_if-le}

abbrev id_of : Connection → ℕ
id_of x = x.id

abbrev number_of : Request → ℕ
number_of q = q.number

-- a request that has no connection is given up
module _ (s : PoolCore) (xs : List PoolItem) (m : Matches s xs) (n : ℕ) (q : Request)
    (at_q : request_at s q.number ≡ Some q) (none : given_in q.phase ≡ None) where
  abbrev pub quit_q : Request
  quit_q = record q { phase = EndedPhase GaveUp }

  pub quit_request : (r : ℕ) → request_at (quitting s n q) r ≡ if q.number == r then Some quit_q else request_at s r
  quit_request r = entry_at-swap number_of r quit_q s.kept.requests (ap is_some at_q)

  given_none : given_of (request_at s q.number) ≡ None
  given_none = ap given_of at_q ∙ none

  pub quit-matches : Matches (quitting s n q) (ended q.number GaveUp ∷ gave_up q.number ∷ xs)
  quit-matches = record {
    counts = m.counts;
    connections = record {
      live = m.connections.live;
      parties = λ c. parties-without s xs m q.number c ∙ grind (arith, m.connections.parties c, holder-given s xs m q.number c, given_none);
      ungranted = m.connections.ungranted;
      granted_to = m.connections.granted_to;
      created_at = m.connections.created_at;
      since = m.connections.since;
    };
    told = m.told;
    requests = record {
      queue = ap (without q.number) m.requests.queue ∙ sym (where-swap_out number_of (λ y. is_queued y.phase) quit_q s.kept.requests refl);
      given = λ r. grind (arith, quit_request r, m.requests.given r);
      single_request = λ r. grind (arith, named-swap number_of r quit_q s.kept.requests, quit_request r, m.requests.single_request r);
      asked_at = λ r. grind (arith, quit_request r, m.requests.asked_at r);
      ends = λ r. grind (arith, quit_request r, m.requests.ends r);
      asks = λ r. grind (arith, quit_request r, m.requests.asks r);
      warm = λ r. grind (arith, quit_request r, m.requests.warm r);
    };
    links = record {
      taken = λ k c h. grind (arith, quit_request k, m.links.taken k c, at_q, none);
      owned = λ c k h. grind (arith, quit_request k, m.links.owned c k, at_q, none);
      known = λ c y r e f. grind (arith, quit_request r, m.links.known c y r);
      free = m.links.free;
      busy = m.links.busy;
      waits = m.links.waits;
      left_by = λ c y r e f g h. grind (arith, quit_request r, m.links.left_by c y r, m.links.known c y r);
      fills = λ c y r e f g. grind (arith, quit_request r, m.links.fills c y r);
    };
    pinning = m.pinning;
    uses = record {
      errored = m.uses.errored;
      dropped = λ c. rw (m.requests.given q.number ∙ given_none) (m.uses.dropped c);
      calm = m.uses.calm;
    };
    clearing = m.clearing;
    at_pin = λ c. rw (holding-none xs q.number (m.requests.given q.number ∙ given_none)) (grind (arith, pinned-again xs c, m.at_pin c));
  }

-- a request whose connection is pending is given up
module _ (s : PoolCore) (xs : List PoolItem) (m : Matches s xs) (n : ℕ) (x : Connection) (q : Request)
    (at_x : connection_at s x.id ≡ Some x) (at_q : request_at s q.number ≡ Some q) (phase : q.phase ≡ Given x.id) where
  abbrev left_x : Connection
  left_x = record x { holder = None; used = Ok }

  abbrev pub left_q : Request
  left_q = record q { phase = EndedPhase GaveUp }

  left_connection : (c : ℕ) → connection_at (leaving s n x q) c ≡ if x.id == c then Some left_x else connection_at s c
  left_connection c = entry_at-swap id_of c left_x s.kept.connections (ap is_some at_x)

  pub left_request : (r : ℕ) → request_at (leaving s n x q) r ≡ if q.number == r then Some left_q else request_at s r
  left_request r = entry_at-swap number_of r left_q s.kept.requests (ap is_some at_q)

  was_given : given xs q.number ≡ Some x.id
  was_given = m.requests.given q.number ∙ (ap given_of at_q ∙ ap given_in phase)

  was_held : holder_at (connection_at s x.id) ≡ Some q.number
  was_held = m.links.taken q.number x.id (ap given_of at_q ∙ ap given_in phase)

  given_now : given_of (request_at s q.number) ≡ Some x.id
  given_now = ap given_of at_q ∙ ap given_in phase

  pub leave-matches : x.place ≡ Pending → Matches (leaving s n x q) (ended q.number GaveUp ∷ gave_up q.number ∷ xs)
  leave-matches place = record {
    counts = record {
      created = m.counts.created;
      live_all = m.counts.live_all ∙ sym (length-swap id_of left_x s.kept.connections);
      pending = m.counts.pending ∙ sym (where-swap_same id_of (λ y. is_pending y.place) left_x x s.kept.connections at_x once refl);
      available = m.counts.available ∙ sym (where-swap_same id_of (λ y. is_available y.place) left_x x s.kept.connections at_x once refl);
      single = λ c. grind (arith, named-swap id_of c left_x s.kept.connections, left_connection c, m.counts.single c);
      unused = λ c h. grind (arith, left_connection c, m.counts.unused c h);
    };
    connections = record {
      live = λ c. grind (arith, left_connection c, m.connections.live c);
      parties = λ c. parties-without s xs m q.number c ∙ grind (arith, left_connection c, m.connections.parties c, holder-given s xs m q.number c, given_now, was_held, at_x);
      ungranted = m.connections.ungranted;
      granted_to = λ c y e. grind (arith, left_connection c, m.connections.granted_to c y, m.connections.granted_to x.id x at_x);
      created_at = λ c y e. grind (arith, left_connection c, m.connections.created_at c y, m.connections.created_at x.id x at_x);
      since = λ c y e f. grind (arith, left_connection c, m.connections.since c y);
    };
    told = record {
      served = λ c. grind (arith, nat_tests, left_connection c, m.told.served c, m.told.served x.id, at_x);
      service = λ c. grind (arith, nat_tests, left_connection c, m.told.service c, m.told.service x.id, at_x);
      wire = λ c. grind (arith, nat_tests, left_connection c, m.told.wire c, m.told.wire x.id, at_x);
    };
    requests = record {
      queue = without-absent q.number (queued xs) (rw m.requests.queue (has-where number_of (λ y. is_queued y.phase) q.number s.kept.requests (m.requests.single_request q.number) ∙ (ap (passes number_of (λ y. is_queued y.phase)) at_q ∙ ap is_queued phase))) ∙ (m.requests.queue ∙ sym (where-swap_stay number_of (λ y. is_queued y.phase) left_q s.kept.requests refl (m.requests.single_request q.number) (ap (passes number_of (λ y. is_queued y.phase)) at_q ∙ ap is_queued phase)));
      given = λ r. grind (arith, left_request r, m.requests.given r);
      single_request = λ r. grind (arith, named-swap number_of r left_q s.kept.requests, left_request r, m.requests.single_request r);
      asked_at = λ r. grind (arith, left_request r, m.requests.asked_at r);
      ends = λ r. grind (arith, left_request r, m.requests.ends r);
      asks = λ r. grind (arith, left_request r, m.requests.asks r);
      warm = λ r. grind (arith, left_request r, m.requests.warm r);
    };
    links = record {
      taken = λ r c h. grind (arith, left_request r, left_connection c, m.links.taken r c, m.links.owned c r, was_held, at_x, at_q);
      owned = λ c r h. grind (arith, left_request r, left_connection c, m.links.owned c r, m.links.taken r c, was_held, at_x, at_q);
      known = λ c y r e f. grind (arith, left_connection c, m.links.known c y r, m.links.known x.id x r at_x, left_request r);
      free = λ c y e f. grind (arith, left_connection c, m.links.free c y);
      busy = λ c y e f. grind (arith, left_connection c, m.links.busy c y, place);
      waits = λ c y r e f g. grind (arith, left_connection c, m.links.waits c y r);
      left_by = λ c y r e f g h. grind (arith, left_connection c, m.links.left_by c y r, left_request r, mine place);
      fills = λ c y r e f g. grind (arith, left_connection c, left_request r, m.links.fills c y r);
    };
    pinning = record {
      pins = λ c. grind (arith, left_connection c, m.pinning.pins c, m.pinning.pins x.id, at_x);
      loose = λ c y e f. grind (arith, left_connection c, m.pinning.loose c y, m.pinning.loose x.id x at_x (ap stays place));
      rests = λ c y e f. grind (arith, left_connection c, m.pinning.rests c y);
    };
    uses = record {
      errored = λ c. grind (arith, nat_tests, left_connection c, m.uses.errored c, m.uses.errored x.id, at_x);
      dropped = λ c. rw was_given (grind (arith, nat_tests, left_connection c, m.uses.dropped c, m.uses.dropped x.id, at_x));
      calm = λ c y e f. grind (arith, left_connection c, m.uses.calm c y);
    };
    clearing = m.clearing;
    at_pin = λ c. rw (holding-pending xs q.number x.id was_given (pending-place s xs m x at_x ∙ ap is_pending place)) (grind (arith, left_connection c, pinned-again xs c, m.at_pin c, m.at_pin x.id, at_x, place));
  }
    where
      once : named id_of x.id s.kept.connections ≤ 1
      once = rw (m.counts.single x.id) (one_if-le (is_some (connection_at s x.id)))

      mine : x.place ≡ Pending → x.party ≡ Some q.number
      mine place = m.links.waits x.id x q.number at_x (ap is_pending place) (sym (ap holder_at at_x) ∙ was_held)

-- a request whose connection is pending ends
module _ (s : PoolCore) (xs : List PoolItem) (m : Matches s xs) (x : Connection) (q : Request) (end : End)
    (at_x : connection_at s x.id ≡ Some x) (at_q : request_at s q.number ≡ Some q) (phase : q.phase ≡ Given x.id) where
  abbrev apart_x : Connection
  apart_x = record x { holder = None }

  abbrev pub apart_q : Request
  apart_q = record q { phase = EndedPhase end }

  apart_connection : (c : ℕ) → connection_at (parting s x q end) c ≡ if x.id == c then Some apart_x else connection_at s c
  apart_connection c = entry_at-swap id_of c apart_x s.kept.connections (ap is_some at_x)

  pub apart_request : (r : ℕ) → request_at (parting s x q end) r ≡ if q.number == r then Some apart_q else request_at s r
  apart_request r = entry_at-swap number_of r apart_q s.kept.requests (ap is_some at_q)

  kept_for : holder_at (connection_at s x.id) ≡ Some q.number
  kept_for = m.links.taken q.number x.id (ap given_of at_q ∙ ap given_in phase)

  given_then : given_of (request_at s q.number) ≡ Some x.id
  given_then = ap given_of at_q ∙ ap given_in phase

  pub part-matches : x.place ≡ Pending → Matches (parting s x q end) (ended q.number end ∷ xs)
  part-matches place = record {
    counts = record {
      created = m.counts.created;
      live_all = m.counts.live_all ∙ sym (length-swap id_of apart_x s.kept.connections);
      pending = m.counts.pending ∙ sym (where-swap_same id_of (λ y. is_pending y.place) apart_x x s.kept.connections at_x once refl);
      available = m.counts.available ∙ sym (where-swap_same id_of (λ y. is_available y.place) apart_x x s.kept.connections at_x once refl);
      single = λ c. grind (arith, named-swap id_of c apart_x s.kept.connections, apart_connection c, m.counts.single c);
      unused = λ c h. grind (arith, apart_connection c, m.counts.unused c h);
    };
    connections = record {
      live = λ c. grind (arith, apart_connection c, m.connections.live c);
      parties = λ c. parties-without s xs m q.number c ∙ grind (arith, apart_connection c, m.connections.parties c, holder-given s xs m q.number c, given_then, kept_for, at_x);
      ungranted = m.connections.ungranted;
      granted_to = λ c y e. grind (arith, apart_connection c, m.connections.granted_to c y, m.connections.granted_to x.id x at_x);
      created_at = λ c y e. grind (arith, apart_connection c, m.connections.created_at c y, m.connections.created_at x.id x at_x);
      since = λ c y e f. grind (arith, apart_connection c, m.connections.since c y);
    };
    told = record {
      served = λ c. grind (arith, nat_tests, apart_connection c, m.told.served c, m.told.served x.id, at_x);
      service = λ c. grind (arith, nat_tests, apart_connection c, m.told.service c, m.told.service x.id, at_x);
      wire = λ c. grind (arith, nat_tests, apart_connection c, m.told.wire c, m.told.wire x.id, at_x);
    };
    requests = record {
      queue = without-absent q.number (queued xs) (rw m.requests.queue (has-where number_of (λ y. is_queued y.phase) q.number s.kept.requests (m.requests.single_request q.number) ∙ (ap (passes number_of (λ y. is_queued y.phase)) at_q ∙ ap is_queued phase))) ∙ (m.requests.queue ∙ sym (where-swap_stay number_of (λ y. is_queued y.phase) apart_q s.kept.requests refl (m.requests.single_request q.number) (ap (passes number_of (λ y. is_queued y.phase)) at_q ∙ ap is_queued phase)));
      given = λ r. grind (arith, apart_request r, m.requests.given r);
      single_request = λ r. grind (arith, named-swap number_of r apart_q s.kept.requests, apart_request r, m.requests.single_request r);
      asked_at = λ r. grind (arith, apart_request r, m.requests.asked_at r);
      ends = λ r. grind (arith, apart_request r, m.requests.ends r);
      asks = λ r. grind (arith, apart_request r, m.requests.asks r);
      warm = λ r. grind (arith, apart_request r, m.requests.warm r);
    };
    links = record {
      taken = λ r c h. grind (arith, apart_request r, apart_connection c, m.links.taken r c, m.links.owned c r, kept_for, at_x, at_q);
      owned = λ c r h. grind (arith, apart_request r, apart_connection c, m.links.owned c r, m.links.taken r c, kept_for, at_x, at_q);
      known = λ c y r e f. grind (arith, apart_connection c, m.links.known c y r, m.links.known x.id x r at_x, apart_request r);
      free = λ c y e f. grind (arith, apart_connection c, m.links.free c y);
      busy = λ c y e f. grind (arith, apart_connection c, m.links.busy c y, place);
      waits = λ c y r e f g. grind (arith, apart_connection c, m.links.waits c y r);
      left_by = λ c y r e f g h. grind (arith, apart_connection c, m.links.left_by c y r, apart_request r, mine place);
      fills = λ c y r e f g. grind (arith, apart_connection c, apart_request r, m.links.fills c y r);
    };
    pinning = record {
      pins = λ c. grind (arith, apart_connection c, m.pinning.pins c, m.pinning.pins x.id, at_x);
      loose = λ c y e f. grind (arith, apart_connection c, m.pinning.loose c y, m.pinning.loose x.id x at_x (ap stays place));
      rests = λ c y e f. grind (arith, apart_connection c, m.pinning.rests c y);
    };
    uses = record {
      errored = λ c. grind (arith, nat_tests, apart_connection c, m.uses.errored c, m.uses.errored x.id, at_x);
      dropped = λ c. grind (arith, nat_tests, apart_connection c, m.uses.dropped c, m.uses.dropped x.id, at_x);
      calm = λ c y e f. grind (arith, apart_connection c, m.uses.calm c y);
    };
    clearing = m.clearing;
    at_pin = λ c. grind (arith, apart_connection c, pinned-again xs c, m.at_pin c, m.at_pin x.id, at_x);
  }
    where
      once : named id_of x.id s.kept.connections ≤ 1
      once = rw (m.counts.single x.id) (one_if-le (is_some (connection_at s x.id)))

      mine : x.place ≡ Pending → x.party ≡ Some q.number
      mine place = m.links.waits x.id x q.number at_x (ap is_pending place) (sym (ap holder_at at_x) ∙ kept_for)

-- a request whose connection is held is given up, and the connection is available
module _ (s : PoolCore) (xs : List PoolItem) (m : Matches s xs) (n : ℕ) (x : Connection) (q : Request)
    (at_x : connection_at s x.id ≡ Some x) (place : x.place ≡ Held) (at_q : request_at s q.number ≡ Some q) (phase : q.phase ≡ Given x.id) where
  abbrev handed_x : Connection
  handed_x = record (used_as x Ok) { place = Available; holder = None; since = n }

  handed_connection : (c : ℕ) → connection_at (handing s n (used_as x Ok) q) c ≡ if x.id == c then Some handed_x else connection_at s c
  handed_connection c = entry_at-put id_of c handed_x s.kept.connections

  pub handed_request : (r : ℕ) → request_at (handing s n (used_as x Ok) q) r ≡ if q.number == r then Some (left_q s xs m n x q at_x at_q phase) else request_at s r
  handed_request r = entry_at-swap number_of r (left_q s xs m n x q at_x at_q phase) s.kept.requests (ap is_some at_q)

  had_given : given xs q.number ≡ Some x.id
  had_given = m.requests.given q.number ∙ (ap given_of at_q ∙ ap given_in phase)

  had_held : holder_at (connection_at s x.id) ≡ Some q.number
  had_held = m.links.taken q.number x.id (ap given_of at_q ∙ ap given_in phase)

  has_given : given_of (request_at s q.number) ≡ Some x.id
  has_given = ap given_of at_q ∙ ap given_in phase

  pub held_one : holding xs q.number ≡ Some x.id
  held_one = holding-one xs q.number x.id had_given (pending-place s xs m x at_x ∙ ap is_pending place)

  pub hand-matches : x.pins ≡ 0 → Matches (handing s n (used_as x Ok) q) (checked_in x.id n ∷ ended q.number GaveUp ∷ gave_up q.number ∷ xs)
  hand-matches loose_now = record {
    counts = record {
      created = m.counts.created;
      live_all = grind (arith, m.counts.live_all, length-put id_of handed_x s.kept.connections, m.counts.single x.id);
      pending = m.counts.pending ∙ sym (where-put_stay id_of (λ y. is_pending y.place) handed_x s.kept.connections refl (m.counts.single x.id) (ap (passes id_of (λ y. is_pending y.place)) at_x ∙ ap is_pending place));
      available = ap (λ cs. without x.id cs ++ x.id ∷ []) m.counts.available ∙ sym (where-put id_of (λ y. is_available y.place) handed_x s.kept.connections);
      single = λ c. grind (arith, named-put id_of c handed_x s.kept.connections, handed_connection c, m.counts.single c);
      unused = λ c h. grind (arith, handed_connection c, m.counts.unused c h);
    };
    connections = record {
      live = λ c. grind (arith, handed_connection c, m.connections.live c);
      parties = λ c. parties-without s xs m q.number c ∙ grind (arith, handed_connection c, m.connections.parties c, holder-given s xs m q.number c, has_given, had_held, at_x);
      ungranted = m.connections.ungranted;
      granted_to = λ c y e. grind (arith, handed_connection c, m.connections.granted_to c y, m.connections.granted_to x.id x at_x);
      created_at = λ c y e. grind (arith, handed_connection c, m.connections.created_at c y, m.connections.created_at x.id x at_x);
      since = λ c y e f. grind (arith, handed_connection c, m.connections.since c y);
    };
    told = record {
      served = λ c. grind (arith, nat_tests, handed_connection c, m.told.served c, m.told.served x.id, at_x);
      service = λ c. grind (arith, nat_tests, handed_connection c, m.told.service c, m.told.service x.id, at_x);
      wire = λ c. grind (arith, nat_tests, handed_connection c, m.told.wire c, m.told.wire x.id, at_x);
    };
    requests = record {
      queue = without-absent q.number (queued xs) (rw m.requests.queue (has-where number_of (λ y. is_queued y.phase) q.number s.kept.requests (m.requests.single_request q.number) ∙ (ap (passes number_of (λ y. is_queued y.phase)) at_q ∙ ap is_queued phase))) ∙ (m.requests.queue ∙ sym (where-swap_stay number_of (λ y. is_queued y.phase) (left_q s xs m n x q at_x at_q phase) s.kept.requests refl (m.requests.single_request q.number) (ap (passes number_of (λ y. is_queued y.phase)) at_q ∙ ap is_queued phase)));
      given = λ r. grind (arith, handed_request r, m.requests.given r);
      single_request = λ r. grind (arith, named-swap number_of r (left_q s xs m n x q at_x at_q phase) s.kept.requests, handed_request r, m.requests.single_request r);
      asked_at = λ r. grind (arith, handed_request r, m.requests.asked_at r);
      ends = λ r. grind (arith, handed_request r, m.requests.ends r);
      asks = λ r. grind (arith, handed_request r, m.requests.asks r);
      warm = λ r. grind (arith, handed_request r, m.requests.warm r);
    };
    links = record {
      taken = λ r c h. grind (arith, handed_request r, handed_connection c, m.links.taken r c, m.links.owned c r, had_held, at_x, at_q);
      owned = λ c r h. grind (arith, handed_request r, handed_connection c, m.links.owned c r, m.links.taken r c, had_held, at_x, at_q);
      known = λ c y r e f. grind (arith, handed_connection c, m.links.known c y r, m.links.known x.id x r at_x, handed_request r);
      free = λ c y e f. grind (arith, handed_connection c, m.links.free c y);
      busy = λ c y e f. grind (arith, handed_connection c, m.links.busy c y);
      waits = λ c y r e f g. grind (arith, handed_connection c, m.links.waits c y r);
      left_by = λ c y r e f g h. grind (arith, handed_connection c, m.links.left_by c y r, handed_request r);
      fills = λ c y r e f g. grind (arith, handed_connection c, handed_request r, m.links.fills c y r);
    };
    pinning = record {
      pins = λ c. grind (arith, handed_connection c, m.pinning.pins c, m.pinning.pins x.id, at_x);
      loose = λ c y e f. grind (arith, handed_connection c, m.pinning.loose c y, loose_now);
      rests = λ c y e f. grind (arith, handed_connection c, m.pinning.rests c y);
    };
    uses = record {
      errored = λ c. grind (arith, nat_tests, handed_connection c, m.uses.errored c, m.uses.errored x.id, at_x);
      dropped = λ c. rw had_given (grind (arith, nat_tests, handed_connection c, m.uses.dropped c, m.uses.dropped x.id, at_x));
      calm = λ c y e f. grind (arith, handed_connection c, m.uses.calm c y);
    };
    clearing = m.clearing;
    at_pin = λ c. rw held_one (grind (arith, nat_tests, handed_connection c, pinned-again xs c, m.at_pin c, m.pinning.pins x.id, at_x, loose_now));
  }

-- a request that ended is given up late
pub late-matches : (s : PoolCore) (xs : List PoolItem) (m : Matches s xs) (n r : ℕ) (told : List ℕ) → given_of (request_at s r) ≡ None → Matches (record s { kept = record s.kept { last = n; settled = told } }) (gave_up r ∷ xs)
late-matches s xs m n r told none = record {
  counts = m.counts;
  connections = m.connections;
  told = m.told;
  requests = m.requests;
  links = m.links;
  pinning = m.pinning;
  uses = record {
    errored = m.uses.errored;
    dropped = λ c. rw (m.requests.given r ∙ none) (m.uses.dropped c);
    calm = m.uses.calm;
  };
  clearing = m.clearing;
  at_pin = λ c. rw (holding-none xs r (m.requests.given r ∙ none)) (grind (arith, pinned-again xs c, m.at_pin c));
}
