-- What is done with pins follows the items of the pool.
use Rattle.std.proofs.Common.{ℕ, ◌≡◌, arith, ◌≤◌, ◌+◌, ◌-◌, Bool, true, false, ◌&&◌, ◌==◌, List, [], ◌∷◌, ◌++◌, Some, None, is_some, refl, sym, ◌∙◌, ap, if◌then◌else◌, nat_lt}
use Rattle.std.proofs.lemmas.Bool.Decides.{nat_tests}
use Rattle.mdb_events.specs.declared.end.End.TheVariants.{GaveUp}
use Rattle.mdb_pool.specs.declared.kept.connection.Connection.{Connection}
use Rattle.mdb_pool.specs.declared.kept.connection.Place.TheVariants.{Available, Held, Pinned}
use Rattle.mdb_pool.specs.declared.kept.request.Request.{Request}
use Rattle.mdb_pool.specs.declared.kept.request.Phase.TheVariants.{Given, Over, Ended as EndedPhase}
use Rattle.mdb_log.specs.declared.step.Use.{Use}
use Rattle.mdb_log.specs.declared.step.Use.TheVariants.{Ok}
use Rattle.mdb_pool.specs.Core.{PoolCore}
use Rattle.mdb_log.specs.History.{PoolItem, without, given, gave_up, returned, ended, pinned_by, replicated, taken, unpinned, checked_in}
use Rattle.mdb_pool.specs.Kept.Values.{connection_at, request_at, given_in, given_of, holder_at, used_as, timeouts_in, is_pinned_at}
use Rattle.mdb_log.specs.Requests.{queued}
use Rattle.mdb_pool.specs.Kept.Matching.{Matches}
use Rattle.mdb_log.specs.Connections.{holding, pins, is_pinned}
use Rattle.mdb_pool.specs.Kept.Places.{is_pending, is_available, is_at_pin, is_queued, stays}
use Rattle.mdb_pool.specs.Acts.Changes.{to_pin, pinning, taking, unpinned_once, unpinning, pin_ending}
use Rattle.mdb_pool.proofs.Follows.Serving.{parties-without, holder-given, pending-place}
use Rattle.mdb_log.proofs.Pins.{pinned-again, holding-one, errored-return}
use Rattle.mdb_pool_rules.proofs.Listed.Values.{without-absent, entry_at-put, where-put, named, named-put, length-put, passes, has-where, where-put_stay, entry_at-swap, named-swap, length-swap, where-swap_stay, where-swap_same, one_if-le}

abbrev id_of : Connection → ℕ
id_of x = x.id

abbrev number_of : Request → ℕ
number_of q = q.number

-- a pinned connection that is held comes back
module _ (s : PoolCore) (xs : List PoolItem) (m : Matches s xs) (n : ℕ) (x : Connection) (q : Request)
    (at_x : connection_at s x.id ≡ Some x) (place : x.place ≡ Held) (at_q : request_at s q.number ≡ Some q) (phase : q.phase ≡ Given x.id) (some_pins : nat_lt 0 x.pins ≡ true) where
  was_given : given xs q.number ≡ Some x.id
  was_given = m.requests.given q.number ∙ (ap given_of at_q ∙ ap given_in phase)

  given_now : given_of (request_at s q.number) ≡ Some x.id
  given_now = ap given_of at_q ∙ ap given_in phase

  was_held : holder_at (connection_at s x.id) ≡ Some q.number
  was_held = m.links.taken q.number x.id given_now

  held_it : holding xs q.number ≡ Some x.id
  held_it = holding-one xs q.number x.id was_given (pending-place s xs m x at_x ∙ ap is_pending place)

  -- as it is returned
  module _ (used : Use) where
    abbrev back_x : Connection
    back_x = record (used_as x used) { place = Pinned; holder = None }

    abbrev back_q : Request
    back_q = record q { phase = Over }

    back_connection : (c : ℕ) → connection_at (to_pin s n (used_as x used) q Over) c ≡ if x.id == c then Some back_x else connection_at s c
    back_connection c = entry_at-swap id_of c back_x s.kept.connections (ap is_some at_x)

    pub back_request : (r : ℕ) → request_at (to_pin s n (used_as x used) q Over) r ≡ if q.number == r then Some back_q else request_at s r
    back_request r = entry_at-swap number_of r back_q s.kept.requests (ap is_some at_q)

    pub stand-matches : Matches (to_pin s n (used_as x used) q Over) (returned q.number used ∷ xs)
    stand-matches = record {
      counts = record {
        created = m.counts.created;
        live_all = m.counts.live_all ∙ sym (length-swap id_of back_x s.kept.connections);
        pending = m.counts.pending ∙ sym (where-swap_stay id_of (λ y. is_pending y.place) back_x s.kept.connections refl (m.counts.single x.id) (ap (passes id_of (λ y. is_pending y.place)) at_x ∙ ap is_pending place));
        available = m.counts.available ∙ sym (where-swap_stay id_of (λ y. is_available y.place) back_x s.kept.connections refl (m.counts.single x.id) (ap (passes id_of (λ y. is_available y.place)) at_x ∙ ap is_available place));
        single = λ c. grind (arith, named-swap id_of c back_x s.kept.connections, back_connection c, m.counts.single c);
        unused = λ c h. grind (arith, back_connection c, m.counts.unused c h);
      };
      connections = record {
        live = λ c. grind (arith, back_connection c, m.connections.live c);
        parties = λ c. parties-without s xs m q.number c ∙ grind (arith, back_connection c, m.connections.parties c, holder-given s xs m q.number c, given_now, was_held, at_x);
        ungranted = m.connections.ungranted;
        granted_to = λ c y e. grind (arith, back_connection c, m.connections.granted_to c y, m.connections.granted_to x.id x at_x);
        created_at = λ c y e. grind (arith, back_connection c, m.connections.created_at c y, m.connections.created_at x.id x at_x);
        since = λ c y e f. grind (arith, back_connection c, m.connections.since c y);
      };
      told = record {
        served = λ c. grind (arith, nat_tests, back_connection c, m.told.served c, m.told.served x.id, at_x);
        service = λ c. grind (arith, nat_tests, back_connection c, m.told.service c, m.told.service x.id, at_x);
        wire = λ c. grind (arith, nat_tests, back_connection c, m.told.wire c, m.told.wire x.id, at_x);
      };
      requests = record {
        queue = m.requests.queue ∙ sym (where-swap_stay number_of (λ y. is_queued y.phase) back_q s.kept.requests refl (m.requests.single_request q.number) (ap (passes number_of (λ y. is_queued y.phase)) at_q ∙ ap is_queued phase));
        given = λ r. grind (arith, back_request r, m.requests.given r);
        single_request = λ r. grind (arith, named-swap number_of r back_q s.kept.requests, back_request r, m.requests.single_request r);
        asked_at = λ r. grind (arith, back_request r, m.requests.asked_at r);
        ends = λ r. grind (arith, back_request r, m.requests.ends r, at_q, phase);
        asks = λ r. grind (arith, back_request r, m.requests.asks r);
        warm = λ r. grind (arith, back_request r, m.requests.warm r);
      };
      links = record {
        taken = λ r c h. grind (arith, back_request r, back_connection c, m.links.taken r c, m.links.owned c r, was_held, at_x, at_q);
        owned = λ c r h. grind (arith, back_request r, back_connection c, m.links.owned c r, m.links.taken r c, was_held, at_x, at_q);
        known = λ c y r e f. grind (arith, back_request r, back_connection c, m.links.known c y r, m.links.known x.id x r at_x);
        free = λ c y e f. grind (arith, back_connection c, m.links.free c y);
        busy = λ c y e f. grind (arith, back_connection c, m.links.busy c y);
        waits = λ c y r e f g. grind (arith, back_connection c, m.links.waits c y r);
        left_by = λ c y r e f g h. grind (arith, back_connection c, m.links.left_by c y r, back_request r, at_q, phase);
        fills = λ c y r e f g. grind (arith, back_connection c, back_request r, m.links.fills c y r);
      };
      pinning = record {
        pins = λ c. grind (arith, back_connection c, m.pinning.pins c, m.pinning.pins x.id, at_x);
        loose = λ c y e f. grind (arith, back_connection c, m.pinning.loose c y);
        rests = λ c y e f. grind (arith, back_connection c, m.pinning.rests c y);
      };
      uses = record {
        errored = λ c. rw (errored-return q.number used xs c, was_given) (grind (arith, nat_tests, back_connection c, m.uses.errored c, m.uses.errored x.id, at_x));
        dropped = λ c. rw was_given (grind (arith, nat_tests, back_connection c, m.uses.dropped c, m.uses.dropped x.id, at_x));
        calm = λ c y e f. grind (arith, back_connection c, m.uses.calm c y);
      };
      clearing = m.clearing;
      at_pin = λ c. rw held_it (grind (arith, nat_tests, back_connection c, pinned-again xs c, m.at_pin c, m.pinning.pins x.id, at_x, some_pins));
    }

  -- as its party gives up
  abbrev left_x : Connection
  left_x = record (used_as x Ok) { place = Pinned; holder = None }

  abbrev left_q : Request
  left_q = record q { phase = EndedPhase GaveUp }

  left_connection : (c : ℕ) → connection_at (to_pin s n (used_as x Ok) q (EndedPhase GaveUp)) c ≡ if x.id == c then Some left_x else connection_at s c
  left_connection c = entry_at-swap id_of c left_x s.kept.connections (ap is_some at_x)

  pub left_request : (r : ℕ) → request_at (to_pin s n (used_as x Ok) q (EndedPhase GaveUp)) r ≡ if q.number == r then Some left_q else request_at s r
  left_request r = entry_at-swap number_of r left_q s.kept.requests (ap is_some at_q)

  pub quit-pinned-matches : Matches (to_pin s n (used_as x Ok) q (EndedPhase GaveUp)) (ended q.number GaveUp ∷ gave_up q.number ∷ xs)
  quit-pinned-matches = record {
    counts = record {
      created = m.counts.created;
      live_all = m.counts.live_all ∙ sym (length-swap id_of left_x s.kept.connections);
      pending = m.counts.pending ∙ sym (where-swap_stay id_of (λ y. is_pending y.place) left_x s.kept.connections refl (m.counts.single x.id) (ap (passes id_of (λ y. is_pending y.place)) at_x ∙ ap is_pending place));
      available = m.counts.available ∙ sym (where-swap_stay id_of (λ y. is_available y.place) left_x s.kept.connections refl (m.counts.single x.id) (ap (passes id_of (λ y. is_available y.place)) at_x ∙ ap is_available place));
      single = λ c. grind (arith, named-swap id_of c left_x s.kept.connections, left_connection c, m.counts.single c);
      unused = λ c h. grind (arith, left_connection c, m.counts.unused c h);
    };
    connections = record {
      live = λ c. grind (arith, left_connection c, m.connections.live c);
      parties = λ c. parties-without s xs m q.number c ∙ grind (arith, left_connection c, m.connections.parties c, holder-given s xs m q.number c, given_now, was_held, at_x);
      ungranted = m.connections.ungranted;
      granted_to = λ c y e. grind (arith, left_connection c, m.connections.granted_to c y, m.connections.granted_to x.id x at_x);
      created_at = λ c y e. grind (arith, left_connection c, m.connections.created_at c y, m.connections.created_at x.id x at_x);
      since = λ c y e f. grind (arith, left_connection c, m.connections.since c y);
    };
    told = record {
      served = λ c. grind (arith, nat_tests, left_connection c, m.told.served c, m.told.served x.id, at_x);
      service = λ c. grind (arith, nat_tests, left_connection c, m.told.service c, m.told.service x.id, at_x);
      wire = λ c. grind (arith, nat_tests, left_connection c, m.told.wire c, m.told.wire x.id, at_x);
    };
    requests = record {
      queue = without-absent q.number (queued xs) (rw m.requests.queue (has-where number_of (λ y. is_queued y.phase) q.number s.kept.requests (m.requests.single_request q.number) ∙ (ap (passes number_of (λ y. is_queued y.phase)) at_q ∙ ap is_queued phase))) ∙ (m.requests.queue ∙ sym (where-swap_stay number_of (λ y. is_queued y.phase) left_q s.kept.requests refl (m.requests.single_request q.number) (ap (passes number_of (λ y. is_queued y.phase)) at_q ∙ ap is_queued phase)));
      given = λ r. grind (arith, left_request r, m.requests.given r);
      single_request = λ r. grind (arith, named-swap number_of r left_q s.kept.requests, left_request r, m.requests.single_request r);
      asked_at = λ r. grind (arith, left_request r, m.requests.asked_at r);
      ends = λ r. grind (arith, left_request r, m.requests.ends r);
      asks = λ r. grind (arith, left_request r, m.requests.asks r);
      warm = λ r. grind (arith, left_request r, m.requests.warm r);
    };
    links = record {
      taken = λ r c h. grind (arith, left_request r, left_connection c, m.links.taken r c, m.links.owned c r, was_held, at_x, at_q);
      owned = λ c r h. grind (arith, left_request r, left_connection c, m.links.owned c r, m.links.taken r c, was_held, at_x, at_q);
      known = λ c y r e f. grind (arith, left_request r, left_connection c, m.links.known c y r, m.links.known x.id x r at_x);
      free = λ c y e f. grind (arith, left_connection c, m.links.free c y);
      busy = λ c y e f. grind (arith, left_connection c, m.links.busy c y);
      waits = λ c y r e f g. grind (arith, left_connection c, m.links.waits c y r);
      left_by = λ c y r e f g h. grind (arith, left_connection c, m.links.left_by c y r, left_request r);
      fills = λ c y r e f g. grind (arith, left_connection c, left_request r, m.links.fills c y r);
    };
    pinning = record {
      pins = λ c. grind (arith, left_connection c, m.pinning.pins c, m.pinning.pins x.id, at_x);
      loose = λ c y e f. grind (arith, left_connection c, m.pinning.loose c y);
      rests = λ c y e f. grind (arith, left_connection c, m.pinning.rests c y);
    };
    uses = record {
      errored = λ c. grind (arith, nat_tests, left_connection c, m.uses.errored c, m.uses.errored x.id, at_x);
      dropped = λ c. rw was_given (grind (arith, nat_tests, left_connection c, m.uses.dropped c, m.uses.dropped x.id, at_x));
      calm = λ c y e f. grind (arith, left_connection c, m.uses.calm c y);
    };
    clearing = m.clearing;
    at_pin = λ c. rw held_it (grind (arith, nat_tests, left_connection c, pinned-again xs c, m.at_pin c, m.pinning.pins x.id, at_x, some_pins));
  }

-- a connection gets one more pin
module _ (s : PoolCore) (xs : List PoolItem) (m : Matches s xs) (n : ℕ) (x : Connection) (at_x : connection_at s x.id ≡ Some x) (outside : stays x.place ≡ true) where
  abbrev pinned_x : Connection
  pinned_x = record x { pins = x.pins + 1 }

  pinned_connection : (c : ℕ) → connection_at (pinning s n x) c ≡ if x.id == c then Some pinned_x else connection_at s c
  pinned_connection c = entry_at-swap id_of c pinned_x s.kept.connections (ap is_some at_x)

  once : named id_of x.id s.kept.connections ≤ 1
  once = rw (m.counts.single x.id) (one_if-le (is_some (connection_at s x.id)))

  -- from its holder
  pub pin-matches : (r : ℕ) → given xs r ≡ Some x.id → x.place ≡ Held → Matches (pinning s n x) (pinned_by r ∷ xs)
  pin-matches k mine place = record {
    counts = record {
      created = m.counts.created;
      live_all = m.counts.live_all ∙ sym (length-swap id_of pinned_x s.kept.connections);
      pending = m.counts.pending ∙ sym (where-swap_same id_of (λ y. is_pending y.place) pinned_x x s.kept.connections at_x once refl);
      available = m.counts.available ∙ sym (where-swap_same id_of (λ y. is_available y.place) pinned_x x s.kept.connections at_x once refl);
      single = λ c. grind (arith, named-swap id_of c pinned_x s.kept.connections, pinned_connection c, m.counts.single c);
      unused = λ c h. grind (arith, pinned_connection c, m.counts.unused c h);
    };
    connections = record {
      live = λ c. grind (arith, pinned_connection c, m.connections.live c);
      parties = λ c. grind (arith, pinned_connection c, m.connections.parties c, m.connections.parties x.id, at_x);
      ungranted = m.connections.ungranted;
      granted_to = λ c y e. grind (arith, pinned_connection c, m.connections.granted_to c y, m.connections.granted_to x.id x at_x);
      created_at = λ c y e. grind (arith, pinned_connection c, m.connections.created_at c y, m.connections.created_at x.id x at_x);
      since = λ c y e f. grind (arith, pinned_connection c, m.connections.since c y, m.connections.since x.id x at_x);
    };
    told = record {
      served = λ c. grind (arith, nat_tests, pinned_connection c, m.told.served c, m.told.served x.id, at_x);
      service = λ c. grind (arith, nat_tests, pinned_connection c, m.told.service c, m.told.service x.id, at_x);
      wire = λ c. grind (arith, nat_tests, pinned_connection c, m.told.wire c, m.told.wire x.id, at_x);
    };
    requests = m.requests;
    links = record {
      taken = λ r c h. grind (arith, pinned_connection c, m.links.taken r c, m.links.owned c r, at_x);
      owned = λ c r h. grind (arith, pinned_connection c, m.links.owned c r, m.links.taken r c, at_x);
      known = λ c y r e f. grind (arith, pinned_connection c, m.links.known c y r, m.links.known x.id x r at_x);
      free = λ c y e f. grind (arith, pinned_connection c, m.links.free c y, m.links.free x.id x at_x);
      busy = λ c y e f. grind (arith, pinned_connection c, m.links.busy c y, m.links.busy x.id x at_x);
      waits = λ c y r e f g. grind (arith, pinned_connection c, m.links.waits c y r, m.links.waits x.id x r at_x);
      left_by = λ c y r e f g h. grind (arith, pinned_connection c, m.links.left_by c y r, m.links.left_by x.id x r at_x);
      fills = λ c y r e f g. grind (arith, pinned_connection c, m.links.fills c y r, m.links.fills x.id x r at_x);
    };
    pinning = record {
      pins = λ c. rw mine (grind (arith, nat_tests, pinned_connection c, m.pinning.pins c, m.pinning.pins x.id, at_x));
      loose = λ c y e f. grind (arith, pinned_connection c, m.pinning.loose c y, outside);
      rests = λ c y e f. grind (arith, pinned_connection c, m.pinning.rests c y, m.pinning.rests x.id x at_x);
    };
    uses = record {
      errored = λ c. grind (arith, nat_tests, pinned_connection c, m.uses.errored c, m.uses.errored x.id, at_x);
      dropped = λ c. grind (arith, nat_tests, pinned_connection c, m.uses.dropped c, m.uses.dropped x.id, at_x);
      calm = λ c y e f. grind (arith, pinned_connection c, m.uses.calm c y, m.uses.calm x.id x at_x);
    };
    clearing = m.clearing;
    at_pin = λ c. rw mine (grind (arith, nat_tests, pinned_connection c, pinned-again xs c, m.at_pin c, m.at_pin x.id, at_x, place));
  }

  -- from another
  pub replicate-matches : Matches (pinning s n x) (replicated x.id ∷ xs)
  replicate-matches = record {
    counts = record {
      created = m.counts.created;
      live_all = m.counts.live_all ∙ sym (length-swap id_of pinned_x s.kept.connections);
      pending = m.counts.pending ∙ sym (where-swap_same id_of (λ y. is_pending y.place) pinned_x x s.kept.connections at_x once refl);
      available = m.counts.available ∙ sym (where-swap_same id_of (λ y. is_available y.place) pinned_x x s.kept.connections at_x once refl);
      single = λ c. grind (arith, named-swap id_of c pinned_x s.kept.connections, pinned_connection c, m.counts.single c);
      unused = λ c h. grind (arith, pinned_connection c, m.counts.unused c h);
    };
    connections = record {
      live = λ c. grind (arith, pinned_connection c, m.connections.live c);
      parties = λ c. grind (arith, pinned_connection c, m.connections.parties c, m.connections.parties x.id, at_x);
      ungranted = m.connections.ungranted;
      granted_to = λ c y e. grind (arith, pinned_connection c, m.connections.granted_to c y, m.connections.granted_to x.id x at_x);
      created_at = λ c y e. grind (arith, pinned_connection c, m.connections.created_at c y, m.connections.created_at x.id x at_x);
      since = λ c y e f. grind (arith, pinned_connection c, m.connections.since c y, m.connections.since x.id x at_x);
    };
    told = record {
      served = λ c. grind (arith, nat_tests, pinned_connection c, m.told.served c, m.told.served x.id, at_x);
      service = λ c. grind (arith, nat_tests, pinned_connection c, m.told.service c, m.told.service x.id, at_x);
      wire = λ c. grind (arith, nat_tests, pinned_connection c, m.told.wire c, m.told.wire x.id, at_x);
    };
    requests = m.requests;
    links = record {
      taken = λ r c h. grind (arith, pinned_connection c, m.links.taken r c, m.links.owned c r, at_x);
      owned = λ c r h. grind (arith, pinned_connection c, m.links.owned c r, m.links.taken r c, at_x);
      known = λ c y r e f. grind (arith, pinned_connection c, m.links.known c y r, m.links.known x.id x r at_x);
      free = λ c y e f. grind (arith, pinned_connection c, m.links.free c y, m.links.free x.id x at_x);
      busy = λ c y e f. grind (arith, pinned_connection c, m.links.busy c y, m.links.busy x.id x at_x);
      waits = λ c y r e f g. grind (arith, pinned_connection c, m.links.waits c y r, m.links.waits x.id x r at_x);
      left_by = λ c y r e f g h. grind (arith, pinned_connection c, m.links.left_by c y r, m.links.left_by x.id x r at_x);
      fills = λ c y r e f g. grind (arith, pinned_connection c, m.links.fills c y r, m.links.fills x.id x r at_x);
    };
    pinning = record {
      pins = λ c. grind (arith, nat_tests, pinned_connection c, m.pinning.pins c, m.pinning.pins x.id, at_x);
      loose = λ c y e f. grind (arith, pinned_connection c, m.pinning.loose c y, outside);
      rests = λ c y e f. grind (arith, pinned_connection c, m.pinning.rests c y, m.pinning.rests x.id x at_x);
    };
    uses = record {
      errored = λ c. grind (arith, nat_tests, pinned_connection c, m.uses.errored c, m.uses.errored x.id, at_x);
      dropped = λ c. grind (arith, nat_tests, pinned_connection c, m.uses.dropped c, m.uses.dropped x.id, at_x);
      calm = λ c y e f. grind (arith, pinned_connection c, m.uses.calm c y, m.uses.calm x.id x at_x);
    };
    clearing = m.clearing;
    at_pin = λ c. pinned-more c (x.id == c) refl;
  }
    where
      one-more : (a : Bool) (k : ℕ) → a && nat_lt 0 (k + 1) ≡ a
      one-more true k = grind (arith, nat_tests)
      one-more false k = refl

      pinned-more : (c : ℕ) (b : Bool) → (x.id == c) ≡ b → is_pinned (replicated x.id ∷ xs) c ≡ is_pinned_at (connection_at (pinning s n x) c)
      pinned-more c true e = rw (pinned_connection c, e) (one-more (is_pinned xs c) (pins xs c) ∙ grind (arith, m.at_pin c, at_x))
      pinned-more c false e = rw (pinned_connection c, e) (grind (arith, pinned-again xs c, m.at_pin c))

-- a new party takes a connection from its pin
module _ (s : PoolCore) (xs : List PoolItem) (m : Matches s xs) (n k : ℕ) (x : Connection)
    (at_x : connection_at s x.id ≡ Some x) (place : x.place ≡ Pinned) (absent : request_at s k ≡ None) where
  abbrev taken_x : Connection
  taken_x = record x { place = Held; holder = Some k; timeouts = timeouts_in s.kept.clears }

  abbrev pub taken_q : Request
  taken_q = record { number = k; asked_at = 0; warm = false; took = true; phase = Given x.id }

  taken_connection : (c : ℕ) → connection_at (taking s n k x) c ≡ if x.id == c then Some taken_x else connection_at s c
  taken_connection c = entry_at-swap id_of c taken_x s.kept.connections (ap is_some at_x)

  pub taken_request : (r : ℕ) → request_at (taking s n k x) r ≡ if k == r then Some taken_q else request_at s r
  taken_request r = entry_at-put number_of r taken_q s.kept.requests

  nobody : x.holder ≡ None
  nobody = m.pinning.rests x.id x at_x (ap is_at_pin place)

  pub take-matches : Matches (taking s n k x) (taken k x.id ∷ xs)
  take-matches = record {
    counts = record {
      created = m.counts.created;
      live_all = m.counts.live_all ∙ sym (length-swap id_of taken_x s.kept.connections);
      pending = m.counts.pending ∙ sym (where-swap_stay id_of (λ y. is_pending y.place) taken_x s.kept.connections refl (m.counts.single x.id) (ap (passes id_of (λ y. is_pending y.place)) at_x ∙ ap is_pending place));
      available = m.counts.available ∙ sym (where-swap_stay id_of (λ y. is_available y.place) taken_x s.kept.connections refl (m.counts.single x.id) (ap (passes id_of (λ y. is_available y.place)) at_x ∙ ap is_available place));
      single = λ c. grind (arith, named-swap id_of c taken_x s.kept.connections, taken_connection c, m.counts.single c);
      unused = λ c h. grind (arith, taken_connection c, m.counts.unused c h);
    };
    connections = record {
      live = λ c. grind (arith, taken_connection c, m.connections.live c);
      parties = λ c. grind (arith, taken_connection c, m.connections.parties c, at_x, nobody);
      ungranted = m.connections.ungranted;
      granted_to = λ c y e. grind (arith, taken_connection c, m.connections.granted_to c y, m.connections.granted_to x.id x at_x);
      created_at = λ c y e. grind (arith, taken_connection c, m.connections.created_at c y, m.connections.created_at x.id x at_x);
      since = λ c y e f. grind (arith, taken_connection c, m.connections.since c y);
    };
    told = record {
      served = λ c. grind (arith, nat_tests, taken_connection c, m.told.served c, m.told.served x.id, at_x);
      service = λ c. grind (arith, nat_tests, taken_connection c, m.told.service c, m.told.service x.id, at_x);
      wire = λ c. grind (arith, nat_tests, taken_connection c, m.told.wire c, m.told.wire x.id, at_x);
    };
    requests = record {
      queue = m.requests.queue ∙ sym (where-put_stay number_of (λ y. is_queued y.phase) taken_q s.kept.requests refl (m.requests.single_request k) (ap (passes number_of (λ y. is_queued y.phase)) absent));
      given = λ r. grind (arith, taken_request r, m.requests.given r);
      single_request = λ r. grind (arith, named-put number_of r taken_q s.kept.requests, taken_request r, m.requests.single_request r);
      asked_at = λ r. grind (arith, taken_request r, m.requests.asked_at r, absent);
      ends = λ r. grind (arith, taken_request r, m.requests.ends r, absent);
      asks = λ r. grind (arith, taken_request r, m.requests.asks r, absent);
      warm = λ r. grind (arith, taken_request r, m.requests.warm r, absent);
    };
    links = record {
      taken = λ r c h. grind (arith, taken_request r, taken_connection c, m.links.taken r c, m.links.owned c r, at_x, nobody, absent);
      owned = λ c r h. grind (arith, taken_request r, taken_connection c, m.links.owned c r, m.links.taken r c, at_x, nobody, absent);
      known = λ c y r e f. grind (arith, taken_connection c, m.links.known c y r, m.links.known x.id x r at_x, taken_request r, absent);
      free = λ c y e f. grind (arith, taken_connection c, m.links.free c y);
      busy = λ c y e f. grind (arith, taken_connection c, m.links.busy c y);
      waits = λ c y r e f g. grind (arith, taken_connection c, m.links.waits c y r);
      left_by = λ c y r e f g h. grind (arith, taken_connection c, taken_request r, m.links.left_by c y r, m.links.known c y r, absent);
      fills = λ c y r e f g. grind (arith, taken_connection c, taken_request r, m.links.fills c y r, m.links.owned c r, absent);
    };
    pinning = record {
      pins = λ c. grind (arith, taken_connection c, m.pinning.pins c, m.pinning.pins x.id, at_x);
      loose = λ c y e f. grind (arith, taken_connection c, m.pinning.loose c y);
      rests = λ c y e f. grind (arith, taken_connection c, m.pinning.rests c y);
    };
    uses = record {
      errored = λ c. grind (arith, nat_tests, taken_connection c, m.uses.errored c, m.uses.errored x.id, at_x);
      dropped = λ c. grind (arith, nat_tests, taken_connection c, m.uses.dropped c, m.uses.dropped x.id, at_x);
      calm = λ c y e f. grind (arith, taken_connection c, m.uses.calm c y);
    };
    clearing = m.clearing;
    at_pin = λ c. grind (arith, nat_tests, taken_connection c, pinned-again xs c, m.at_pin c, at_x);
  }

-- a connection loses a pin, and stays where it is
module _ (s : PoolCore) (xs : List PoolItem) (m : Matches s xs) (n : ℕ) (x : Connection) (at_x : connection_at s x.id ≡ Some x) where
  abbrev fewer_x : Connection
  fewer_x = unpinned_once s x

  fewer_connection : (c : ℕ) → connection_at (unpinning s n x) c ≡ if x.id == c then Some fewer_x else connection_at s c
  fewer_connection c = entry_at-swap id_of c fewer_x s.kept.connections (ap is_some at_x)

  single_x : named id_of x.id s.kept.connections ≤ 1
  single_x = rw (m.counts.single x.id) (one_if-le (is_some (connection_at s x.id)))

  pub unpin-matches : nat_lt 0 x.pins ≡ true → is_at_pin x.place && (x.pins == 1) ≡ false → Matches (unpinning s n x) (unpinned x.id ∷ xs)
  unpin-matches some_pins not_last = record {
    counts = record {
      created = m.counts.created;
      live_all = m.counts.live_all ∙ sym (length-swap id_of fewer_x s.kept.connections);
      pending = m.counts.pending ∙ sym (where-swap_same id_of (λ y. is_pending y.place) fewer_x x s.kept.connections at_x single_x refl);
      available = m.counts.available ∙ sym (where-swap_same id_of (λ y. is_available y.place) fewer_x x s.kept.connections at_x single_x refl);
      single = λ c. grind (arith, named-swap id_of c fewer_x s.kept.connections, fewer_connection c, m.counts.single c);
      unused = λ c h. grind (arith, fewer_connection c, m.counts.unused c h);
    };
    connections = record {
      live = λ c. grind (arith, fewer_connection c, m.connections.live c);
      parties = λ c. grind (arith, fewer_connection c, m.connections.parties c, m.connections.parties x.id, at_x);
      ungranted = m.connections.ungranted;
      granted_to = λ c y e. grind (arith, fewer_connection c, m.connections.granted_to c y, m.connections.granted_to x.id x at_x);
      created_at = λ c y e. grind (arith, fewer_connection c, m.connections.created_at c y, m.connections.created_at x.id x at_x);
      since = λ c y e f. grind (arith, fewer_connection c, m.connections.since c y, m.connections.since x.id x at_x);
    };
    told = record {
      served = λ c. grind (arith, nat_tests, fewer_connection c, m.told.served c, m.told.served x.id, at_x);
      service = λ c. grind (arith, nat_tests, fewer_connection c, m.told.service c, m.told.service x.id, at_x);
      wire = λ c. grind (arith, nat_tests, fewer_connection c, m.told.wire c, m.told.wire x.id, at_x);
    };
    requests = m.requests;
    links = record {
      taken = λ r c h. grind (arith, fewer_connection c, m.links.taken r c, m.links.owned c r, at_x);
      owned = λ c r h. grind (arith, fewer_connection c, m.links.owned c r, m.links.taken r c, at_x);
      known = λ c y r e f. grind (arith, fewer_connection c, m.links.known c y r, m.links.known x.id x r at_x);
      free = λ c y e f. grind (arith, fewer_connection c, m.links.free c y, m.links.free x.id x at_x);
      busy = λ c y e f. grind (arith, fewer_connection c, m.links.busy c y, m.links.busy x.id x at_x);
      waits = λ c y r e f g. grind (arith, fewer_connection c, m.links.waits c y r, m.links.waits x.id x r at_x);
      left_by = λ c y r e f g h. grind (arith, fewer_connection c, m.links.left_by c y r, m.links.left_by x.id x r at_x);
      fills = λ c y r e f g. grind (arith, fewer_connection c, m.links.fills c y r, m.links.fills x.id x r at_x);
    };
    pinning = record {
      pins = λ c. grind (arith, nat_tests, fewer_connection c, m.pinning.pins c, m.pinning.pins x.id, at_x);
      loose = λ c y e f. grind (arith, fewer_connection c, m.pinning.loose c y, m.pinning.loose x.id x at_x);
      rests = λ c y e f. grind (arith, fewer_connection c, m.pinning.rests c y, m.pinning.rests x.id x at_x);
    };
    uses = record {
      errored = λ c. grind (arith, nat_tests, fewer_connection c, m.uses.errored c, m.uses.errored x.id, at_x);
      dropped = λ c. grind (arith, nat_tests, fewer_connection c, m.uses.dropped c, m.uses.dropped x.id, at_x);
      calm = λ c y e f. grind (arith, fewer_connection c, m.uses.calm c y);
    };
    clearing = m.clearing;
    at_pin = λ c. pinned-less c (x.id == c) refl;
  }
    where
      one-less : (a : Bool) (k : ℕ) → nat_lt 0 k ≡ true → a && (k == 1) ≡ false → a && nat_lt 0 (k - 1) ≡ a
      one-less true k e f = grind (arith, nat_tests)
      one-less false k e f = refl

      pinned-less : (c : ℕ) (b : Bool) → (x.id == c) ≡ b → is_pinned (unpinned x.id ∷ xs) c ≡ is_pinned_at (connection_at (unpinning s n x) c)
      pinned-less c true e = let same : x.id ≡ c = grind arith in rw (fewer_connection c, e, ← same, m.at_pin x.id, m.pinning.pins x.id, at_x) (one-less (is_at_pin x.place) x.pins some_pins not_last)
      pinned-less c false e = rw (fewer_connection c, e) (grind (arith, nat_tests, pinned-again xs c, m.at_pin c))

  -- its last pin goes, and it is available
  abbrev free_x : Connection
  free_x = record fewer_x { place = Available; holder = None; since = n }

  free_connection : (c : ℕ) → connection_at (pin_ending s n x None) c ≡ if x.id == c then Some free_x else connection_at s c
  free_connection c = entry_at-put id_of c free_x s.kept.connections

  pub pin-end-matches : x.place ≡ Pinned → x.pins ≡ 1 → Matches (pin_ending s n x None) (checked_in x.id n ∷ unpinned x.id ∷ xs)
  pin-end-matches place one = record {
    counts = record {
      created = m.counts.created;
      live_all = grind (arith, m.counts.live_all, length-put id_of free_x s.kept.connections, m.counts.single x.id);
      pending = m.counts.pending ∙ sym (where-put_stay id_of (λ y. is_pending y.place) free_x s.kept.connections refl (m.counts.single x.id) (ap (passes id_of (λ y. is_pending y.place)) at_x ∙ ap is_pending place));
      available = ap (λ cs. without x.id cs ++ x.id ∷ []) m.counts.available ∙ sym (where-put id_of (λ y. is_available y.place) free_x s.kept.connections);
      single = λ c. grind (arith, named-put id_of c free_x s.kept.connections, free_connection c, m.counts.single c);
      unused = λ c h. grind (arith, free_connection c, m.counts.unused c h);
    };
    connections = record {
      live = λ c. grind (arith, free_connection c, m.connections.live c);
      parties = λ c. grind (arith, free_connection c, m.connections.parties c, at_x, nobody);
      ungranted = m.connections.ungranted;
      granted_to = λ c y e. grind (arith, free_connection c, m.connections.granted_to c y, m.connections.granted_to x.id x at_x);
      created_at = λ c y e. grind (arith, free_connection c, m.connections.created_at c y, m.connections.created_at x.id x at_x);
      since = λ c y e f. grind (arith, free_connection c, m.connections.since c y);
    };
    told = record {
      served = λ c. grind (arith, nat_tests, free_connection c, m.told.served c, m.told.served x.id, at_x);
      service = λ c. grind (arith, nat_tests, free_connection c, m.told.service c, m.told.service x.id, at_x);
      wire = λ c. grind (arith, nat_tests, free_connection c, m.told.wire c, m.told.wire x.id, at_x);
    };
    requests = m.requests;
    links = record {
      taken = λ r c h. grind (arith, free_connection c, m.links.taken r c, at_x, nobody);
      owned = λ c r h. grind (arith, free_connection c, m.links.owned c r);
      known = λ c y r e f. grind (arith, free_connection c, m.links.known c y r, m.links.known x.id x r at_x);
      free = λ c y e f. grind (arith, free_connection c, m.links.free c y);
      busy = λ c y e f. grind (arith, free_connection c, m.links.busy c y);
      waits = λ c y r e f g. grind (arith, free_connection c, m.links.waits c y r);
      left_by = λ c y r e f g h. grind (arith, free_connection c, m.links.left_by c y r);
      fills = λ c y r e f g. grind (arith, free_connection c, m.links.fills c y r);
    };
    pinning = record {
      pins = λ c. grind (arith, nat_tests, free_connection c, m.pinning.pins c, m.pinning.pins x.id, at_x);
      loose = λ c y e f. grind (arith, free_connection c, m.pinning.loose c y, one);
      rests = λ c y e f. grind (arith, free_connection c, m.pinning.rests c y);
    };
    uses = record {
      errored = λ c. grind (arith, nat_tests, free_connection c, m.uses.errored c, m.uses.errored x.id, at_x);
      dropped = λ c. grind (arith, nat_tests, free_connection c, m.uses.dropped c, m.uses.dropped x.id, at_x);
      calm = λ c y e f. grind (arith, free_connection c, m.uses.calm c y);
    };
    clearing = m.clearing;
    at_pin = λ c. grind (arith, nat_tests, free_connection c, pinned-again xs c, m.at_pin c, m.pinning.pins c, at_x, one);
  }
    where
      nobody : x.holder ≡ None
      nobody = m.pinning.rests x.id x at_x (ap is_at_pin place)
