-- What connections that are established, returned or given up do follows the items of the pool.
use Rattle.std.proofs.Common.{ℕ, ◌≡◌, arith, false, ◌==◌, List, [], ◌∷◌, ◌++◌, Some, None, is_some, refl, sym, ◌∙◌, ap, if◌then◌else◌, Option}
use Rattle.std.proofs.lemmas.Grind.{common_steps}
use Rattle.std.proofs.lemmas.Bool.Decides.{nat_tests}
use Rattle.mdb_pool.specs.declared.kept.connection.Connection.{Connection}
use Rattle.mdb_pool.specs.declared.kept.connection.Place.TheVariants.{Pending, Available, Held}
use Rattle.mdb_pool.specs.declared.kept.request.Request.{Request}
use Rattle.mdb_pool.specs.declared.kept.request.Phase.TheVariants.{Given, Over}
use Rattle.mdb_log.specs.declared.step.Use.{Use}
use Rattle.mdb_pool.specs.Core.{PoolCore}
use Rattle.mdb_log.specs.History.{PoolItem, without, given, returned, established, closed, checked_in}
use Rattle.mdb_pool.specs.Kept.Values.{connection_at, request_at, given_in, given_of, holder_at, warm_of, used_as}
use Rattle.mdb_pool.specs.Kept.Matching.{Matches}
use Rattle.mdb_log.specs.Connections.{granted_to, available_list, holding}
use Rattle.mdb_pool.specs.Kept.Places.{is_pending, is_available, is_queued, stays}
use Rattle.mdb_pool.specs.Acts.Changes.{establishing, pooling, returning, dropping}
use Rattle.mdb_pool.proofs.Follows.Serving.{parties-without, holder-given, pending-place}
use Rattle.mdb_log.proofs.Pins.{pinned-again, holding-one, errored-return}
use Rattle.mdb_pool_rules.proofs.Listed.Values.{entry_at-others, map-filter-others, entry_at-put, where-put, named-others, named-put, length-others, length-put, passes, where-put_out, where-put_stay, entry_at-swap, named-swap, where-swap_stay}
use Rattle.mdb_log.specs.declared.step.Established.{Established}

abbrev id_of : Connection → ℕ
id_of x = x.id

abbrev number_of : Request → ℕ
number_of q = q.number

pub without-again : (c : ℕ) (cs : List ℕ) → without c (without c cs ++ c ∷ []) ≡ without c cs
without-again c [] = grind (arith, common_steps)
without-again c (d ∷ cs) = grind (arith, common_steps, without-again c cs)

-- a pending connection is established
module _ (s : PoolCore) (xs : List PoolItem) (m : Matches s xs) (n : ℕ) (x : Connection) (how : Established)
    (at_x : connection_at s x.id ≡ Some x) (place : x.place ≡ Pending) where
  was_granted : granted_to xs x.id ≡ x.party
  was_granted = m.connections.granted_to x.id x at_x

  no_pins : x.pins ≡ 0
  no_pins = m.pinning.loose x.id x at_x (ap stays place)

  abbrev up_x : Connection
  up_x = record x { place = Held; service = how.service_id; wire = Some how.wire }

  up_connection : (c : ℕ) → connection_at (establishing s n x how) c ≡ if x.id == c then Some up_x else connection_at s c
  up_connection c = entry_at-put id_of c up_x s.kept.connections

  -- its requester holds it
  pub establish-matches : (k : ℕ) → x.holder ≡ Some k → warm_of (request_at s k) ≡ false → Matches (establishing s n x how) (established x.id how n ∷ xs)
  establish-matches k held cold = record {
    counts = record {
      created = m.counts.created;
      live_all = grind (arith, m.counts.live_all, length-put id_of up_x s.kept.connections, m.counts.single x.id);
      pending = ap (without x.id) m.counts.pending ∙ sym (where-put_out id_of (λ y. is_pending y.place) up_x s.kept.connections refl);
      available = rw (was_granted ∙ m.links.waits x.id x k at_x (ap is_pending place) held) (m.counts.available ∙ sym (where-put_stay id_of (λ y. is_available y.place) up_x s.kept.connections refl (m.counts.single x.id) (ap (passes id_of (λ y. is_available y.place)) at_x ∙ ap is_available place)));
      single = λ c. grind (arith, named-put id_of c up_x s.kept.connections, up_connection c, m.counts.single c);
      unused = λ c h. grind (arith, up_connection c, m.counts.unused c h);
    };
    connections = record {
      live = λ c. grind (arith, up_connection c, m.connections.live c);
      parties = λ c. grind (arith, common_steps, up_connection c, m.connections.parties c, at_x);
      ungranted = m.connections.ungranted;
      granted_to = λ c y e. grind (arith, up_connection c, m.connections.granted_to c y, m.connections.granted_to x.id x at_x);
      created_at = λ c y e. grind (arith, up_connection c, m.connections.created_at c y, m.connections.created_at x.id x at_x);
      since = λ c y e f. grind (arith, up_connection c, m.connections.since c y);
    };
    told = record {
      served = λ c. grind (arith, nat_tests, up_connection c, m.told.served c, m.told.served x.id, at_x);
      service = λ c. grind (arith, nat_tests, up_connection c, m.told.service c, m.told.service x.id, at_x);
      wire = λ c. grind (arith, nat_tests, up_connection c, m.told.wire c, m.told.wire x.id, at_x);
    };
    requests = m.requests;
    links = record {
      taken = λ r c h. grind (arith, up_connection c, m.links.taken r c, m.links.owned c r, at_x);
      owned = λ c r h. grind (arith, up_connection c, m.links.owned c r, m.links.taken r c, at_x);
      known = λ c y r e f. grind (arith, up_connection c, m.links.known c y r, m.links.known x.id x r at_x);
      free = λ c y e f. grind (arith, up_connection c, m.links.free c y);
      busy = λ c y e f. grind (arith, up_connection c, m.links.busy c y, held);
      waits = λ c y r e f g. grind (arith, up_connection c, m.links.waits c y r);
      left_by = λ c y r e f g h. grind (arith, up_connection c, m.links.left_by c y r);
      fills = λ c y r e f g. grind (arith, up_connection c, m.links.fills c y r, held, cold);
    };
    pinning = record {
      pins = λ c. grind (arith, up_connection c, m.pinning.pins c, m.pinning.pins x.id, at_x);
      loose = λ c y e f. grind (arith, up_connection c, m.pinning.loose c y, no_pins);
      rests = λ c y e f. grind (arith, up_connection c, m.pinning.rests c y);
    };
    uses = record {
      errored = λ c. grind (arith, nat_tests, up_connection c, m.uses.errored c, m.uses.errored x.id, at_x);
      dropped = λ c. grind (arith, nat_tests, up_connection c, m.uses.dropped c, m.uses.dropped x.id, at_x);
      calm = λ c y e f. grind (arith, up_connection c, m.uses.calm c y, m.uses.calm x.id x at_x);
    };
    clearing = m.clearing;
    at_pin = λ c. grind (arith, up_connection c, pinned-again xs c, m.at_pin c, m.at_pin x.id, at_x, place);
  }

  abbrev in_x : Connection
  in_x = record x { place = Available; holder = None; service = how.service_id; wire = Some how.wire; since = n }

  in_connection : (c : ℕ) → connection_at (pooling s n x how) c ≡ if x.id == c then Some in_x else connection_at s c
  in_connection c = entry_at-put id_of c in_x s.kept.connections

  kept_in : (o : Option ℕ) → without x.id (if is_some o then available_list xs else (without x.id (available_list xs) ++ x.id ∷ [])) ++ x.id ∷ [] ≡ without x.id (available_list xs) ++ x.id ∷ []
  kept_in None = ap (λ cs. cs ++ x.id ∷ []) (without-again x.id (available_list xs))
  kept_in (Some k) = refl

  -- its requester gave up, and it is checked in
  pub pool-matches : x.holder ≡ None → Matches (pooling s n x how) (checked_in x.id n ∷ established x.id how n ∷ xs)
  pool-matches alone = record {
    counts = record {
      created = m.counts.created;
      live_all = grind (arith, m.counts.live_all, length-put id_of in_x s.kept.connections, m.counts.single x.id);
      pending = ap (without x.id) m.counts.pending ∙ sym (where-put_out id_of (λ y. is_pending y.place) in_x s.kept.connections refl);
      available = kept_in (granted_to xs x.id) ∙ (ap (λ cs. without x.id cs ++ x.id ∷ []) m.counts.available ∙ sym (where-put id_of (λ y. is_available y.place) in_x s.kept.connections));
      single = λ c. grind (arith, named-put id_of c in_x s.kept.connections, in_connection c, m.counts.single c);
      unused = λ c h. grind (arith, in_connection c, m.counts.unused c h);
    };
    connections = record {
      live = λ c. grind (arith, in_connection c, m.connections.live c);
      parties = λ c. grind (arith, in_connection c, m.connections.parties c, at_x, alone);
      ungranted = m.connections.ungranted;
      granted_to = λ c y e. grind (arith, in_connection c, m.connections.granted_to c y, m.connections.granted_to x.id x at_x);
      created_at = λ c y e. grind (arith, in_connection c, m.connections.created_at c y, m.connections.created_at x.id x at_x);
      since = λ c y e f. grind (arith, in_connection c, m.connections.since c y);
    };
    told = record {
      served = λ c. grind (arith, nat_tests, in_connection c, m.told.served c, m.told.served x.id, at_x);
      service = λ c. grind (arith, nat_tests, in_connection c, m.told.service c, m.told.service x.id, at_x);
      wire = λ c. grind (arith, nat_tests, in_connection c, m.told.wire c, m.told.wire x.id, at_x);
    };
    requests = m.requests;
    links = record {
      taken = λ r c h. grind (arith, in_connection c, m.links.taken r c, at_x, alone);
      owned = λ c r h. grind (arith, in_connection c, m.links.owned c r);
      known = λ c y r e f. grind (arith, in_connection c, m.links.known c y r, m.links.known x.id x r at_x);
      free = λ c y e f. grind (arith, in_connection c, m.links.free c y);
      busy = λ c y e f. grind (arith, in_connection c, m.links.busy c y);
      waits = λ c y r e f g. grind (arith, in_connection c, m.links.waits c y r);
      left_by = λ c y r e f g h. grind (arith, in_connection c, m.links.left_by c y r);
      fills = λ c y r e f g. grind (arith, in_connection c, m.links.fills c y r);
    };
    pinning = record {
      pins = λ c. grind (arith, in_connection c, m.pinning.pins c, m.pinning.pins x.id, at_x);
      loose = λ c y e f. grind (arith, in_connection c, m.pinning.loose c y, no_pins);
      rests = λ c y e f. grind (arith, in_connection c, m.pinning.rests c y);
    };
    uses = record {
      errored = λ c. grind (arith, nat_tests, in_connection c, m.uses.errored c, m.uses.errored x.id, at_x);
      dropped = λ c. grind (arith, nat_tests, in_connection c, m.uses.dropped c, m.uses.dropped x.id, at_x);
      calm = λ c y e f. grind (arith, in_connection c, m.uses.calm c y, m.uses.calm x.id x at_x);
    };
    clearing = m.clearing;
    at_pin = λ c. grind (arith, in_connection c, pinned-again xs c, m.at_pin c, m.at_pin x.id, at_x, place);
  }

  -- it has none, and is available from now on
  pub rest-matches : x.holder ≡ None → x.party ≡ None → Matches (pooling s n x how) (established x.id how n ∷ xs)
  rest-matches alone nobody = record {
    counts = record {
      created = m.counts.created;
      live_all = grind (arith, m.counts.live_all, length-put id_of in_x s.kept.connections, m.counts.single x.id);
      pending = ap (without x.id) m.counts.pending ∙ sym (where-put_out id_of (λ y. is_pending y.place) in_x s.kept.connections refl);
      available = rw (was_granted ∙ nobody) (ap (λ cs. without x.id cs ++ x.id ∷ []) m.counts.available ∙ sym (where-put id_of (λ y. is_available y.place) in_x s.kept.connections));
      single = λ c. grind (arith, named-put id_of c in_x s.kept.connections, in_connection c, m.counts.single c);
      unused = λ c h. grind (arith, in_connection c, m.counts.unused c h);
    };
    connections = record {
      live = λ c. grind (arith, in_connection c, m.connections.live c);
      parties = λ c. grind (arith, in_connection c, m.connections.parties c, at_x, alone);
      ungranted = m.connections.ungranted;
      granted_to = λ c y e. grind (arith, in_connection c, m.connections.granted_to c y, m.connections.granted_to x.id x at_x);
      created_at = λ c y e. grind (arith, in_connection c, m.connections.created_at c y, m.connections.created_at x.id x at_x);
      since = λ c y e f. grind (arith, in_connection c, m.connections.since c y, was_granted, nobody);
    };
    told = record {
      served = λ c. grind (arith, nat_tests, in_connection c, m.told.served c, m.told.served x.id, at_x);
      service = λ c. grind (arith, nat_tests, in_connection c, m.told.service c, m.told.service x.id, at_x);
      wire = λ c. grind (arith, nat_tests, in_connection c, m.told.wire c, m.told.wire x.id, at_x);
    };
    requests = m.requests;
    links = record {
      taken = λ r c h. grind (arith, in_connection c, m.links.taken r c, at_x, alone);
      owned = λ c r h. grind (arith, in_connection c, m.links.owned c r);
      known = λ c y r e f. grind (arith, in_connection c, m.links.known c y r, m.links.known x.id x r at_x);
      free = λ c y e f. grind (arith, in_connection c, m.links.free c y);
      busy = λ c y e f. grind (arith, in_connection c, m.links.busy c y);
      waits = λ c y r e f g. grind (arith, in_connection c, m.links.waits c y r);
      left_by = λ c y r e f g h. grind (arith, in_connection c, m.links.left_by c y r);
      fills = λ c y r e f g. grind (arith, in_connection c, m.links.fills c y r);
    };
    pinning = record {
      pins = λ c. grind (arith, in_connection c, m.pinning.pins c, m.pinning.pins x.id, at_x);
      loose = λ c y e f. grind (arith, in_connection c, m.pinning.loose c y, no_pins);
      rests = λ c y e f. grind (arith, in_connection c, m.pinning.rests c y);
    };
    uses = record {
      errored = λ c. grind (arith, nat_tests, in_connection c, m.uses.errored c, m.uses.errored x.id, at_x);
      dropped = λ c. grind (arith, nat_tests, in_connection c, m.uses.dropped c, m.uses.dropped x.id, at_x);
      calm = λ c y e f. grind (arith, in_connection c, m.uses.calm c y, m.uses.calm x.id x at_x);
    };
    clearing = m.clearing;
    at_pin = λ c. grind (arith, in_connection c, pinned-again xs c, m.at_pin c, m.at_pin x.id, at_x, place);
  }

-- a held connection comes back
module _ (s : PoolCore) (xs : List PoolItem) (m : Matches s xs) (n : ℕ) (x : Connection) (q : Request) (used : Use)
    (at_x : connection_at s x.id ≡ Some x) (place : x.place ≡ Held) (at_q : request_at s q.number ≡ Some q) (phase : q.phase ≡ Given x.id) where
  abbrev back_x : Connection
  back_x = record (used_as x used) { place = Available; holder = None; since = n }

  abbrev pub back_q : Request
  back_q = record q { phase = Over }

  back_connection : (c : ℕ) → connection_at (returning s n (used_as x used) q) c ≡ if x.id == c then Some back_x else connection_at s c
  back_connection c = entry_at-put id_of c back_x s.kept.connections

  pub back_request : (r : ℕ) → request_at (returning s n (used_as x used) q) r ≡ if q.number == r then Some back_q else request_at s r
  back_request r = entry_at-swap number_of r back_q s.kept.requests (ap is_some at_q)

  was_given : given xs q.number ≡ Some x.id
  was_given = m.requests.given q.number ∙ (ap given_of at_q ∙ ap given_in phase)

  was_held : holder_at (connection_at s x.id) ≡ Some q.number
  was_held = m.links.taken q.number x.id (ap given_of at_q ∙ ap given_in phase)

  given_now : given_of (request_at s q.number) ≡ Some x.id
  given_now = ap given_of at_q ∙ ap given_in phase

  held_it : holding xs q.number ≡ Some x.id
  held_it = holding-one xs q.number x.id was_given (pending-place s xs m x at_x ∙ ap is_pending place)

  -- it is available from now on
  pub return-matches : x.pins ≡ 0 → Matches (returning s n (used_as x used) q) (checked_in x.id n ∷ returned q.number used ∷ xs)
  return-matches loose_now = record {
    counts = record {
      created = m.counts.created;
      live_all = grind (arith, m.counts.live_all, length-put id_of back_x s.kept.connections, m.counts.single x.id);
      pending = m.counts.pending ∙ sym (where-put_stay id_of (λ y. is_pending y.place) back_x s.kept.connections refl (m.counts.single x.id) (ap (passes id_of (λ y. is_pending y.place)) at_x ∙ ap is_pending place));
      available = ap (λ cs. without x.id cs ++ x.id ∷ []) m.counts.available ∙ sym (where-put id_of (λ y. is_available y.place) back_x s.kept.connections);
      single = λ c. grind (arith, named-put id_of c back_x s.kept.connections, back_connection c, m.counts.single c);
      unused = λ c h. grind (arith, back_connection c, m.counts.unused c h);
    };
    connections = record {
      live = λ c. grind (arith, back_connection c, m.connections.live c);
      parties = λ c. parties-without s xs m q.number c ∙ grind (arith, back_connection c, m.connections.parties c, holder-given s xs m q.number c, given_now, was_held, at_x);
      ungranted = m.connections.ungranted;
      granted_to = λ c y e. grind (arith, back_connection c, m.connections.granted_to c y, m.connections.granted_to x.id x at_x);
      created_at = λ c y e. grind (arith, back_connection c, m.connections.created_at c y, m.connections.created_at x.id x at_x);
      since = λ c y e f. grind (arith, back_connection c, m.connections.since c y);
    };
    told = record {
      served = λ c. grind (arith, nat_tests, back_connection c, m.told.served c, m.told.served x.id, at_x);
      service = λ c. grind (arith, nat_tests, back_connection c, m.told.service c, m.told.service x.id, at_x);
      wire = λ c. grind (arith, nat_tests, back_connection c, m.told.wire c, m.told.wire x.id, at_x);
    };
    requests = record {
      queue = m.requests.queue ∙ sym (where-swap_stay number_of (λ y. is_queued y.phase) back_q s.kept.requests refl (m.requests.single_request q.number) (ap (passes number_of (λ y. is_queued y.phase)) at_q ∙ ap is_queued phase));
      given = λ r. grind (arith, back_request r, m.requests.given r);
      single_request = λ r. grind (arith, named-swap number_of r back_q s.kept.requests, back_request r, m.requests.single_request r);
      asked_at = λ r. grind (arith, back_request r, m.requests.asked_at r);
      ends = λ r. grind (arith, back_request r, m.requests.ends r, at_q, phase);
      asks = λ r. grind (arith, back_request r, m.requests.asks r);
      warm = λ r. grind (arith, back_request r, m.requests.warm r);
    };
    links = record {
      taken = λ r c h. grind (arith, back_request r, back_connection c, m.links.taken r c, m.links.owned c r, was_held, at_x, at_q);
      owned = λ c r h. grind (arith, back_request r, back_connection c, m.links.owned c r, m.links.taken r c, was_held, at_x, at_q);
      known = λ c y r e f. grind (arith, back_connection c, m.links.known c y r, m.links.known x.id x r at_x, back_request r);
      free = λ c y e f. grind (arith, back_connection c, m.links.free c y);
      busy = λ c y e f. grind (arith, back_connection c, m.links.busy c y);
      waits = λ c y r e f g. grind (arith, back_connection c, m.links.waits c y r);
      left_by = λ c y r e f g h. grind (arith, back_connection c, m.links.left_by c y r, back_request r, at_q, phase);
      fills = λ c y r e f g. grind (arith, back_connection c, back_request r, m.links.fills c y r);
    };
    pinning = record {
      pins = λ c. grind (arith, back_connection c, m.pinning.pins c, m.pinning.pins x.id, at_x);
      loose = λ c y e f. grind (arith, back_connection c, m.pinning.loose c y, loose_now);
      rests = λ c y e f. grind (arith, back_connection c, m.pinning.rests c y);
    };
    uses = record {
      errored = λ c. rw (errored-return q.number used xs c, was_given) (grind (arith, nat_tests, back_connection c, m.uses.errored c, m.uses.errored x.id, at_x));
      dropped = λ c. rw was_given (grind (arith, nat_tests, back_connection c, m.uses.dropped c, m.uses.dropped x.id, at_x));
      calm = λ c y e f. grind (arith, back_connection c, m.uses.calm c y);
    };
    clearing = m.clearing;
    at_pin = λ c. rw held_it (grind (arith, nat_tests, back_connection c, pinned-again xs c, m.at_pin c, m.pinning.pins x.id, at_x, loose_now));
  }

  gone_connection : (c : ℕ) → connection_at (dropping s n x q) c ≡ if x.id == c then None else connection_at s c
  gone_connection c = entry_at-others id_of c x.id s.kept.connections

  pub gone_request : (r : ℕ) → request_at (dropping s n x q) r ≡ if q.number == r then Some back_q else request_at s r
  gone_request r = entry_at-swap number_of r back_q s.kept.requests (ap is_some at_q)

  -- it is closed at once
  pub drop-matches : x.pins ≡ 0 → Matches (dropping s n x q) (closed x.id ∷ checked_in x.id n ∷ returned q.number used ∷ xs)
  drop-matches loose_now = record {
    counts = record {
      created = m.counts.created;
      live_all = grind (arith, m.counts.live_all, length-others id_of x.id s.kept.connections, m.counts.single x.id, at_x);
      pending = ap (without x.id) m.counts.pending ∙ sym (map-filter-others id_of (λ y. is_pending y.place) x.id s.kept.connections);
      available = without-again x.id (available_list xs) ∙ (ap (without x.id) m.counts.available ∙ sym (map-filter-others id_of (λ y. is_available y.place) x.id s.kept.connections));
      single = λ c. grind (arith, named-others id_of c x.id s.kept.connections, gone_connection c, m.counts.single c);
      unused = λ c h. grind (arith, gone_connection c, m.counts.unused c h);
    };
    connections = record {
      live = λ c. grind (arith, gone_connection c, m.connections.live c, at_x);
      parties = λ c. parties-without s xs m q.number c ∙ grind (arith, gone_connection c, m.connections.parties c, holder-given s xs m q.number c, given_now, was_held, at_x);
      ungranted = m.connections.ungranted;
      granted_to = λ c y e. grind (arith, gone_connection c, m.connections.granted_to c y);
      created_at = λ c y e. grind (arith, gone_connection c, m.connections.created_at c y);
      since = λ c y e f. grind (arith, gone_connection c, m.connections.since c y);
    };
    told = record {
      served = λ c. grind (arith, nat_tests, gone_connection c, m.told.served c, m.counts.unused c, at_x);
      service = λ c. grind (arith, nat_tests, gone_connection c, m.told.service c, m.counts.unused c, at_x);
      wire = λ c. grind (arith, nat_tests, gone_connection c, m.told.wire c, m.counts.unused c, at_x);
    };
    requests = record {
      queue = m.requests.queue ∙ sym (where-swap_stay number_of (λ y. is_queued y.phase) back_q s.kept.requests refl (m.requests.single_request q.number) (ap (passes number_of (λ y. is_queued y.phase)) at_q ∙ ap is_queued phase));
      given = λ r. grind (arith, gone_request r, m.requests.given r);
      single_request = λ r. grind (arith, named-swap number_of r back_q s.kept.requests, gone_request r, m.requests.single_request r);
      asked_at = λ r. grind (arith, gone_request r, m.requests.asked_at r);
      ends = λ r. grind (arith, gone_request r, m.requests.ends r, at_q, phase);
      asks = λ r. grind (arith, gone_request r, m.requests.asks r);
      warm = λ r. grind (arith, gone_request r, m.requests.warm r);
    };
    links = record {
      taken = λ r c h. grind (arith, gone_request r, gone_connection c, m.links.taken r c, m.links.owned c r, was_held, at_x, at_q);
      owned = λ c r h. grind (arith, gone_request r, gone_connection c, m.links.owned c r, m.links.taken r c, was_held, at_x, at_q);
      known = λ c y r e f. grind (arith, gone_connection c, gone_request r, m.links.known c y r);
      free = λ c y e f. grind (arith, gone_connection c, m.links.free c y);
      busy = λ c y e f. grind (arith, gone_connection c, m.links.busy c y);
      waits = λ c y r e f g. grind (arith, gone_connection c, m.links.waits c y r);
      left_by = λ c y r e f g h. grind (arith, gone_connection c, m.links.left_by c y r, gone_request r, at_q, phase);
      fills = λ c y r e f g. grind (arith, gone_connection c, gone_request r, m.links.fills c y r);
    };
    pinning = record {
      pins = λ c. grind (arith, gone_connection c, m.pinning.pins c, m.pinning.pins x.id, at_x, loose_now);
      loose = λ c y e f. grind (arith, gone_connection c, m.pinning.loose c y);
      rests = λ c y e f. grind (arith, gone_connection c, m.pinning.rests c y);
    };
    uses = record {
      errored = λ c. rw (errored-return q.number used xs c, was_given) (grind (arith, nat_tests, gone_connection c, m.uses.errored c, m.counts.unused c, at_x));
      dropped = λ c. rw was_given (grind (arith, nat_tests, gone_connection c, m.uses.dropped c, m.counts.unused c, at_x));
      calm = λ c y e f. grind (arith, gone_connection c, m.uses.calm c y);
    };
    clearing = m.clearing;
    at_pin = λ c. rw held_it (grind (arith, nat_tests, gone_connection c, pinned-again xs c, m.at_pin c, m.pinning.pins x.id, at_x, loose_now));
  }
