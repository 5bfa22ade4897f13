-- What a failed connection does follows the items of the pool.
use Rattle.std.proofs.Common.{ℕ, ◌≡◌, arith, false, ◌==◌, List, [], ◌∷◌, Option, Some, None, is_some, refl, sym, ◌∙◌, ap, if◌then◌else◌}
use Rattle.std.proofs.lemmas.Grind.{common_steps}
use Rattle.std.proofs.lemmas.Bool.Decides.{nat_tests}
use Rattle.mdb_base.specs.declared.object_id.ObjectId.{ObjectId}
use Rattle.mdb_events.specs.declared.end.End.{End}
use Rattle.mdb_pool.specs.declared.kept.connection.Connection.{Connection}
use Rattle.mdb_pool.specs.declared.kept.request.Request.{Request}
use Rattle.mdb_pool.specs.declared.kept.request.Phase.{Phase}
use Rattle.mdb_pool.specs.declared.kept.request.Phase.TheVariants.{Queued, Given, Over, Ended as EndedPhase}
use Rattle.mdb_pool.specs.Core.{PoolCore}
use Rattle.mdb_log.specs.History.{PoolItem, without, failed, closed, ended}
use Rattle.mdb_pool.specs.Kept.Values.{connection_at, request_at, given_in, given_of, holder_at}
use Rattle.mdb_log.specs.Requests.{queued}
use Rattle.mdb_pool.specs.Kept.Matching.{Matches}
use Rattle.mdb_log.specs.Connections.{pending_list}
use Rattle.mdb_pool.specs.Kept.Places.{is_pending, is_available, is_queued}
use Rattle.mdb_pool.specs.Acts.Changes.{forgetting, failing}
use Rattle.mdb_pool.proofs.Follows.Serving.{parties-without, holder-given}
use Rattle.mdb_log.proofs.Pins.{pinned-again}
use Rattle.mdb_pool_rules.proofs.Listed.Values.{without-absent, entry_at-others, map-filter-others, named-others, length-others, passes, has-where, entry_at-swap, named-swap, where-swap_stay}

abbrev id_of : Connection → ℕ
id_of x = x.id

abbrev number_of : Request → ℕ
number_of q = q.number

pub without-twice : (c : ℕ) (cs : List ℕ) → without c (without c cs) ≡ without c cs
without-twice c [] = refl
without-twice c (d ∷ cs) = grind (arith, common_steps, without-twice c cs)

-- a pending connection failed
module _ (s : PoolCore) (xs : List PoolItem) (m : Matches s xs) (n : ℕ) (x : Connection) (service : Option ObjectId) (at_x : connection_at s x.id ≡ Some x) (loose_now : x.pins ≡ 0) where
  lost_connection : (c : ℕ) → connection_at (forgetting s n x) c ≡ if x.id == c then None else connection_at s c
  lost_connection c = entry_at-others id_of c x.id s.kept.connections

  -- its requester gave up
  pub forget-matches : x.holder ≡ None → Matches (forgetting s n x) (closed x.id ∷ failed x.id service ∷ xs)
  forget-matches alone = record {
    counts = record {
      created = m.counts.created;
      live_all = grind (arith, m.counts.live_all, length-others id_of x.id s.kept.connections, m.counts.single x.id, at_x);
      pending = without-twice x.id (pending_list xs) ∙ (ap (without x.id) m.counts.pending ∙ sym (map-filter-others id_of (λ y. is_pending y.place) x.id s.kept.connections));
      available = ap (without x.id) m.counts.available ∙ sym (map-filter-others id_of (λ y. is_available y.place) x.id s.kept.connections);
      single = λ c. grind (arith, named-others id_of c x.id s.kept.connections, lost_connection c, m.counts.single c);
      unused = λ c h. grind (arith, lost_connection c, m.counts.unused c h);
    };
    connections = record {
      live = λ c. grind (arith, lost_connection c, m.connections.live c, at_x);
      parties = λ c. grind (arith, lost_connection c, m.connections.parties c, at_x, alone);
      ungranted = m.connections.ungranted;
      granted_to = λ c y e. grind (arith, lost_connection c, m.connections.granted_to c y);
      created_at = λ c y e. grind (arith, lost_connection c, m.connections.created_at c y);
      since = λ c y e f. grind (arith, lost_connection c, m.connections.since c y);
    };
    told = record {
      served = λ c. grind (arith, nat_tests, lost_connection c, m.told.served c, m.counts.unused c, at_x);
      service = λ c. grind (arith, nat_tests, lost_connection c, m.told.service c, m.counts.unused c, at_x);
      wire = λ c. grind (arith, nat_tests, lost_connection c, m.told.wire c, m.counts.unused c, at_x);
    };
    requests = m.requests;
    links = record {
      taken = λ r c h. grind (arith, lost_connection c, m.links.taken r c, at_x, alone);
      owned = λ c r h. grind (arith, lost_connection c, m.links.owned c r);
      known = λ c y r e f. grind (arith, lost_connection c, m.links.known c y r);
      free = λ c y e f. grind (arith, lost_connection c, m.links.free c y);
      busy = λ c y e f. grind (arith, lost_connection c, m.links.busy c y);
      waits = λ c y r e f g. grind (arith, lost_connection c, m.links.waits c y r);
      left_by = λ c y r e f g h. grind (arith, lost_connection c, m.links.left_by c y r);
      fills = λ c y r e f g. grind (arith, lost_connection c, m.links.fills c y r);
    };
    pinning = record {
      pins = λ c. grind (arith, lost_connection c, m.pinning.pins c, m.pinning.pins x.id, at_x, loose_now);
      loose = λ c y e f. grind (arith, lost_connection c, m.pinning.loose c y);
      rests = λ c y e f. grind (arith, lost_connection c, m.pinning.rests c y);
    };
    uses = record {
      errored = λ c. grind (arith, nat_tests, lost_connection c, m.uses.errored c, m.counts.unused c, at_x);
      dropped = λ c. grind (arith, nat_tests, lost_connection c, m.uses.dropped c, m.counts.unused c, at_x);
      calm = λ c y e f. grind (arith, lost_connection c, m.uses.calm c y);
    };
    clearing = m.clearing;
    at_pin = λ c. grind (arith, nat_tests, lost_connection c, pinned-again xs c, m.at_pin c, m.pinning.pins x.id, at_x, loose_now);
  }

-- and its requester ends
module _ (s : PoolCore) (xs : List PoolItem) (m : Matches s xs) (n : ℕ) (x : Connection) (service : Option ObjectId) (at_x : connection_at s x.id ≡ Some x) (q : Request) (end : End) (at_q : request_at s q.number ≡ Some q) (held : x.holder ≡ Some q.number) (loose_now : x.pins ≡ 0) where
  abbrev failed_q : Request
  failed_q = record q { phase = EndedPhase end }

  gone_connection : (c : ℕ) → connection_at (failing s n x q end) c ≡ if x.id == c then None else connection_at s c
  gone_connection c = entry_at-others id_of c x.id s.kept.connections

  pub failed_request : (r : ℕ) → request_at (failing s n x q end) r ≡ if q.number == r then Some failed_q else request_at s r
  failed_request r = entry_at-swap number_of r failed_q s.kept.requests (ap is_some at_q)

  was_held : holder_at (connection_at s x.id) ≡ Some q.number
  was_held = ap holder_at at_x ∙ held

  given_now : given_of (request_at s q.number) ≡ Some x.id
  given_now = m.links.owned x.id q.number was_held

  given_phase : given_in q.phase ≡ Some x.id
  given_phase = sym (ap given_of at_q) ∙ given_now

  not_queued : is_queued q.phase ≡ false
  not_queued = on q.phase refl
    where
      on : (p : Phase) → q.phase ≡ p → is_queued q.phase ≡ false
      on Queued e = let k : given_in q.phase ≡ None = ap given_in e in let w : given_in q.phase ≡ Some x.id = given_phase in cc
      on (Given c) e = ap is_queued e
      on Over e = ap is_queued e
      on (EndedPhase end) e = ap is_queued e

  pub fail-matches : Matches (failing s n x q end) (ended q.number end ∷ closed x.id ∷ failed x.id service ∷ xs)
  fail-matches = record {
    counts = record {
      created = m.counts.created;
      live_all = grind (arith, m.counts.live_all, length-others id_of x.id s.kept.connections, m.counts.single x.id, at_x);
      pending = without-twice x.id (pending_list xs) ∙ (ap (without x.id) m.counts.pending ∙ sym (map-filter-others id_of (λ y. is_pending y.place) x.id s.kept.connections));
      available = ap (without x.id) m.counts.available ∙ sym (map-filter-others id_of (λ y. is_available y.place) x.id s.kept.connections);
      single = λ c. grind (arith, named-others id_of c x.id s.kept.connections, gone_connection c, m.counts.single c);
      unused = λ c h. grind (arith, gone_connection c, m.counts.unused c h);
    };
    connections = record {
      live = λ c. grind (arith, gone_connection c, m.connections.live c, at_x);
      parties = λ c. parties-without s xs m q.number c ∙ grind (arith, gone_connection c, m.connections.parties c, holder-given s xs m q.number c, given_now, was_held, at_x);
      ungranted = m.connections.ungranted;
      granted_to = λ c y e. grind (arith, gone_connection c, m.connections.granted_to c y);
      created_at = λ c y e. grind (arith, gone_connection c, m.connections.created_at c y);
      since = λ c y e f. grind (arith, gone_connection c, m.connections.since c y);
    };
    told = record {
      served = λ c. grind (arith, nat_tests, gone_connection c, m.told.served c, m.counts.unused c, at_x);
      service = λ c. grind (arith, nat_tests, gone_connection c, m.told.service c, m.counts.unused c, at_x);
      wire = λ c. grind (arith, nat_tests, gone_connection c, m.told.wire c, m.counts.unused c, at_x);
    };
    requests = record {
      queue = without-absent q.number (queued xs) (rw m.requests.queue (has-where number_of (λ y. is_queued y.phase) q.number s.kept.requests (m.requests.single_request q.number) ∙ (ap (passes number_of (λ y. is_queued y.phase)) at_q ∙ not_queued))) ∙ (m.requests.queue ∙ sym (where-swap_stay number_of (λ y. is_queued y.phase) failed_q s.kept.requests refl (m.requests.single_request q.number) (ap (passes number_of (λ y. is_queued y.phase)) at_q ∙ not_queued)));
      given = λ r. grind (arith, failed_request r, m.requests.given r);
      single_request = λ r. grind (arith, named-swap number_of r failed_q s.kept.requests, failed_request r, m.requests.single_request r);
      asked_at = λ r. grind (arith, failed_request r, m.requests.asked_at r);
      ends = λ r. grind (arith, failed_request r, m.requests.ends r);
      asks = λ r. grind (arith, failed_request r, m.requests.asks r);
      warm = λ r. grind (arith, failed_request r, m.requests.warm r);
    };
    links = record {
      taken = λ r c h. grind (arith, failed_request r, gone_connection c, m.links.taken r c, m.links.owned c r, was_held, at_x, at_q);
      owned = λ c r h. grind (arith, failed_request r, gone_connection c, m.links.owned c r, m.links.taken r c, was_held, at_x, at_q);
      known = λ c y r e f. grind (arith, gone_connection c, failed_request r, m.links.known c y r);
      free = λ c y e f. grind (arith, gone_connection c, m.links.free c y);
      busy = λ c y e f. grind (arith, gone_connection c, m.links.busy c y);
      waits = λ c y r e f g. grind (arith, gone_connection c, m.links.waits c y r);
      left_by = λ c y r e f g h. grind (arith, gone_connection c, m.links.left_by c y r, failed_request r);
      fills = λ c y r e f g. grind (arith, gone_connection c, failed_request r, m.links.fills c y r);
    };
    pinning = record {
      pins = λ c. grind (arith, gone_connection c, m.pinning.pins c, m.pinning.pins x.id, at_x, loose_now);
      loose = λ c y e f. grind (arith, gone_connection c, m.pinning.loose c y);
      rests = λ c y e f. grind (arith, gone_connection c, m.pinning.rests c y);
    };
    uses = record {
      errored = λ c. grind (arith, nat_tests, gone_connection c, m.uses.errored c, m.counts.unused c, at_x);
      dropped = λ c. grind (arith, nat_tests, gone_connection c, m.uses.dropped c, m.counts.unused c, at_x);
      calm = λ c y e f. grind (arith, gone_connection c, m.uses.calm c y);
    };
    clearing = m.clearing;
    at_pin = λ c. grind (arith, nat_tests, gone_connection c, pinned-again xs c, m.at_pin c, m.pinning.pins x.id, at_x, loose_now);
  }
