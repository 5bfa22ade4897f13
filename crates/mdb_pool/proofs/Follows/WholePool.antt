-- What is said of a pool as a whole, and what is closed or ended by the way, follows the items of the pool.
use Rattle.std.proofs.Common.{ℕ, ◌≡◌, arith, ◌+◌, Bool, true, false, ◌&&◌, ◌==◌, List, [], ◌∷◌, ◌++◌, Option, Some, None, is_some, refl, sym, ◌∙◌, ap, subst, if◌then◌else◌, nat_lt}
use Rattle.std.proofs.lemmas.Grind.{common_steps}
use Rattle.std.proofs.lemmas.Bool.Decides.{nat_tests}
use Rattle.mdb_base.specs.declared.object_id.ObjectId.{ObjectId}
use Rattle.mdb_events.specs.declared.end.End.{End}
use Rattle.mdb_base.specs.declared.error.Error.{Error}
use Rattle.mdb_base.specs.Errors.{is_timeout}
use Rattle.mdb_pool.specs.declared.kept.connection.Connection.{Connection}
use Rattle.mdb_pool.specs.declared.kept.connection.Place.TheVariants.{Available}
use Rattle.mdb_pool.specs.declared.kept.request.Request.{Request}
use Rattle.mdb_pool.specs.declared.kept.request.Phase.TheVariants.{Ended as EndedPhase}
use Rattle.mdb_log.specs.declared.step.Established.{Established}
use Rattle.mdb_pool.specs.Core.{PoolCore}
use Rattle.mdb_pool.specs.declared.kept.status.Clear.{Clear}
use Rattle.mdb_pool.specs.declared.kept.status.Status.TheVariants.{Ready}
use Rattle.mdb_log.specs.History.{PoolItem, same_service, without, established, closed, checked_in, ended, raised, pool_ready}
use Rattle.mdb_pool.specs.Kept.Values.{connection_at, request_at, ids_where, given_in, given_of, state_in, clears_for, clears_before, timeouts_in}
use Rattle.mdb_pool.specs.Kept.Matching.{Matches}
use Rattle.mdb_log.specs.State.{state_of}
use Rattle.mdb_log.specs.Connections.{one_if, has, available_list}
use Rattle.mdb_pool.specs.Kept.Places.{is_pending, is_available, is_queued, stays}
use Rattle.mdb_pool.specs.Acts.Changes.{ending, discarding, cleared_status, raising}
use Rattle.mdb_pool.proofs.Follows.Serving.{parties-without, holder-given}
use Rattle.mdb_log.proofs.Pins.{pinned-again}
use Rattle.std.proofs.Math.Bool.{and-false, and-true}
use Rattle.mdb_pool_rules.proofs.Listed.Values.{passes, has-where, entry_at-others, map-filter-others, named-others, length-others, entry_at-swap, named-swap, where-swap_out}
use Rattle.mdb_pool.proofs.Follows.ComingBack.{without-again}

abbrev id_of : Connection → ℕ
id_of x = x.id

abbrev number_of : Request → ℕ
number_of q = q.number

-- an available connection is closed
module _ (s : PoolCore) (xs : List PoolItem) (m : Matches s xs) (x : Connection) (at_x : connection_at s x.id ≡ Some x) (place : x.place ≡ Available) where
  shut_connection : (c : ℕ) → connection_at (discarding s x) c ≡ if x.id == c then None else connection_at s c
  shut_connection c = entry_at-others id_of c x.id s.kept.connections

  unheld : x.holder ≡ None
  unheld = m.links.free x.id x at_x (ap is_available place)

  no_pins : x.pins ≡ 0
  no_pins = m.pinning.loose x.id x at_x (ap stays place)

  pub discard-matches : Matches (discarding s x) (closed x.id ∷ xs)
  discard-matches = record {
    counts = record {
      created = m.counts.created;
      live_all = grind (arith, m.counts.live_all, length-others id_of x.id s.kept.connections, m.counts.single x.id, at_x);
      pending = ap (without x.id) m.counts.pending ∙ sym (map-filter-others id_of (λ y. is_pending y.place) x.id s.kept.connections);
      available = ap (without x.id) m.counts.available ∙ sym (map-filter-others id_of (λ y. is_available y.place) x.id s.kept.connections);
      single = λ c. grind (arith, named-others id_of c x.id s.kept.connections, shut_connection c, m.counts.single c);
      unused = λ c h. grind (arith, shut_connection c, m.counts.unused c h);
    };
    connections = record {
      live = λ c. grind (arith, shut_connection c, m.connections.live c, at_x);
      parties = λ c. grind (arith, shut_connection c, m.connections.parties c, at_x, unheld);
      ungranted = m.connections.ungranted;
      granted_to = λ c y e. grind (arith, shut_connection c, m.connections.granted_to c y);
      created_at = λ c y e. grind (arith, shut_connection c, m.connections.created_at c y);
      since = λ c y e f. grind (arith, shut_connection c, m.connections.since c y);
    };
    told = record {
      served = λ c. grind (arith, nat_tests, shut_connection c, m.told.served c, m.counts.unused c, at_x);
      service = λ c. grind (arith, nat_tests, shut_connection c, m.told.service c, m.counts.unused c, at_x);
      wire = λ c. grind (arith, nat_tests, shut_connection c, m.told.wire c, m.counts.unused c, at_x);
    };
    requests = m.requests;
    links = record {
      taken = λ r c h. grind (arith, shut_connection c, m.links.taken r c, at_x, unheld);
      owned = λ c r h. grind (arith, shut_connection c, m.links.owned c r);
      known = λ c y r e f. grind (arith, shut_connection c, m.links.known c y r);
      free = λ c y e f. grind (arith, shut_connection c, m.links.free c y);
      busy = λ c y e f. grind (arith, shut_connection c, m.links.busy c y);
      waits = λ c y r e f g. grind (arith, shut_connection c, m.links.waits c y r);
      left_by = λ c y r e f g h. grind (arith, shut_connection c, m.links.left_by c y r);
      fills = λ c y r e f g. grind (arith, shut_connection c, m.links.fills c y r);
    };
    pinning = record {
      pins = λ c. grind (arith, shut_connection c, m.pinning.pins c, m.pinning.pins x.id, at_x, no_pins);
      loose = λ c y e f. grind (arith, shut_connection c, m.pinning.loose c y);
      rests = λ c y e f. grind (arith, shut_connection c, m.pinning.rests c y);
    };
    uses = record {
      errored = λ c. grind (arith, nat_tests, shut_connection c, m.uses.errored c, m.counts.unused c, at_x);
      dropped = λ c. grind (arith, nat_tests, shut_connection c, m.uses.dropped c, m.counts.unused c, at_x);
      calm = λ c y e f. grind (arith, shut_connection c, m.uses.calm c y);
    };
    clearing = m.clearing;
    at_pin = λ c. grind (arith, shut_connection c, pinned-again xs c, m.at_pin c, m.at_pin x.id, at_x, place);
  }

without-not : (c : ℕ) (cs : List ℕ) → has c (without c cs) ≡ false
without-not c [] = refl
without-not c (d ∷ cs) = grind (arith, common_steps, without-not c cs)

-- on a closed pool a connection that comes back is closed without being checked in
pub skip-check-in : (s : PoolCore) (xs : List PoolItem) (c n : ℕ) → Matches s (closed c ∷ checked_in c n ∷ xs) → Matches s (closed c ∷ xs)
skip-check-in s xs c n m = record {
  counts = record {
    created = m.counts.created;
    live_all = m.counts.live_all;
    pending = m.counts.pending;
    available = sym (without-again c (available_list xs)) ∙ m.counts.available;
    single = m.counts.single;
    unused = m.counts.unused;
  };
  connections = record {
    live = m.connections.live;
    parties = m.connections.parties;
    ungranted = m.connections.ungranted;
    granted_to = m.connections.granted_to;
    created_at = m.connections.created_at;
    since = λ k x e f. grind (arith, m.connections.since k x e f, absent k x e f);
  };
  told = m.told;
  requests = m.requests;
  links = m.links;
  pinning = m.pinning;
  uses = m.uses;
  clearing = m.clearing;
  at_pin = λ c. grind (arith, pinned-again xs c, m.at_pin c);
}
  where
    closed_out : has c (ids_where is_available s.kept.connections) ≡ false
    closed_out = ap (has c) (sym m.counts.available) ∙ without-not c (available_list (checked_in c n ∷ xs))

    absent : (k : ℕ) (x : Connection) → connection_at s k ≡ Some x → is_available x.place ≡ true → (c == k) ≡ false
    absent k x e f = on (c == k) refl
      where
        on : (b : Bool) → (c == k) ≡ b → (c == k) ≡ false
        on true g =
            let same : c ≡ k = grind arith in
            let there : has c (ids_where is_available s.kept.connections) ≡ true = subst (λ d. has d (ids_where is_available s.kept.connections) ≡ true) (sym same) (has-where id_of (λ y. is_available y.place) k s.kept.connections (m.counts.single k) ∙ (ap (passes id_of (λ y. is_available y.place)) e ∙ f)) in
            let never : true ≡ false = sym there ∙ closed_out in
            cc
        on false g = g

-- a request that has no connection ends
module _ (s : PoolCore) (xs : List PoolItem) (m : Matches s xs) (q : Request) (end : End) (at_q : request_at s q.number ≡ Some q) (none : given_in q.phase ≡ None) where
  abbrev over_q : Request
  over_q = record q { phase = EndedPhase end }

  pub over_request : (r : ℕ) → request_at (ending s q end) r ≡ if q.number == r then Some over_q else request_at s r
  over_request r = entry_at-swap number_of r over_q s.kept.requests (ap is_some at_q)

  given_none : given_of (request_at s q.number) ≡ None
  given_none = ap given_of at_q ∙ none

  pub end-matches : Matches (ending s q end) (ended q.number end ∷ xs)
  end-matches = record {
    counts = m.counts;
    connections = record {
      live = m.connections.live;
      parties = λ c. parties-without s xs m q.number c ∙ grind (arith, m.connections.parties c, holder-given s xs m q.number c, given_none);
      ungranted = m.connections.ungranted;
      granted_to = m.connections.granted_to;
      created_at = m.connections.created_at;
      since = m.connections.since;
    };
    told = m.told;
    requests = record {
      queue = ap (without q.number) m.requests.queue ∙ sym (where-swap_out number_of (λ y. is_queued y.phase) over_q s.kept.requests refl);
      given = λ r. grind (arith, over_request r, m.requests.given r);
      single_request = λ r. grind (arith, named-swap number_of r over_q s.kept.requests, over_request r, m.requests.single_request r);
      asked_at = λ r. grind (arith, over_request r, m.requests.asked_at r);
      ends = λ r. grind (arith, over_request r, m.requests.ends r);
      asks = λ r. grind (arith, over_request r, m.requests.asks r);
      warm = λ r. grind (arith, over_request r, m.requests.warm r);
    };
    links = record {
      taken = λ k c h. grind (arith, over_request k, m.links.taken k c, at_q, none);
      owned = λ c k h. grind (arith, over_request k, m.links.owned c k, at_q, none);
      known = λ c y r e f. grind (arith, over_request r, m.links.known c y r);
      free = m.links.free;
      busy = m.links.busy;
      waits = m.links.waits;
      left_by = λ c y r e f g h. grind (arith, over_request r, m.links.left_by c y r, m.links.known c y r);
      fills = λ c y r e f g. grind (arith, over_request r, m.links.fills c y r);
    };
    pinning = m.pinning;
    uses = m.uses;
    clearing = m.clearing;
    at_pin = λ c. grind (arith, pinned-again xs c, m.at_pin c);
  }

-- the end of a warm request comes after what its connection does
pub late-end : (s : PoolCore) (xs : List PoolItem) (c n r : ℕ) (how : Established) (end : End) → Matches s (checked_in c n ∷ established c how n ∷ ended r end ∷ xs) → Matches s (ended r end ∷ checked_in c n ∷ established c how n ∷ xs)
late-end s xs c n r how end m = record {
  counts = m.counts;
  connections = m.connections;
  told = m.told;
  requests = m.requests;
  links = m.links;
  pinning = m.pinning;
  uses = m.uses;
  clearing = m.clearing;
  at_pin = λ c. grind (arith, pinned-again xs c, m.at_pin c);
}

pub late-end_closed : (s : PoolCore) (xs : List PoolItem) (c n r : ℕ) (how : Established) (end : End) → Matches s (closed c ∷ checked_in c n ∷ established c how n ∷ ended r end ∷ xs) → Matches s (ended r end ∷ closed c ∷ checked_in c n ∷ established c how n ∷ xs)
late-end_closed s xs c n r how end m = record {
  counts = m.counts;
  connections = m.connections;
  told = m.told;
  requests = m.requests;
  links = m.links;
  pinning = m.pinning;
  uses = m.uses;
  clearing = m.clearing;
  at_pin = λ c. grind (arith, pinned-again xs c, m.at_pin c);
}

pub late-end_skipped : (s : PoolCore) (xs : List PoolItem) (c n r : ℕ) (how : Established) (end : End) → Matches s (closed c ∷ established c how n ∷ ended r end ∷ xs) → Matches s (ended r end ∷ closed c ∷ established c how n ∷ xs)
late-end_skipped s xs c n r how end m = record {
  counts = m.counts;
  connections = m.connections;
  told = m.told;
  requests = m.requests;
  links = m.links;
  pinning = m.pinning;
  uses = m.uses;
  clearing = m.clearing;
  at_pin = λ c. grind (arith, pinned-again xs c, m.at_pin c);
}

-- the pool is marked ready
pub ready-matches : (s : PoolCore) (xs : List PoolItem) → Matches s xs → Matches (record s { kept = record s.kept { status = Ready } }) (pool_ready ∷ xs)
ready-matches s xs m = record {
  counts = m.counts;
  connections = m.connections;
  told = m.told;
  requests = m.requests;
  links = m.links;
  pinning = m.pinning;
  uses = m.uses;
  clearing = record {
    status = refl;
    clears = m.clearing.clears;
    before = m.clearing.before;
    seen = m.clearing.seen;
  };
  at_pin = λ c. grind (arith, pinned-again xs c, m.at_pin c);
}

-- the last moment is nothing that the items say
pub later-matches : (s : PoolCore) (xs : List PoolItem) (n : ℕ) → Matches s xs → Matches (record s { kept = record s.kept { last = n } }) xs
later-matches s xs n m = record {
  counts = m.counts;
  connections = m.connections;
  told = m.told;
  requests = m.requests;
  links = m.links;
  pinning = m.pinning;
  uses = m.uses;
  clearing = m.clearing;
  at_pin = m.at_pin;
}

pub clears_for-append : (t : Option ObjectId) (ks : List Clear) (k : Clear) → clears_for t (ks ++ k ∷ []) ≡ clears_for t ks + one_if (same_service k.service t)
clears_for-append t [] k = grind (arith, common_steps)
clears_for-append t (j ∷ ks) k = grind (arith, common_steps, clears_for-append t ks k)

pub clears_before-append : (c : ℕ) (t : Option ObjectId) (ks : List Clear) (k : Clear) → clears_before c t (ks ++ k ∷ []) ≡ clears_before c t ks + one_if (same_service k.service t && nat_lt k.after c)
clears_before-append c t [] k = grind (arith, common_steps)
clears_before-append c t (j ∷ ks) k = grind (arith, common_steps, clears_before-append c t ks k)

pub timeouts-append : (ks : List Clear) (k : Clear) → timeouts_in (ks ++ k ∷ []) ≡ timeouts_in ks + one_if k.timeout
timeouts-append [] k = grind (arith, common_steps)
timeouts-append (j ∷ ks) k = grind (arith, common_steps, timeouts-append ks k)

-- the pool is cleared
module _ (s : PoolCore) (xs : List PoolItem) (m : Matches s xs) (n : ℕ) (service : Option ObjectId) (error : Error) where
  abbrev clear_now : Clear
  clear_now = record { service = service; after = s.kept.created; timeout = is_timeout error.kind }

  paused : (t : Option ObjectId) → service ≡ t → state_of s.options (raised service error ∷ xs) ≡ state_in (cleared_status s service error)
  paused None e = rw e refl
  paused (Some t) e = rw e m.clearing.status

  pub raise-matches : Matches (raising s n service error) (raised service error ∷ xs)
  raise-matches = record {
    counts = m.counts;
    connections = m.connections;
    told = m.told;
    requests = m.requests;
    links = m.links;
    pinning = m.pinning;
    uses = record {
      errored = m.uses.errored;
      dropped = m.uses.dropped;
      calm = λ c y e f. grind (arith, m.uses.calm c y e f, timeouts-append s.kept.clears clear_now);
    };
    clearing = record {
      status = paused service refl;
      clears = λ t. ap (λ k. k + one_if (same_service service t)) (m.clearing.clears t) ∙ sym (clears_for-append t s.kept.clears clear_now);
      before = λ c t h. m.clearing.before c t h ∙ (sym (let e : nat_lt s.kept.created c ≡ false = grind (arith, nat_tests) in rw (clears_before-append c t s.kept.clears clear_now, e, and-false (same_service service t)) (omega arith)));
      seen = λ c t h. let e : nat_lt s.kept.created c ≡ true = grind (arith, nat_tests) in rw (clears_before-append c t s.kept.clears clear_now, clears_for-append t s.kept.clears clear_now, e, and-true (same_service service t), m.clearing.seen c t h) refl;
    };
    at_pin = λ c. grind (arith, pinned-again xs c, m.at_pin c);
  }
