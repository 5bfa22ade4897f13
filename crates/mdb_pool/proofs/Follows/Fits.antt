-- The moves of the state keep what it fits.
use Rattle.std.proofs.Common.{ℕ, ◌≡◌, ◌+◌, Bool, true, false, List, [], ◌∷◌, ◌++◌, sym, ap, Option, Some, None, is_some, arith, refl, ◌∙◌, subst, not}
use Rattle.mdb_base.specs.declared.object_id.ObjectId.{ObjectId}
use Rattle.mdb_events.specs.declared.end.End.{End}
use Rattle.mdb_base.specs.declared.error.Error.{Error}
use Rattle.mdb_pool.specs.declared.kept.status.Status.TheVariants.{Ready}
use Rattle.mdb_events.specs.declared.end.End.TheVariants.{GaveUp}
use Rattle.mdb_pool.specs.declared.kept.connection.Connection.{Connection}
use Rattle.mdb_pool.specs.declared.kept.connection.Place.TheVariants.{Pending, Available, Held}
use Rattle.mdb_pool.specs.declared.kept.request.Request.{Request}
use Rattle.mdb_pool.specs.declared.kept.request.Phase.TheVariants.{Queued, Given, Over, Ended as EndedPhase}
use Rattle.mdb_log.specs.declared.step.Use.{Use}
use Rattle.mdb_log.specs.declared.step.Use.TheVariants.{Ok}
use Rattle.mdb_pool.specs.Core.{PoolCore}
use Rattle.mdb_pool.proofs.Follows.Serving.{grant-matches, new_request, asked_request, ask-matches, warm_request, warm-matches, made_request, create-matches, spawn-matches}
use Rattle.mdb_log.specs.History.{PoolItem, asked, warmed, has_asked, gave_up, returned, established, created, closed, checked_in, granted, ended, failed, raised, pool_ready}
use Rattle.mdb_pool.specs.Kept.Values.{connection_at, request_at, warm_of, given_in, given_of, numbers_asked, is_asked_at, used_as, with_connections}
use Rattle.mdb_pool.specs.Standing.{Fits}
use Rattle.mdb_pool.specs.Acts.Changes.{asking, creating, spawning, parting, granting, establishing, pooling, returning, dropping, quitting, leaving, handing, failing, forgetting, ending, finishing, discarding, losing, raising}
use Rattle.mdb_pool.proofs.Follows.GivingUp.{quit_request, quit-matches, left_request, leave-matches, apart_request, part-matches, handed_request, hand-matches, late-matches}
use Rattle.mdb_pool.proofs.Follows.ComingBack.{establish-matches, pool-matches, rest-matches, back_request, return-matches, gone_request, drop-matches}
use Rattle.mdb_log.specs.Connections.{held}
use Rattle.mdb_pool.proofs.Follows.Failing.{forget-matches, failed_request, fail-matches}
use Rattle.mdb_pool.proofs.Follows.WholePool.{discard-matches, skip-check-in, late-end, late-end_closed, late-end_skipped, over_request, end-matches, ready-matches, later-matches, raise-matches}
use Rattle.mdb_log.proofs.Numbers.{same-number}
use Rattle.mdb_pool_rules.proofs.Listed.Values.{entry_at-put, others-put, where-put_in, where-swap_same, passes, one_if-le}
use Rattle.mdb_log.specs.Requests.{requests}
use Rattle.mdb_pool.specs.declared.kept.request.Phase.{Phase}
use Rattle.mdb_slots.specs.Keyed.{put, swap}
use Rattle.mdb_log.specs.declared.step.Established.{Established}

abbrev id_of : Connection → ℕ
id_of x = x.id

abbrev number_of : Request → ℕ
number_of q = q.number

-- the requests made at a pool are those that it keeps
pub asked-known : (s : PoolCore) (xs : List PoolItem) → Fits s xs → (r : ℕ) → has_asked xs r ≡ is_asked_at (request_at s r)
asked-known s xs z r = z.matches.requests.asks r

module _ (s : PoolCore) (xs : List PoolItem) (z : Fits s xs) (n : ℕ) where
  -- the order of asking stays where a request goes on
  pub order-stays : (q : Request) (p : Phase) → request_at s q.number ≡ Some q → requests xs ≡ numbers_asked (swap number_of (record q { phase = p }) s.kept.requests)
  order-stays q p at_q = z.order ∙ sym (where-swap_same number_of (λ k. not k.took) (record q { phase = p }) q s.kept.requests at_q (rw (z.matches.requests.single_request q.number) (one_if-le (is_some (request_at s q.number)))) refl)

  -- a new request comes last
  asked-last : (r : ℕ) (w : Bool) → request_at s r ≡ None → numbers_asked s.kept.requests ++ r ∷ [] ≡ numbers_asked (put number_of (record { number = r; asked_at = n; warm = w; took = false; phase = Queued }) s.kept.requests)
  asked-last r w absent = sym (where-put_in number_of (λ k. not k.took) (record { number = r; asked_at = n; warm = w; took = false; phase = Queued }) s.kept.requests refl (z.matches.requests.single_request r) (ap (passes number_of (λ k. not k.took)) absent))

  pub grant-fits : (x : Connection) (q : Request) → connection_at s x.id ≡ Some x → x.place ≡ Available → request_at s q.number ≡ Some q → q.phase ≡ Queued → q.warm ≡ false → Fits (granting s x q) (granted q.number x.id ∷ xs)
  grant-fits x q at_x place at_q phase cold = record {
    matches = grant-matches s xs z.matches x q at_x place at_q phase cold;
    asked = λ r. grind (arith, z.asked r, new_request s xs z.matches x q at_x place at_q phase r);
    order = order-stays q (Given x.id) at_q;
  }

  pub create-fits : (q : Request) → request_at s q.number ≡ Some q → q.phase ≡ Queued → Fits (creating s n q) (granted q.number (s.kept.created + 1) ∷ created (s.kept.created + 1) n ∷ xs)
  create-fits q at_q phase = record {
    matches = create-matches s xs z.matches n q at_q phase;
    asked = λ r. grind (arith, z.asked r, made_request s xs z.matches n q at_q phase r);
    order = order-stays q (Given (s.kept.created + 1)) at_q;
  }

  pub ask-fits : (r : ℕ) → request_at s r ≡ None → Fits (asking s r n false) (asked r n ∷ xs)
  ask-fits r absent = record {
    matches = ask-matches s xs z.matches r n absent;
    asked = λ k. grind (arith, z.asked k, asked_request s xs z.matches r n absent k);
    order = ap (λ ks. ks ++ r ∷ []) z.order ∙ asked-last r false absent;
  }

  pub warm-fits : (r : ℕ) → request_at s r ≡ None → Fits (asking s r n true) (warmed r n ∷ xs)
  warm-fits r absent = record {
    matches = warm-matches s xs z.matches r n absent;
    asked = λ k. grind (arith, z.asked k, warm_request s xs z.matches r n absent k);
    order = ap (λ ks. ks ++ r ∷ []) z.order ∙ asked-last r true absent;
  }

  pub spawn-fits : Fits (spawning s n) (created (s.kept.created + 1) n ∷ xs)
  spawn-fits = record { matches = spawn-matches s xs z.matches n; asked = z.asked; order = z.order }

  pub establish-fits : (x : Connection) (how : Established) (k : ℕ) → connection_at s x.id ≡ Some x → x.place ≡ Pending → x.holder ≡ Some k → warm_of (request_at s k) ≡ false → Fits (establishing s n x how) (established x.id how n ∷ xs)
  establish-fits x how k at_x place held cold = record {
    matches = establish-matches s xs z.matches n x how at_x place k held cold;
    asked = z.asked;
    order = z.order;
  }

  pub pool-fits : (x : Connection) (how : Established) → connection_at s x.id ≡ Some x → x.place ≡ Pending → x.holder ≡ None → Fits (pooling s n x how) (checked_in x.id n ∷ established x.id how n ∷ xs)
  pool-fits x how at_x place alone = record {
    matches = pool-matches s xs z.matches n x how at_x place alone;
    asked = z.asked;
    order = z.order;
  }

  pub rest-fits : (x : Connection) (how : Established) → connection_at s x.id ≡ Some x → x.place ≡ Pending → x.holder ≡ None → x.party ≡ None → Fits (pooling s n x how) (established x.id how n ∷ xs)
  rest-fits x how at_x place alone nobody = record {
    matches = rest-matches s xs z.matches n x how at_x place alone nobody;
    asked = z.asked;
    order = z.order;
  }

  pub part-fits : (x : Connection) (q : Request) (end : End) → connection_at s x.id ≡ Some x → request_at s q.number ≡ Some q → q.phase ≡ Given x.id → x.place ≡ Pending → Fits (parting s x q end) (ended q.number end ∷ xs)
  part-fits x q end at_x at_q phase place = record {
    matches = part-matches s xs z.matches x q end at_x at_q phase place;
    asked = λ r. grind (arith, z.asked r, apart_request s xs z.matches x q end at_x at_q phase r);
    order = order-stays q (EndedPhase end) at_q;
  }

  pub return-fits : (x : Connection) (q : Request) (used : Use) → connection_at s x.id ≡ Some x → x.place ≡ Held → request_at s q.number ≡ Some q → q.phase ≡ Given x.id → x.pins ≡ 0 → Fits (returning s n (used_as x used) q) (checked_in x.id n ∷ returned q.number used ∷ xs)
  return-fits x q used at_x place at_q phase loose = record {
    matches = return-matches s xs z.matches n x q used at_x place at_q phase loose;
    asked = λ r. grind (arith, z.asked r, back_request s xs z.matches n x q used at_x place at_q phase r);
    order = order-stays q Over at_q;
  }

  pub drop-fits : (x : Connection) (q : Request) (used : Use) → connection_at s x.id ≡ Some x → x.place ≡ Held → request_at s q.number ≡ Some q → q.phase ≡ Given x.id → x.pins ≡ 0 → Fits (dropping s n x q) (closed x.id ∷ checked_in x.id n ∷ returned q.number used ∷ xs)
  drop-fits x q used at_x place at_q phase loose = record {
    matches = drop-matches s xs z.matches n x q used at_x place at_q phase loose;
    asked = λ r. grind (arith, z.asked r, gone_request s xs z.matches n x q used at_x place at_q phase r);
    order = order-stays q Over at_q;
  }

  pub quit-fits : (q : Request) → request_at s q.number ≡ Some q → given_in q.phase ≡ None → Fits (quitting s n q) (ended q.number GaveUp ∷ gave_up q.number ∷ xs)
  quit-fits q at_q none = record {
    matches = quit-matches s xs z.matches n q at_q none;
    asked = λ r. grind (arith, z.asked r, quit_request s xs z.matches n q at_q none r);
    order = order-stays q (EndedPhase GaveUp) at_q;
  }

  pub leave-fits : (x : Connection) (q : Request) → connection_at s x.id ≡ Some x → request_at s q.number ≡ Some q → q.phase ≡ Given x.id → x.place ≡ Pending → Fits (leaving s n x q) (ended q.number GaveUp ∷ gave_up q.number ∷ xs)
  leave-fits x q at_x at_q phase place = record {
    matches = leave-matches s xs z.matches n x q at_x at_q phase place;
    asked = λ r. grind (arith, z.asked r, left_request s xs z.matches n x q at_x at_q phase r);
    order = order-stays q (EndedPhase GaveUp) at_q;
  }

  pub hand-fits : (x : Connection) (q : Request) → connection_at s x.id ≡ Some x → x.place ≡ Held → request_at s q.number ≡ Some q → q.phase ≡ Given x.id → x.pins ≡ 0 → Fits (handing s n (used_as x Ok) q) (checked_in x.id n ∷ ended q.number GaveUp ∷ gave_up q.number ∷ xs)
  hand-fits x q at_x place at_q phase loose = record {
    matches = hand-matches s xs z.matches n x q at_x place at_q phase loose;
    asked = λ r. grind (arith, z.asked r, handed_request s xs z.matches n x q at_x place at_q phase r);
    order = order-stays q (EndedPhase GaveUp) at_q;
  }

  pub forget-fits : (x : Connection) (service : Option ObjectId) → connection_at s x.id ≡ Some x → x.holder ≡ None → x.pins ≡ 0 → Fits (forgetting s n x) (closed x.id ∷ failed x.id service ∷ xs)
  forget-fits x service at_x alone loose = record {
    matches = forget-matches s xs z.matches n x service at_x loose alone;
    asked = z.asked;
    order = z.order;
  }

  pub fail-fits : (x : Connection) (service : Option ObjectId) (q : Request) (end : End) → connection_at s x.id ≡ Some x → request_at s q.number ≡ Some q → x.holder ≡ Some q.number → x.pins ≡ 0 → Fits (failing s n x q end) (ended q.number end ∷ closed x.id ∷ failed x.id service ∷ xs)
  fail-fits x service q end at_x at_q held loose = record {
    matches = fail-matches s xs z.matches n x service at_x q end at_q held loose;
    asked = λ r. grind (arith, z.asked r, failed_request s xs z.matches n x service at_x q end at_q held loose r);
    order = order-stays q (EndedPhase end) at_q;
  }

  pub late-fits : (r : ℕ) (told : List ℕ) → given_of (request_at s r) ≡ None → Fits (record s { kept = record s.kept { last = n; settled = told } }) (gave_up r ∷ xs)
  late-fits r told none = record {
    matches = late-matches s xs z.matches n r told none;
    asked = z.asked;
    order = z.order;
  }

  pub discard-fits : (x : Connection) → connection_at s x.id ≡ Some x → x.place ≡ Available → Fits (discarding s x) (closed x.id ∷ xs)
  discard-fits x at_x place = record {
    matches = discard-matches s xs z.matches x at_x place;
    asked = z.asked;
    order = z.order;
  }

  pub end-fits : (q : Request) (end : End) → request_at s q.number ≡ Some q → given_in q.phase ≡ None → Fits (ending s q end) (ended q.number end ∷ xs)
  end-fits q end at_q none = record {
    matches = end-matches s xs z.matches q end at_q none;
    asked = λ r. grind (arith, z.asked r, over_request s xs z.matches q end at_q none r);
    order = order-stays q (EndedPhase end) at_q;
  }

  pub later-fits : Fits (record s { kept = record s.kept { last = n } }) xs
  later-fits = record { matches = later-matches s xs n z.matches; asked = z.asked; order = z.order }

  pub ready-fits : Fits (record s { kept = record s.kept { status = Ready } }) (pool_ready ∷ xs)
  ready-fits = record { matches = ready-matches s xs z.matches; asked = z.asked; order = z.order }

  pub raise-fits : (service : Option ObjectId) (error : Error) → Fits (raising s n service error) (raised service error ∷ xs)
  raise-fits service error = record { matches = raise-matches s xs z.matches n service error; asked = z.asked; order = z.order }

-- a connection that was just checked in is closed
pub pool-drop-fits : (s : PoolCore) (xs : List PoolItem) (z : Fits s xs) (n : ℕ) (x : Connection) (how : Established) → connection_at s x.id ≡ Some x → x.place ≡ Pending → x.holder ≡ None → Fits (forgetting s n x) (closed x.id ∷ checked_in x.id n ∷ established x.id how n ∷ xs)
pool-drop-fits s xs z n x how at_x place alone =
    let in_x : Connection = record x { place = Available; holder = None; service = how.service_id; wire = Some how.wire; since = n } in
    let u : PoolCore = pooling s n x how in
    let at_u : connection_at u x.id ≡ Some in_x = entry_at-put id_of x.id in_x s.kept.connections ∙ rw (same-number x.id) refl in
    subst (λ cs. Fits (record s { kept = record s.kept { last = n; connections = cs } }) (closed x.id ∷ checked_in x.id n ∷ established x.id how n ∷ xs)) (others-put id_of in_x s.kept.connections) (discard-fits u (checked_in x.id n ∷ established x.id how n ∷ xs) (pool-fits s xs z n x how at_x place alone) n in_x at_u refl)

pub lose-fits : (s : PoolCore) (xs : List PoolItem) (z : Fits s xs) (n : ℕ) (x : Connection) (q : Request) → connection_at s x.id ≡ Some x → x.place ≡ Held → request_at s q.number ≡ Some q → q.phase ≡ Given x.id → x.pins ≡ 0 → Fits (losing s n (used_as x Ok) q) (closed x.id ∷ checked_in x.id n ∷ ended q.number GaveUp ∷ gave_up q.number ∷ xs)
lose-fits s xs z n x q at_x place at_q phase loose =
    let in_x : Connection = record (used_as x Ok) { place = Available; holder = None; since = n } in
    let u : PoolCore = handing s n (used_as x Ok) q in
    let at_u : connection_at u x.id ≡ Some in_x = entry_at-put id_of x.id in_x s.kept.connections ∙ rw (same-number x.id) refl in
    subst (λ cs. Fits (with_connections (finishing s n q (EndedPhase GaveUp)) cs) (closed x.id ∷ checked_in x.id n ∷ ended q.number GaveUp ∷ gave_up q.number ∷ xs)) (others-put id_of in_x s.kept.connections) (discard-fits u (checked_in x.id n ∷ ended q.number GaveUp ∷ gave_up q.number ∷ xs) (hand-fits s xs z n x q at_x place at_q phase loose) n in_x at_u refl)

-- a connection that comes back to a closed pool is not checked in
pub skip-fits : (s : PoolCore) (xs : List PoolItem) (c n : ℕ) → Fits s (closed c ∷ checked_in c n ∷ xs) → Fits s (closed c ∷ xs)
skip-fits s xs c n z = record { matches = skip-check-in s xs c n z.matches; asked = z.asked; order = z.order }

-- the end of a warm request comes after what its connection does
pub late-end-fits : (s : PoolCore) (xs : List PoolItem) (c n r : ℕ) (how : Established) (end : End) → Fits s (checked_in c n ∷ established c how n ∷ ended r end ∷ xs) → Fits s (ended r end ∷ checked_in c n ∷ established c how n ∷ xs)
late-end-fits s xs c n r how end z = record { matches = late-end s xs c n r how end z.matches; asked = z.asked; order = z.order }

pub late-end-fits_closed : (s : PoolCore) (xs : List PoolItem) (c n r : ℕ) (how : Established) (end : End) → Fits s (closed c ∷ checked_in c n ∷ established c how n ∷ ended r end ∷ xs) → Fits s (ended r end ∷ closed c ∷ checked_in c n ∷ established c how n ∷ xs)
late-end-fits_closed s xs c n r how end z = record { matches = late-end_closed s xs c n r how end z.matches; asked = z.asked; order = z.order }

pub late-end-fits_skipped : (s : PoolCore) (xs : List PoolItem) (c n r : ℕ) (how : Established) (end : End) → Fits s (closed c ∷ established c how n ∷ ended r end ∷ xs) → Fits s (ended r end ∷ closed c ∷ established c how n ∷ xs)
late-end-fits_skipped s xs c n r how end z = record { matches = late-end_skipped s xs c n r how end z.matches; asked = z.asked; order = z.order }

-- what was told and claimed, and the last moment, are nothing that the items say
pub noted-fits : (s : PoolCore) (told claims : List ℕ) (n : ℕ) (xs : List PoolItem) → Fits s xs → Fits (record s { kept = record s.kept { last = n; settled = told; claimed = claims } }) xs
noted-fits s told claims n xs z = record {
  matches = record {
    counts = record {
      created = z.matches.counts.created;
      live_all = z.matches.counts.live_all;
      pending = z.matches.counts.pending;
      available = z.matches.counts.available;
      single = z.matches.counts.single;
      unused = z.matches.counts.unused;
    };
    connections = record {
      live = z.matches.connections.live;
      parties = z.matches.connections.parties;
      ungranted = z.matches.connections.ungranted;
      granted_to = z.matches.connections.granted_to;
      created_at = z.matches.connections.created_at;
      since = z.matches.connections.since;
    };
    told = record {
      served = z.matches.told.served;
      service = z.matches.told.service;
      wire = z.matches.told.wire;
    };
    requests = record {
      queue = z.matches.requests.queue;
      given = z.matches.requests.given;
      single_request = z.matches.requests.single_request;
      asked_at = z.matches.requests.asked_at;
      ends = z.matches.requests.ends;
      asks = z.matches.requests.asks;
      warm = z.matches.requests.warm;
    };
    links = record {
      taken = z.matches.links.taken;
      owned = z.matches.links.owned;
      known = z.matches.links.known;
      free = z.matches.links.free;
      busy = z.matches.links.busy;
      waits = z.matches.links.waits;
      left_by = z.matches.links.left_by;
      fills = z.matches.links.fills;
    };
    pinning = record {
      pins = z.matches.pinning.pins;
      loose = z.matches.pinning.loose;
      rests = z.matches.pinning.rests;
    };
    uses = record {
      errored = z.matches.uses.errored;
      dropped = z.matches.uses.dropped;
      calm = z.matches.uses.calm;
    };
    clearing = record {
      status = z.matches.clearing.status;
      clears = z.matches.clearing.clears;
      before = z.matches.clearing.before;
      seen = z.matches.clearing.seen;
    };
    at_pin = z.matches.at_pin;
  };
  asked = z.asked;
  order = z.order;
}
