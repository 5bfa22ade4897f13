-- What lists of items say alike they say alike with one more item.
use Rattle.std.proofs.Common.{ℕ, ◌≡◌, List, ◌∷◌, Option, Some, None, refl, ◌∙◌}
use Rattle.mdb_base.specs.declared.object_id.ObjectId.{ObjectId}
use Rattle.mdb_log.specs.declared.options.PoolOptions.{PoolOptions}
use Rattle.mdb_log.specs.declared.step.Use.TheVariants.{Errored}
use Rattle.mdb_log.specs.History.{PoolItem, asked, gave_up, returned, pinned_by, established, created, granted, ended, taken, raised, pool_created, pool_ready, pool_closed, given, has_asked, has_taken}
use Rattle.mdb_log.specs.Connections.{live, live_total, created_total, created_at, pending_list, parties, holding, pins, comes_back, is_pinned, granted_to, available_list, since, service_of, known_service, wire_of, timeouts_since, last_use, is_errored}
use Rattle.mdb_log.specs.Requests.{requests, queued, is_warm, asked_at, end_of}
use Rattle.mdb_log.specs.State.{state_of, generation_of, generation_before}
use Rattle.mdb_pool_rules.proofs.SameAnswers.Queries.{Alike}

module _ (xs ys : List PoolItem) (k : Alike xs ys) where
  given-next : (x : PoolItem) (r : ℕ) → given (x ∷ xs) r ≡ given (x ∷ ys) r
  given-next (granted q c) r = rw (k.given r) refl
  given-next _ r = rw (k.given r) refl

  has_asked-next : (x : PoolItem) (r : ℕ) → has_asked (x ∷ xs) r ≡ has_asked (x ∷ ys) r
  has_asked-next (asked q m) r = rw (k.has_asked r) refl
  has_asked-next _ r = rw (k.has_asked r) refl

  has_taken-next : (x : PoolItem) (r : ℕ) → has_taken (x ∷ xs) r ≡ has_taken (x ∷ ys) r
  has_taken-next (taken q c) r = rw (k.has_taken r) refl
  has_taken-next _ r = rw (k.has_taken r) refl

  requests-next : (x : PoolItem) → requests (x ∷ xs) ≡ requests (x ∷ ys)
  requests-next (asked q m) = rw k.requests refl
  requests-next _ = rw k.requests refl

  queued-next : (x : PoolItem) → queued (x ∷ xs) ≡ queued (x ∷ ys)
  queued-next (asked q m) = rw k.queued refl
  queued-next _ = rw k.queued refl

  is_warm-next : (x : PoolItem) (r : ℕ) → is_warm (x ∷ xs) r ≡ is_warm (x ∷ ys) r
  is_warm-next (asked q m) r = rw (k.is_warm r) refl
  is_warm-next _ r = rw (k.is_warm r) refl

  asked_at-next : (x : PoolItem) (r : ℕ) → asked_at (x ∷ xs) r ≡ asked_at (x ∷ ys) r
  asked_at-next (asked q m) r = rw (k.asked_at r) refl
  asked_at-next _ r = rw (k.asked_at r) refl

  end_of-next : (x : PoolItem) (r : ℕ) → end_of (x ∷ xs) r ≡ end_of (x ∷ ys) r
  end_of-next (ended q end) r = rw (k.end_of r) refl
  end_of-next _ r = rw (k.end_of r) refl

  live-next : (x : PoolItem) (c : ℕ) → live (x ∷ xs) c ≡ live (x ∷ ys) c
  live-next (created d m) c = rw (k.live c) refl
  live-next _ c = rw (k.live c) refl

  live_total-next : (x : PoolItem) → live_total (x ∷ xs) ≡ live_total (x ∷ ys)
  live_total-next (created d m) = rw k.live_total refl
  live_total-next _ = rw k.live_total refl

  created_total-next : (x : PoolItem) → created_total (x ∷ xs) ≡ created_total (x ∷ ys)
  created_total-next (created d m) = rw k.created_total refl
  created_total-next _ = rw k.created_total refl

  created_at-next : (x : PoolItem) (c : ℕ) → created_at (x ∷ xs) c ≡ created_at (x ∷ ys) c
  created_at-next (created d m) c = rw (k.created_at c) refl
  created_at-next _ c = rw (k.created_at c) refl

  pending_list-next : (x : PoolItem) → pending_list (x ∷ xs) ≡ pending_list (x ∷ ys)
  pending_list-next (created d m) = rw k.pending_list refl
  pending_list-next _ = rw k.pending_list refl

  parties-next : (x : PoolItem) (c : ℕ) → parties (x ∷ xs) c ≡ parties (x ∷ ys) c
  parties-next (granted q d) c = rw (k.parties c) refl
  parties-next _ c = rw (k.parties c) refl

  pins-next : (x : PoolItem) (c : ℕ) → pins (x ∷ xs) c ≡ pins (x ∷ ys) c
  pins-next (pinned_by q) c = rw (k.pins c, k.given q) refl
  pins-next _ c = rw (k.pins c) refl

  pub holding-alike : (r : ℕ) → holding xs r ≡ holding ys r
  holding-alike r = on (given ys r) refl
    where
      on : (g : Option ℕ) → given ys r ≡ g → holding xs r ≡ holding ys r
      on None e = let f : given xs r ≡ None = k.given r ∙ e in rw (e, f) refl
      on (Some c) e = let f : given xs r ≡ Some c = k.given r ∙ e in rw (e, f, k.pending_list) refl

  comes_back-next : (x : PoolItem) (c : ℕ) → comes_back x xs c ≡ comes_back x ys c
  comes_back-next (returned q used) c = rw (holding-alike q) refl
  comes_back-next (gave_up q) c = rw (holding-alike q) refl
  comes_back-next _ c = refl

  is_pinned-next : (x : PoolItem) (c : ℕ) → is_pinned (x ∷ xs) c ≡ is_pinned (x ∷ ys) c
  is_pinned-next x c = rw (comes_back-next x c, k.is_pinned c, pins-next x c) refl

  granted_to-next : (x : PoolItem) (c : ℕ) → granted_to (x ∷ xs) c ≡ granted_to (x ∷ ys) c
  granted_to-next (granted q d) c = rw (k.granted_to c) refl
  granted_to-next _ c = rw (k.granted_to c) refl

  available_list-next : (x : PoolItem) → available_list (x ∷ xs) ≡ available_list (x ∷ ys)
  available_list-next (established d how m) = rw (k.granted_to d, k.available_list) refl
  available_list-next _ = rw k.available_list refl

  since-next : (x : PoolItem) (c : ℕ) → since (x ∷ xs) c ≡ since (x ∷ ys) c
  since-next (established d how m) c = rw (k.granted_to c, k.since c) refl
  since-next _ c = rw (k.since c) refl

  service_of-next : (x : PoolItem) (c : ℕ) → service_of (x ∷ xs) c ≡ service_of (x ∷ ys) c
  service_of-next (established d how m) c = rw (k.service_of c) refl
  service_of-next _ c = rw (k.service_of c) refl

  known_service-next : (x : PoolItem) (c : ℕ) → known_service (x ∷ xs) c ≡ known_service (x ∷ ys) c
  known_service-next (established d how m) c = rw (k.known_service c) refl
  known_service-next _ c = rw (k.known_service c) refl

  wire_of-next : (x : PoolItem) (c : ℕ) → wire_of (x ∷ xs) c ≡ wire_of (x ∷ ys) c
  wire_of-next (established d how m) c = rw (k.wire_of c) refl
  wire_of-next _ c = rw (k.wire_of c) refl

  timeouts_since-next : (x : PoolItem) (c : ℕ) → timeouts_since (x ∷ xs) c ≡ timeouts_since (x ∷ ys) c
  timeouts_since-next (granted q d) c = rw (k.timeouts_since c) refl
  timeouts_since-next _ c = rw (k.timeouts_since c) refl

  last_use-next : (x : PoolItem) (c : ℕ) → last_use (x ∷ xs) c ≡ last_use (x ∷ ys) c
  last_use-next (returned q used) c = rw (k.given q, k.last_use c) refl
  last_use-next (gave_up q) c = rw (k.given q, k.last_use c) refl
  last_use-next _ c = rw (k.last_use c) refl

  is_errored-next : (x : PoolItem) (c : ℕ) → is_errored (x ∷ xs) c ≡ is_errored (x ∷ ys) c
  is_errored-next (returned q Errored) c = rw (k.given q, k.is_errored c) refl
  is_errored-next _ c = rw (k.is_errored c) refl

  state_of-next : (x : PoolItem) (o : PoolOptions) → state_of o (x ∷ xs) ≡ state_of o (x ∷ ys)
  state_of-next pool_created o = refl
  state_of-next pool_ready o = refl
  state_of-next pool_closed o = refl
  state_of-next (raised None error) o = refl
  state_of-next _ o = rw (k.state_of o) refl

  generation_of-next : (x : PoolItem) (t : Option ObjectId) → generation_of (x ∷ xs) t ≡ generation_of (x ∷ ys) t
  generation_of-next (raised s error) t = rw (k.generation_of t) refl
  generation_of-next _ t = rw (k.generation_of t) refl

  generation_before-next : (x : PoolItem) (c : ℕ) (t : Option ObjectId) → generation_before (x ∷ xs) c t ≡ generation_before (x ∷ ys) c t
  generation_before-next (created d m) c t = rw (k.generation_of t, k.generation_before c t) refl
  generation_before-next _ c t = rw (k.generation_before c t) refl

  pub alike-next : (x : PoolItem) → Alike (x ∷ xs) (x ∷ ys)
  alike-next x = record {
    given = given-next x;
    has_asked = has_asked-next x;
    has_taken = has_taken-next x;
    requests = requests-next x;
    queued = queued-next x;
    is_warm = is_warm-next x;
    asked_at = asked_at-next x;
    end_of = end_of-next x;
    live = live-next x;
    live_total = live_total-next x;
    created_total = created_total-next x;
    created_at = created_at-next x;
    pending_list = pending_list-next x;
    parties = parties-next x;
    pins = pins-next x;
    is_pinned = is_pinned-next x;
    granted_to = granted_to-next x;
    available_list = available_list-next x;
    since = since-next x;
    service_of = service_of-next x;
    known_service = known_service-next x;
    wire_of = wire_of-next x;
    timeouts_since = timeouts_since-next x;
    last_use = last_use-next x;
    is_errored = is_errored-next x;
    state_of = state_of-next x;
    generation_of = generation_of-next x;
    generation_before = generation_before-next x;
  }
