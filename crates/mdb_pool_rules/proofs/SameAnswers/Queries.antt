-- Lists of items of which each query says the same.
use Rattle.std.proofs.Common.{ℕ, ◌≡◌, List, Option, refl, sym, ◌∙◌}
use Rattle.mdb_base.specs.declared.object_id.ObjectId.{ObjectId}
use Rattle.mdb_log.specs.declared.options.PoolOptions.{PoolOptions}
use Rattle.mdb_log.specs.History.{PoolItem, given, has_asked, has_taken}
use Rattle.mdb_log.specs.Connections.{live, live_total, created_total, created_at, pending_list, parties, pins, is_pinned, granted_to, available_list, since, service_of, known_service, wire_of, timeouts_since, last_use, is_errored}
use Rattle.mdb_log.specs.Requests.{requests, queued, is_warm, asked_at, end_of}
use Rattle.mdb_log.specs.State.{state_of, generation_of, generation_before}

-- parties and requests, connections, and the pool itself
pub record Alike (xs ys : List PoolItem) : Type 0 where
  pub given : (r : ℕ) → given xs r ≡ given ys r
  pub has_asked : (r : ℕ) → has_asked xs r ≡ has_asked ys r
  pub has_taken : (r : ℕ) → has_taken xs r ≡ has_taken ys r
  pub requests : requests xs ≡ requests ys
  pub queued : queued xs ≡ queued ys
  pub is_warm : (r : ℕ) → is_warm xs r ≡ is_warm ys r
  pub asked_at : (r : ℕ) → asked_at xs r ≡ asked_at ys r
  pub end_of : (r : ℕ) → end_of xs r ≡ end_of ys r
  pub live : (c : ℕ) → live xs c ≡ live ys c
  pub live_total : live_total xs ≡ live_total ys
  pub created_total : created_total xs ≡ created_total ys
  pub created_at : (c : ℕ) → created_at xs c ≡ created_at ys c
  pub pending_list : pending_list xs ≡ pending_list ys
  pub parties : (c : ℕ) → parties xs c ≡ parties ys c
  pub pins : (c : ℕ) → pins xs c ≡ pins ys c
  pub is_pinned : (c : ℕ) → is_pinned xs c ≡ is_pinned ys c
  pub granted_to : (c : ℕ) → granted_to xs c ≡ granted_to ys c
  pub available_list : available_list xs ≡ available_list ys
  pub since : (c : ℕ) → since xs c ≡ since ys c
  pub service_of : (c : ℕ) → service_of xs c ≡ service_of ys c
  pub known_service : (c : ℕ) → known_service xs c ≡ known_service ys c
  pub wire_of : (c : ℕ) → wire_of xs c ≡ wire_of ys c
  pub timeouts_since : (c : ℕ) → timeouts_since xs c ≡ timeouts_since ys c
  pub last_use : (c : ℕ) → last_use xs c ≡ last_use ys c
  pub is_errored : (c : ℕ) → is_errored xs c ≡ is_errored ys c
  pub state_of : (o : PoolOptions) → state_of o xs ≡ state_of o ys
  pub generation_of : (t : Option ObjectId) → generation_of xs t ≡ generation_of ys t
  pub generation_before : (c : ℕ) (t : Option ObjectId) → generation_before xs c t ≡ generation_before ys c t

pub alike-same : (xs : List PoolItem) → Alike xs xs
alike-same xs = record {
  given = λ r. refl;
  has_asked = λ r. refl;
  has_taken = λ r. refl;
  requests = refl;
  queued = refl;
  is_warm = λ r. refl;
  asked_at = λ r. refl;
  end_of = λ r. refl;
  live = λ c. refl;
  live_total = refl;
  created_total = refl;
  created_at = λ c. refl;
  pending_list = refl;
  parties = λ c. refl;
  pins = λ c. refl;
  is_pinned = λ c. refl;
  granted_to = λ c. refl;
  available_list = refl;
  since = λ c. refl;
  service_of = λ c. refl;
  known_service = λ c. refl;
  wire_of = λ c. refl;
  timeouts_since = λ c. refl;
  last_use = λ c. refl;
  is_errored = λ c. refl;
  state_of = λ o. refl;
  generation_of = λ t. refl;
  generation_before = λ c t. refl;
}

pub alike-then : (xs ys zs : List PoolItem) → Alike xs ys → Alike ys zs → Alike xs zs
alike-then xs ys zs j k = record {
  given = λ r. j.given r ∙ k.given r;
  has_asked = λ r. j.has_asked r ∙ k.has_asked r;
  has_taken = λ r. j.has_taken r ∙ k.has_taken r;
  requests = j.requests ∙ k.requests;
  queued = j.queued ∙ k.queued;
  is_warm = λ r. j.is_warm r ∙ k.is_warm r;
  asked_at = λ r. j.asked_at r ∙ k.asked_at r;
  end_of = λ r. j.end_of r ∙ k.end_of r;
  live = λ c. j.live c ∙ k.live c;
  live_total = j.live_total ∙ k.live_total;
  created_total = j.created_total ∙ k.created_total;
  created_at = λ c. j.created_at c ∙ k.created_at c;
  pending_list = j.pending_list ∙ k.pending_list;
  parties = λ c. j.parties c ∙ k.parties c;
  pins = λ c. j.pins c ∙ k.pins c;
  is_pinned = λ c. j.is_pinned c ∙ k.is_pinned c;
  granted_to = λ c. j.granted_to c ∙ k.granted_to c;
  available_list = j.available_list ∙ k.available_list;
  since = λ c. j.since c ∙ k.since c;
  service_of = λ c. j.service_of c ∙ k.service_of c;
  known_service = λ c. j.known_service c ∙ k.known_service c;
  wire_of = λ c. j.wire_of c ∙ k.wire_of c;
  timeouts_since = λ c. j.timeouts_since c ∙ k.timeouts_since c;
  last_use = λ c. j.last_use c ∙ k.last_use c;
  is_errored = λ c. j.is_errored c ∙ k.is_errored c;
  state_of = λ o. j.state_of o ∙ k.state_of o;
  generation_of = λ t. j.generation_of t ∙ k.generation_of t;
  generation_before = λ c t. j.generation_before c t ∙ k.generation_before c t;
}

pub alike-back : (xs ys : List PoolItem) → Alike xs ys → Alike ys xs
alike-back xs ys k = record {
  given = λ r. sym (k.given r);
  has_asked = λ r. sym (k.has_asked r);
  has_taken = λ r. sym (k.has_taken r);
  requests = sym k.requests;
  queued = sym k.queued;
  is_warm = λ r. sym (k.is_warm r);
  asked_at = λ r. sym (k.asked_at r);
  end_of = λ r. sym (k.end_of r);
  live = λ c. sym (k.live c);
  live_total = sym k.live_total;
  created_total = sym k.created_total;
  created_at = λ c. sym (k.created_at c);
  pending_list = sym k.pending_list;
  parties = λ c. sym (k.parties c);
  pins = λ c. sym (k.pins c);
  is_pinned = λ c. sym (k.is_pinned c);
  granted_to = λ c. sym (k.granted_to c);
  available_list = sym k.available_list;
  since = λ c. sym (k.since c);
  service_of = λ c. sym (k.service_of c);
  known_service = λ c. sym (k.known_service c);
  wire_of = λ c. sym (k.wire_of c);
  timeouts_since = λ c. sym (k.timeouts_since c);
  last_use = λ c. sym (k.last_use c);
  is_errored = λ c. sym (k.is_errored c);
  state_of = λ o. sym (k.state_of o);
  generation_of = λ t. sym (k.generation_of t);
  generation_before = λ c t. sym (k.generation_before c t);
}
