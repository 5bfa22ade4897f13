-- The state of a pool fits all items that say alike.
use Rattle.std.proofs.Common.{◌≡◌, ◌+◌, false, List, None, refl, sym, ◌∙◌, ap, if◌then◌else◌}
use Rattle.mdb_pool.specs.Core.{PoolCore}
use Rattle.mdb_log.specs.History.{PoolItem, has_party}
use Rattle.mdb_log.specs.Connections.{is_dropped}
use Rattle.mdb_pool.specs.Kept.Values.{lasts_in}
use Rattle.mdb_pool.specs.Kept.Matching.{Matches}
use Rattle.mdb_pool.specs.Standing.{Fits}
use Rattle.mdb_pool_rules.proofs.SameAnswers.Queries.{Alike}

module _ (s : PoolCore) (xs ys : List PoolItem) (k : Alike xs ys) where
  matches-alike : Matches s xs → Matches s ys
  matches-alike m = record {
    counts = record {
      created = sym k.created_total ∙ m.counts.created;
      live_all = sym k.live_total ∙ m.counts.live_all;
      pending = sym k.pending_list ∙ m.counts.pending;
      available = sym k.available_list ∙ m.counts.available;
      single = m.counts.single;
      unused = m.counts.unused;
    };
    connections = record {
      live = λ c. sym (k.live c) ∙ m.connections.live c;
      parties = λ c. sym (k.parties c) ∙ m.connections.parties c;
      ungranted = λ c l. sym (k.granted_to c) ∙ m.connections.ungranted c l;
      granted_to = λ c x e. sym (k.granted_to c) ∙ m.connections.granted_to c x e;
      created_at = λ c x e. sym (k.created_at c) ∙ m.connections.created_at c x e;
      since = λ c x e f. sym (k.since c) ∙ m.connections.since c x e f;
    };
    told = record {
      served = λ c. ap (λ t. if lasts_in s.kept.created s.kept.connections c then t else None) (sym (k.service_of c)) ∙ m.told.served c;
      service = λ c. ap (λ t. if lasts_in s.kept.created s.kept.connections c then t else None) (sym (k.known_service c)) ∙ m.told.service c;
      wire = λ c. ap (λ w. if lasts_in s.kept.created s.kept.connections c then w else None) (sym (k.wire_of c)) ∙ m.told.wire c;
    };
    requests = record {
      queue = sym k.queued ∙ m.requests.queue;
      given = λ r. sym (k.given r) ∙ m.requests.given r;
      single_request = m.requests.single_request;
      asked_at = λ r. sym (k.asked_at r) ∙ m.requests.asked_at r;
      ends = λ r. sym (k.end_of r) ∙ m.requests.ends r;
      asks = λ r. sym (k.has_asked r) ∙ m.requests.asks r;
      warm = λ r. sym (k.is_warm r) ∙ m.requests.warm r;
    };
    links = m.links;
    pinning = record {
      pins = λ c. sym (k.pins c) ∙ m.pinning.pins c;
      loose = m.pinning.loose;
      rests = m.pinning.rests;
    };
    uses = record {
      errored = λ c. ap (λ b. if lasts_in s.kept.created s.kept.connections c then b else false) (sym (k.is_errored c)) ∙ m.uses.errored c;
      dropped = λ c. ap (λ u. if lasts_in s.kept.created s.kept.connections c then is_dropped u else false) (sym (k.last_use c)) ∙ m.uses.dropped c;
      calm = λ c x e f. ap (λ n. n + x.timeouts) (sym (k.timeouts_since c)) ∙ m.uses.calm c x e f;
    };
    clearing = record {
      status = sym (k.state_of s.options) ∙ m.clearing.status;
      clears = λ t. sym (k.generation_of t) ∙ m.clearing.clears t;
      before = λ c t l. sym (k.generation_before c t) ∙ m.clearing.before c t l;
      seen = m.clearing.seen;
    };
    at_pin = λ c. sym (k.is_pinned c) ∙ m.at_pin c;
  }

  pub fits-alike : Fits s xs → Fits s ys
  fits-alike z = record {
    matches = matches-alike z.matches;
    asked = λ r. let same : has_party xs r ≡ has_party ys r = rw (k.has_asked r, k.has_taken r) refl in sym same ∙ z.asked r;
    order = sym k.requests ∙ z.order;
  }
