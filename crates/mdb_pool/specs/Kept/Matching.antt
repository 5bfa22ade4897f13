-- When what a pool keeps is what its items say, by subject: how many connections, each connection, what establishing told, each request, who has what, pins, uses, and clears.
use Rattle.std.specs.Prelude.{ℕ, ◌≡◌, ◌<◌, ◌≤◌, ◌+◌, Bool, true, false, if◌then◌else◌, ◌==◌, is_some, List, length, count_by, Option, Some, None, ℤ}
use Rattle.mdb_base.specs.declared.object_id.ObjectId.{ObjectId}
use Rattle.mdb_events.specs.declared.end.End.{End}
use Rattle.mdb_pool.specs.declared.kept.connection.Connection.{Connection}
use Rattle.mdb_pool.specs.declared.kept.request.Request.{Request}
use Rattle.mdb_pool.specs.declared.kept.status.Status.{Status}
use Rattle.mdb_pool.specs.declared.kept.status.Clear.{Clear}
use Rattle.mdb_pool.specs.Core.{PoolCore}
use Rattle.mdb_log.specs.History.{PoolItem, given, has_asked}
use Rattle.mdb_log.specs.Connections.{one_if, live, live_total, created_total, created_at, pending_list, parties, pins, granted_to, available_list, since, is_errored, known_service, service_of, last_use, is_dropped, is_pinned, wire_of, timeouts_since}
use Rattle.mdb_log.specs.Requests.{queued, is_warm, asked_at, end_of}
use Rattle.mdb_log.specs.State.{State, state_of, generation_of, generation_before}
use Rattle.mdb_pool.specs.Kept.Places.{is_pending, is_available, is_queued, is_held, is_at_pin, stays}
use Rattle.mdb_pool.specs.Kept.Values.{connection_in, request_in, given_of, asked_at_of, warm_of, ids_where, numbers_where, one_party, holder_at, end_at, is_ended_at, service_at, lasts_in, state_in, clears_for, clears_before, wire_at, is_asked_at, pins_at, is_pinned_at, errored_at, dropped_at, timeouts_in}

-- how many connections were made and live, which are pending and which available; each id once
pub record CountsMatch (made : ℕ) (cs : List Connection) (total alive : ℕ) (pending_now available_now : List ℕ) : Type 0 where
  pub created : total ≡ made
  pub live_all : alive ≡ length cs
  pub pending : pending_now ≡ ids_where is_pending cs
  pub available : available_now ≡ ids_where is_available cs
  pub single : (c : ℕ) → count_by (λ x. x.id == c) cs ≡ one_if (is_some (connection_in cs c))
  pub unused : (c : ℕ) → made < c → connection_in cs c ≡ None

-- each connection: whether it lives, its parties, to whom it was granted, and its moments
pub record ConnectionsMatch (made : ℕ) (cs : List Connection) (lives : ℕ → ℕ) (has_it : ℕ → List ℕ) (granted : ℕ → Option ℕ) (began back : ℕ → ℕ) : Type 0 where
  pub live : (c : ℕ) → lives c ≡ one_if (is_some (connection_in cs c))
  pub parties : (c : ℕ) → has_it c ≡ one_party (holder_at (connection_in cs c))
  pub ungranted : (c : ℕ) → made < c → granted c ≡ None
  pub granted_to : (c : ℕ) (x : Connection) → connection_in cs c ≡ Some x → granted c ≡ x.party
  pub created_at : (c : ℕ) (x : Connection) → connection_in cs c ≡ Some x → began c ≡ x.created_at
  pub since : (c : ℕ) (x : Connection) → connection_in cs c ≡ Some x → is_available x.place ≡ true → back c ≡ x.since

-- what establishing a connection told: the service, for its generation and in its events, and the wire version
pub record ToldMatch (made : ℕ) (cs : List Connection) (serves names : ℕ → Option ObjectId) (speaks : ℕ → Option ℤ) : Type 0 where
  pub served : (c : ℕ) → (if lasts_in made cs c then serves c else None) ≡ service_at (connection_in cs c)
  pub service : (c : ℕ) → (if lasts_in made cs c then names c else None) ≡ service_at (connection_in cs c)
  pub wire : (c : ℕ) → (if lasts_in made cs c then speaks c else None) ≡ wire_at (connection_in cs c)

-- the queue, and each request; each number once
pub record RequestsMatch (qs : List Request) (queue_now : List ℕ) (gets : ℕ → Option ℕ) (moment : ℕ → ℕ) (over : ℕ → Option End) (has_asked warms : ℕ → Bool) : Type 0 where
  pub queue : queue_now ≡ numbers_where is_queued qs
  pub given : (r : ℕ) → gets r ≡ given_of (request_in qs r)
  pub single_request : (r : ℕ) → count_by (λ q. q.number == r) qs ≡ one_if (is_some (request_in qs r))
  pub asked_at : (r : ℕ) → moment r ≡ asked_at_of (request_in qs r)
  pub ends : (r : ℕ) → over r ≡ end_at (request_in qs r)
  pub asks : (r : ℕ) → has_asked r ≡ is_asked_at (request_in qs r)
  pub warm : (r : ℕ) → warms r ≡ warm_of (request_in qs r)

-- Connections and requests know each other. Nobody has one that is available, somebody one that is held, and its party one that is pending, unless that one ended; one that was created in the background has no party. Warm requests get pending connections alone.
pub record LinksMatch (cs : List Connection) (qs : List Request) : Type 0 where
  pub taken : (r c : ℕ) → given_of (request_in qs r) ≡ Some c → holder_at (connection_in cs c) ≡ Some r
  pub owned : (c r : ℕ) → holder_at (connection_in cs c) ≡ Some r → given_of (request_in qs r) ≡ Some c
  pub known : (c : ℕ) (x : Connection) (r : ℕ) → connection_in cs c ≡ Some x → x.party ≡ Some r → is_asked_at (request_in qs r) ≡ true
  pub free : (c : ℕ) (x : Connection) → connection_in cs c ≡ Some x → is_available x.place ≡ true → x.holder ≡ None
  pub busy : (c : ℕ) (x : Connection) → connection_in cs c ≡ Some x → is_held x.place ≡ true → is_some x.holder ≡ true
  pub waits : (c : ℕ) (x : Connection) (r : ℕ) → connection_in cs c ≡ Some x → is_pending x.place ≡ true → x.holder ≡ Some r → x.party ≡ Some r
  pub left_by : (c : ℕ) (x : Connection) (r : ℕ) → connection_in cs c ≡ Some x → is_pending x.place ≡ true → x.holder ≡ None → x.party ≡ Some r → is_ended_at (request_in qs r) ≡ true
  pub fills : (c : ℕ) (x : Connection) (r : ℕ) → connection_in cs c ≡ Some x → x.holder ≡ Some r → warm_of (request_in qs r) ≡ true → is_pending x.place ≡ true

-- pins: a connection that is neither held nor at its pin has none, and nobody has one that is at its pin
pub record PinsMatch (cs : List Connection) (stand : ℕ → ℕ) : Type 0 where
  pub pins : (c : ℕ) → stand c ≡ pins_at (connection_in cs c)
  pub loose : (c : ℕ) (x : Connection) → connection_in cs c ≡ Some x → stays x.place ≡ false → x.pins ≡ 0
  pub rests : (c : ℕ) (x : Connection) → connection_in cs c ≡ Some x → is_at_pin x.place ≡ true → x.holder ≡ None

-- how a connection was used, and the clears by a network timeout since somebody has it
pub record UsesMatch (made : ℕ) (cs : List Connection) (ks : List Clear) (fails drops : ℕ → Bool) (times_out : ℕ → ℕ) : Type 0 where
  pub errored : (c : ℕ) → (if lasts_in made cs c then fails c else false) ≡ errored_at (connection_in cs c)
  pub dropped : (c : ℕ) → (if lasts_in made cs c then drops c else false) ≡ dropped_at (connection_in cs c)
  pub calm : (c : ℕ) (x : Connection) → connection_in cs c ≡ Some x → is_some x.holder ≡ true → times_out c + x.timeouts ≡ timeouts_in ks

-- the state of the pool, and its clears as a whole and for each service
pub record ClearsMatch (made : ℕ) (now : Status) (ks : List Clear) (state : State) (generation : Option ObjectId → ℕ) (earlier : ℕ → Option ObjectId → ℕ) : Type 0 where
  pub status : state ≡ state_in now
  pub clears : (t : Option ObjectId) → generation t ≡ clears_for t ks
  pub before : (c : ℕ) (t : Option ObjectId) → c ≤ made → earlier c t ≡ clears_before c t ks
  pub seen : (c : ℕ) (t : Option ObjectId) → made < c → clears_before c t ks ≡ clears_for t ks

-- What the pool keeps is what its items say.
pub record Matches (s : PoolCore) (xs : List PoolItem) : Type 0 where
  pub counts : CountsMatch s.kept.created s.kept.connections (created_total xs) (live_total xs) (pending_list xs) (available_list xs)
  pub connections : ConnectionsMatch s.kept.created s.kept.connections (λ c. live xs c) (λ c. parties xs c) (λ c. granted_to xs c) (λ c. created_at xs c) (λ c. since xs c)
  pub told : ToldMatch s.kept.created s.kept.connections (λ c. service_of xs c) (λ c. known_service xs c) (λ c. wire_of xs c)
  pub requests : RequestsMatch s.kept.requests (queued xs) (λ r. given xs r) (λ r. asked_at xs r) (λ r. end_of xs r) (λ r. has_asked xs r) (λ r. is_warm xs r)
  pub links : LinksMatch s.kept.connections s.kept.requests
  pub pinning : PinsMatch s.kept.connections (λ c. pins xs c)
  pub uses : UsesMatch s.kept.created s.kept.connections s.kept.clears (λ c. is_errored xs c) (λ c. is_dropped (last_use xs c)) (λ c. timeouts_since xs c)
  pub clearing : ClearsMatch s.kept.created s.kept.status s.kept.clears (state_of s.options xs) (λ t. generation_of xs t) (λ c t. generation_before xs c t)
  pub at_pin : (c : ℕ) → is_pinned xs c ≡ is_pinned_at (connection_in s.kept.connections c)
