-- What one more item changes of a pool.
use Rattle.std.proofs.Common.{ℕ, ◌+◌, ◌-◌, ◌≡◌, ◌==◌, Bool, true, false, ◌||◌, Some, None, map, List, [], ◌∷◌, ◌++◌, refl, ap, ◌∙◌}
use Rattle.mdb_events.specs.declared.cmap.CmapEvent.{CmapEvent}
use Rattle.mdb_events.specs.declared.cmap.CmapEvent.TheVariants.{PoolCreated, PoolReady, PoolClosed, ConnectionCreated, ConnectionClosed, ConnectionCheckedIn}
use Rattle.mdb_events.specs.declared.fact.Fact.{Fact}
use Rattle.mdb_events.specs.declared.fact.Fact.TheVariants.{Opened, Pool, Granted, Ended, Raised}
use Rattle.mdb_log.specs.declared.options.PoolOptions.{PoolOptions}
use Rattle.mdb_log.specs.declared.step.Act.{Act}
use Rattle.mdb_log.specs.declared.step.Act.TheVariants.{Request, Warm, GiveUp, Established, Failed, Return, Pin, Replicate, Take, Unpin}
use Rattle.mdb_log.specs.declared.step.FailedAt.TheVariants.{Pre, Post}
use Rattle.mdb_log.specs.declared.reply.Reply.{Reply}
use Rattle.mdb_log.specs.History.{Item, PoolItem, did, made, of_pool, open_pool, if_so, created, closed, checked_in, established, failed, granted, service_in}
use Rattle.mdb_log.specs.Connections.{has, one_if, created_total}
use Rattle.mdb_log.specs.Homes.{Home, homes}
use Rattle.mdb_log.specs.PlainConnections.{is_pending}
use Rattle.mdb_log.specs.PlainState.{pools, last_state}
use Rattle.mdb_log.proofs.Numbers.{has-append}
use Rattle.mdb_tallies.specs.declared.pools.Pool.{Pool as PoolRecord}
use Rattle.mdb_tallies.specs.Standing.{connection_of, pool_by, pool_stands}
use Rattle.mdb_tallies.specs.Changes.{pool_after, pool_if}
use Rattle.mdb_tallies.specs.Reading.{of_fact, of_event, of_act}
use Rattle.mdb_tallies.proofs.Alone.{Alone, counted, at_hand, alone-closed, alone-pending, alone-available, created-alone, closed-alone, checked_in-alone, established-alone, failed-alone, granted-alone}

-- the pool after one more item of the connection d
abbrev replaced : ℕ → List PoolItem → List PoolItem → ℕ → PoolRecord → PoolRecord
replaced n ys xs d pool = record pool {
  created = n;
  closed = (pool.closed + counted ys d) - counted xs d;
  pending = (pool.pending + one_if (is_pending ys d)) - one_if (is_pending xs d);
  available = (pool.available + one_if (at_hand ys d)) - one_if (at_hand xs d);
}

place : (b : Bool) (y : PoolItem) (d n : ℕ) (o : PoolOptions) (opened : Bool) (xs : List PoolItem) → Alone d (y ∷ xs) xs → last_state o (y ∷ xs) ≡ last_state o xs → created_total (y ∷ xs) ≡ n → pool_by o opened (if_so b y xs) ≡ pool_if b (replaced n (if_so b y xs) xs d (pool_by o opened xs)) (pool_by o opened xs)
place true y d n o opened xs a e f = rw (e, f, alone-closed d (y ∷ xs) xs a, alone-pending d (y ∷ xs) xs a, alone-available d (y ∷ xs) xs a) refl
place false y d n o opened xs a e f = refl

turned : (b : Bool) (y : PoolItem) (ready : Bool) (o : PoolOptions) (opened : Bool) (xs : List PoolItem) → pool_by o opened (y ∷ xs) ≡ record (pool_by o opened xs) { is_ready = ready } → pool_by o opened (if_so b y xs) ≡ pool_if b (record (pool_by o opened xs) { is_ready = ready }) (pool_by o opened xs)
turned true y ready o opened xs e = e
turned false y ready o opened xs e = refl

unsaid : (b : Bool) (y : PoolItem) (o : PoolOptions) (opened : Bool) (xs : List PoolItem) → pool_by o opened (y ∷ xs) ≡ pool_by o opened xs → pool_by o opened (if_so b y xs) ≡ pool_by o opened xs
unsaid true y o opened xs e = e
unsaid false y o opened xs e = refl

first_ready : (b : Bool) (o : PoolOptions) (opened : Bool) (xs : List PoolItem) → o.load_balanced ≡ b → pool_by o opened (Rattle.mdb_log.specs.History.pool_created ∷ xs) ≡ record (pool_by o opened xs) { is_ready = o.load_balanced }
first_ready true o opened xs e = rw e refl
first_ready false o opened xs e = rw e refl

event-pool : (o : PoolOptions) (m q : ℕ) (event : CmapEvent) (h : List Item) (p : ℕ) → pool_stands o (made m (Pool q event) ∷ h) p ≡ pool_after (of_event q event) o.load_balanced (connection_of h p) (connection_of (made m (Pool q event) ∷ h) p) p (pool_stands o h p)
event-pool o m q (PoolCreated e) h p = turned (q == p) _ o.load_balanced o (has p (pools h)) (of_pool p h) (first_ready o.load_balanced o (has p (pools h)) (of_pool p h) refl)
event-pool o m q (PoolReady e) h p = turned (q == p) _ true o (has p (pools h)) (of_pool p h) refl
event-pool o m q (PoolClosed e) h p = turned (q == p) _ false o (has p (pools h)) (of_pool p h) refl
event-pool o m q (ConnectionCreated e) h p = place (q == p) (created e.connection_id m) e.connection_id (created_total (of_pool p h) + 1) o (has p (pools h)) (of_pool p h) (created-alone e.connection_id m (of_pool p h)) refl refl
event-pool o m q (ConnectionClosed e) h p = place (q == p) (closed e.connection_id) e.connection_id (created_total (of_pool p h)) o (has p (pools h)) (of_pool p h) (closed-alone e.connection_id (of_pool p h)) refl refl
event-pool o m q (ConnectionCheckedIn e) h p = place (q == p) (checked_in e.connection_id m) e.connection_id (created_total (of_pool p h)) o (has p (pools h)) (of_pool p h) (checked_in-alone e.connection_id m (of_pool p h)) refl refl
event-pool o m q event h p = refl

map-push : (xs : List Home) (x : Home) → map (λ y. y.number) (xs ++ x ∷ []) ≡ map (λ y. y.number) xs ++ x.number ∷ []
map-push [] x = refl
map-push (y ∷ xs) x = ap (λ ns. y.number ∷ ns) (map-push xs x)

opened_one : (b : Bool) (x : PoolRecord) → record x { is_opened = x.is_opened || b } ≡ pool_if b (record x { is_opened = true }) x
opened_one b x = first b x.is_opened x refl
  where
    first : (b was : Bool) (x : PoolRecord) → x.is_opened ≡ was → record x { is_opened = x.is_opened || b } ≡ pool_if b (record x { is_opened = true }) x
    first true true x e = rw e refl
    first true false x e = rw e refl
    first false true x e = rw e refl
    first false false x e = rw e refl

-- A pool after one more fact.
pub fact-pool : (o : PoolOptions) (m : ℕ) (fact : Fact) (h : List Item) (p : ℕ) → pool_stands o (made m fact ∷ h) p ≡ pool_after (of_fact fact) o.load_balanced (connection_of h p) (connection_of (made m fact ∷ h) p) p (pool_stands o h p)
fact-pool o m (Opened q a) h p =
    let listed : has p (pools (made m (Opened q a) ∷ h)) ≡ has p (pools h) || (q == p) = ap (has p) (map-push (homes h) (record { number = q; address = a })) ∙ has-append p q (pools h) in
    ap (λ b. pool_by o b (of_pool p h)) listed ∙ opened_one (q == p) (pool_stands o h p)
fact-pool o m (Pool q event) h p = event-pool o m q event h p
fact-pool o m (Granted r q d) h p = place (q == p) (granted r d) d (created_total (of_pool p h)) o (has p (pools h)) (of_pool p h) (granted-alone r d (of_pool p h)) refl refl
fact-pool o m (Ended r end) h p = unsaid _ _ o (has p (pools h)) (of_pool p h) refl
fact-pool o m (Raised q None error) h p = turned (q == p) _ false o (has p (pools h)) (of_pool p h) refl
fact-pool o m (Raised q (Some service) error) h p = unsaid (q == p) _ o (has p (pools h)) (of_pool p h) refl
fact-pool o m fact h p = refl

-- A pool after one more accepted step.
pub step-pool : (o : PoolOptions) (m : ℕ) (act : Act) (reply : Reply) (h : List Item) (p : ℕ) → pool_stands o (did (record { moment = m; act = act }) reply ∷ h) p ≡ pool_after (of_act (open_pool h) act) o.load_balanced (connection_of h p) (connection_of (did (record { moment = m; act = act }) reply ∷ h) p) p (pool_stands o h p)
step-pool o m (Request r a) reply h p = unsaid _ _ o (has p (pools h)) (of_pool p h) refl
step-pool o m (Warm r a) reply h p = unsaid _ _ o (has p (pools h)) (of_pool p h) refl
step-pool o m (GiveUp r) reply h p = unsaid _ _ o (has p (pools h)) (of_pool p h) refl
step-pool o m (Established q d how) reply h p = place (q == p) (established d how m) d (created_total (of_pool p h)) o (has p (pools h)) (of_pool p h) (established-alone d how m (of_pool p h)) refl refl
step-pool o m (Failed q d Pre error) reply h p = place (q == p) (failed d None) d (created_total (of_pool p h)) o (has p (pools h)) (of_pool p h) (failed-alone d None (of_pool p h)) refl refl
step-pool o m (Failed q d (Post service) error) reply h p = place (q == p) (failed d service) d (created_total (of_pool p h)) o (has p (pools h)) (of_pool p h) (failed-alone d service (of_pool p h)) refl refl
step-pool o m (Return r used) reply h p = unsaid _ _ o (has p (pools h)) (of_pool p h) refl
step-pool o m (Pin r) reply h p = unsaid _ _ o (has p (pools h)) (of_pool p h) refl
step-pool o m (Replicate q d) reply h p = unsaid _ _ o (has p (pools h)) (of_pool p h) refl
step-pool o m (Take r q d) reply h p = unsaid _ _ o (has p (pools h)) (of_pool p h) refl
step-pool o m (Unpin q d) reply h p = unsaid _ _ o (has p (pools h)) (of_pool p h) refl
step-pool o m act reply h p = refl
