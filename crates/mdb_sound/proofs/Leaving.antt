-- Who left a pool gave up or returned by a step.
use Rattle.std.proofs.Common.{ℕ, ◌≡◌, Bool, true, false, ◌||◌, List, [], ◌∷◌, Option, refl, ◌∙◌, arith}
use Rattle.mdb_base.specs.declared.address.ServerAddress.{ServerAddress}
use Rattle.mdb_events.specs.declared.fact.Fact.{Fact}
use Rattle.mdb_events.specs.declared.fact.Fact.TheVariants.{Opened, Pool, Granted, Ended, Raised, Sdam, CheckNow, Cancel}
use Rattle.mdb_events.specs.declared.cmap.CmapEvent.TheVariants.{PoolCreated, PoolReady, PoolCleared, PoolClosed, ConnectionCreated, ConnectionReady, ConnectionClosed, ConnectionCheckoutStarted, ConnectionCheckoutFailed, ConnectionCheckedOut, ConnectionCheckedIn}
use Rattle.mdb_log.specs.declared.step.Act.{Act}
use Rattle.mdb_log.specs.declared.step.Act.TheVariants.{Open, Request, Warm, Collect, Claim, GiveUp, Established, Failed, Return, Pin, Replicate, Take, Unpin, Error, Hello, Beat, Beaten, Rtt, Hosts, ClusterTime, Want, Unwant, Stop, Maintain, Expire, Ready, Clear, Close}
use Rattle.mdb_log.specs.declared.step.FailedAt.TheVariants.{Pre, Post}
use Rattle.mdb_log.specs.History.{Item, did, made, PoolItem, after_act, after_fact, of_pool, open_pool}
use Rattle.mdb_log.specs.Requests.{some_act, leaves}
use Rattle.mdb_sound.specs.Sound.{has_left}

left-fact : (p m r : ℕ) (f : Fact) (xs : List PoolItem) → has_left (after_fact p m f xs) r ≡ has_left xs r
left-fact p m r (Opened q a) xs = refl
left-fact p m r (Pool q (PoolCreated e)) xs = grind arith
left-fact p m r (Pool q (PoolReady e)) xs = grind arith
left-fact p m r (Pool q (PoolCleared e)) xs = refl
left-fact p m r (Pool q (PoolClosed e)) xs = grind arith
left-fact p m r (Pool q (ConnectionCreated e)) xs = grind arith
left-fact p m r (Pool q (ConnectionReady e)) xs = refl
left-fact p m r (Pool q (ConnectionClosed e)) xs = grind arith
left-fact p m r (Pool q (ConnectionCheckoutStarted e)) xs = refl
left-fact p m r (Pool q (ConnectionCheckoutFailed e)) xs = refl
left-fact p m r (Pool q (ConnectionCheckedOut e)) xs = refl
left-fact p m r (Pool q (ConnectionCheckedIn e)) xs = grind arith
left-fact p m r (Granted k q c) xs = grind arith
left-fact p m r (Ended k end) xs = grind arith
left-fact p m r (Raised q service error) xs = grind arith
left-fact p m r (Sdam e) xs = refl
left-fact p m r (CheckNow a) xs = refl
left-fact p m r (Cancel a) xs = refl

left-act : (p : ℕ) (here : ServerAddress → Option ℕ) (m r : ℕ) (act : Act) (xs : List PoolItem) → leaves act r ≡ false → has_left xs r ≡ false → has_left (after_act p here m act xs) r ≡ false
left-act p here m r (Open options) xs e f = f
left-act p here m r (Request k a) xs e f = grind arith
left-act p here m r (Warm k a) xs e f = grind arith
left-act p here m r (Collect k) xs e f = f
left-act p here m r Claim xs e f = f
left-act p here m r (GiveUp k) xs e f = grind arith
left-act p here m r (Established q c how) xs e f = grind arith
left-act p here m r (Failed q c Pre error) xs e f = grind arith
left-act p here m r (Failed q c (Post service) error) xs e f = grind arith
left-act p here m r (Return k used) xs e f = grind arith
left-act p here m r (Pin k) xs e f = grind arith
left-act p here m r (Replicate q c) xs e f = grind arith
left-act p here m r (Take k q c) xs e f = grind arith
left-act p here m r (Unpin q c) xs e f = grind arith
left-act p here m r (Error k error) xs e f = f
left-act p here m r (Hello a q came) xs e f = f
left-act p here m r (Beat a q) xs e f = f
left-act p here m r (Beaten a q n came) xs e f = f
left-act p here m r (Rtt a q n) xs e f = f
left-act p here m r (Hosts hosts) xs e f = f
left-act p here m r (ClusterTime time) xs e f = f
left-act p here m r (Want w) xs e f = f
left-act p here m r (Unwant w) xs e f = f
left-act p here m r Stop xs e f = f
left-act p here m r (Maintain a) xs e f = f
left-act p here m r (Expire a) xs e f = f
left-act p here m r (Ready q) xs e f = f
left-act p here m r (Clear q service error) xs e f = f
left-act p here m r (Close q) xs e f = f

either-false : (a b : Bool) → a || b ≡ false → (a ≡ false) × (b ≡ false)
either-false true b e = cc
either-false false b e = (refl, e)

pub stays-act : (p : ℕ) (h : List Item) (r : ℕ) → some_act leaves h r ≡ false → has_left (of_pool p h) r ≡ false
stays-act p [] r e = refl
stays-act p (did step reply ∷ h) r e =
    let w : (leaves step.act r ≡ false) × (some_act leaves h r ≡ false) = either-false (leaves step.act r) (some_act leaves h r) e in
    left-act p (open_pool h) step.moment r step.act (of_pool p h) w.0 (stays-act p h r w.1)
stays-act p (made m f ∷ h) r e = left-fact p m r f (of_pool p h) ∙ stays-act p h r e
