-- Generations never fall.
use Rattle.std.proofs.Common.{ℕ, ◌≤◌, ◌==◌, Bool, true, false, List, [], ◌∷◌, ◌++◌, Option, is_some, arith}
use Rattle.mdb_base.specs.declared.object_id.ObjectId.{ObjectId}
use Rattle.mdb_base.specs.declared.address.ServerAddress.{ServerAddress}
use Rattle.mdb_events.specs.declared.cmap.CmapEvent.TheVariants.{PoolCreated, PoolReady, PoolClosed, ConnectionCreated, ConnectionClosed, ConnectionCheckedIn}
use Rattle.mdb_events.specs.declared.fact.Fact.{Fact}
use Rattle.mdb_events.specs.declared.fact.Fact.TheVariants.{Pool, Granted, Ended, Raised}
use Rattle.mdb_log.specs.declared.step.Act.{Act}
use Rattle.mdb_log.specs.declared.step.Act.TheVariants as Do
use Rattle.mdb_log.specs.declared.step.FailedAt.TheVariants.{Pre, Post}
use Rattle.mdb_log.specs.History.{Item, did, made, PoolItem, if_so, is_number, of_pool, open_pool, after_act, after_fact, has_asked, given}
use Rattle.mdb_log.specs.State.{generation_of}
use Rattle.mdb_laws.specs.HistoryLaws.{NeverFall}

-- one item more, that lowers nothing
if-rises : (b : Bool) (x : PoolItem) (xs : List PoolItem) (s : Option ObjectId) → generation_of xs s ≤ generation_of (x ∷ xs) s → generation_of xs s ≤ generation_of (if_so b x xs) s
if-rises true x xs s e = e
if-rises false x xs s e = omega arith

same : (n : ℕ) → n ≤ n
same n = omega arith

act-rises : (p : ℕ) (here : ServerAddress → Option ℕ) (m : ℕ) (act : Act) (xs : List PoolItem) (s : Option ObjectId) → generation_of xs s ≤ generation_of (after_act p here m act xs) s
act-rises p here m (Do.Request r a) xs s = if-rises (is_number (here a) p) _ xs s (same (generation_of xs s))
act-rises p here m (Do.Warm r a) xs s = if-rises (is_number (here a) p) _ xs s (same (generation_of xs s))
act-rises p here m (Do.GiveUp r) xs s = if-rises (has_asked xs r) _ xs s (same (generation_of xs s))
act-rises p here m (Do.Established q c how) xs s = if-rises (q == p) _ xs s (same (generation_of xs s))
act-rises p here m (Do.Failed q c Pre error) xs s = if-rises (q == p) _ xs s (same (generation_of xs s))
act-rises p here m (Do.Failed q c (Post service) error) xs s = if-rises (q == p) _ xs s (same (generation_of xs s))
act-rises p here m (Do.Return r used) xs s = if-rises (is_some (given xs r)) _ xs s (same (generation_of xs s))
act-rises p here m (Do.Pin r) xs s = if-rises (is_some (given xs r)) _ xs s (same (generation_of xs s))
act-rises p here m (Do.Replicate q c) xs s = if-rises (q == p) _ xs s (same (generation_of xs s))
act-rises p here m (Do.Take r q c) xs s = if-rises (q == p) _ xs s (same (generation_of xs s))
act-rises p here m (Do.Unpin q c) xs s = if-rises (q == p) _ xs s (same (generation_of xs s))
act-rises p here m _ xs s = same (generation_of xs s)

fact-rises : (p m : ℕ) (f : Fact) (xs : List PoolItem) (s : Option ObjectId) → generation_of xs s ≤ generation_of (after_fact p m f xs) s
fact-rises p m (Pool q (PoolCreated e)) xs s = if-rises (q == p) _ xs s (same (generation_of xs s))
fact-rises p m (Pool q (PoolReady e)) xs s = if-rises (q == p) _ xs s (same (generation_of xs s))
fact-rises p m (Pool q (PoolClosed e)) xs s = if-rises (q == p) _ xs s (same (generation_of xs s))
fact-rises p m (Pool q (ConnectionCreated e)) xs s = if-rises (q == p) _ xs s (same (generation_of xs s))
fact-rises p m (Pool q (ConnectionClosed e)) xs s = if-rises (q == p) _ xs s (same (generation_of xs s))
fact-rises p m (Pool q (ConnectionCheckedIn e)) xs s = if-rises (q == p) _ xs s (same (generation_of xs s))
fact-rises p m (Granted r q c) xs s = if-rises (q == p) _ xs s (same (generation_of xs s))
fact-rises p m (Ended r end) xs s = if-rises (has_asked xs r) _ xs s (same (generation_of xs s))
fact-rises p m (Raised q service error) xs s = if-rises (q == p) _ xs s (omega arith)
fact-rises p m _ xs s = same (generation_of xs s)

pub never-fall : (h : List Item) → NeverFall h
never-fall h p s [] = same (generation_of (of_pool p h) s)
never-fall h p s (did step reply ∷ later) =
    let d : generation_of (of_pool p h) s ≤ generation_of (of_pool p (later ++ h)) s = never-fall h p s later in
    let e : generation_of (of_pool p (later ++ h)) s ≤ generation_of (after_act p (open_pool (later ++ h)) step.moment step.act (of_pool p (later ++ h))) s = act-rises p (open_pool (later ++ h)) step.moment step.act (of_pool p (later ++ h)) s in
    omega arith
never-fall h p s (made m f ∷ later) =
    let d : generation_of (of_pool p h) s ≤ generation_of (of_pool p (later ++ h)) s = never-fall h p s later in
    let e : generation_of (of_pool p (later ++ h)) s ≤ generation_of (after_fact p m f (of_pool p (later ++ h))) s = fact-rises p m f (of_pool p (later ++ h)) s in
    omega arith
