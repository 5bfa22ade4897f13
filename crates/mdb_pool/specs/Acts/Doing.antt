-- What the parts of an act do: the facts that they tell, and the state that then fits them too.
use Rattle.std.specs.Prelude.{ℕ, ◌≡◌, false, List, ◌++◌, Option}
use Rattle.mdb_base.specs.declared.object_id.ObjectId.{ObjectId}
use Rattle.mdb_events.specs.declared.fact.Fact.{Fact}
use Rattle.mdb_pool.specs.Core.{PoolCore}
use Rattle.mdb_log.specs.History.{PoolItem, after_facts}
use Rattle.mdb_log.specs.Connections.{available_list}
use Rattle.mdb_log.specs.Requests.{queued}
use Rattle.mdb_log.specs.State.{min_size}
use Rattle.mdb_pool_rules.specs.Serving.{serving}
use Rattle.mdb_pool.specs.Now.{is_closed_now}
use Rattle.mdb_base.specs.declared.error.Error.{Error}
use Rattle.mdb_events.specs.declared.end.End.{End}
use Rattle.mdb_events.specs.declared.end.End.TheVariants.{TimedOut}
use Rattle.mdb_pool_rules.specs.Facts.{all_ends, overdue, clear_facts, sweep, fill}
use Rattle.mdb_pool.specs.Standing.{Fits}

-- what was told and claimed, and what the pool is, stays
pub record SameNotes (s t : PoolCore) : Type 0 where
  pub settled : t.kept.settled ≡ s.kept.settled
  pub claimed : t.kept.claimed ≡ s.kept.claimed
  pub status : t.kept.status ≡ s.kept.status

-- the facts after the old ones are those of the serving, and the state then fits them too
pub record Serves (s t : PoolCore) (m : ℕ) (before after : List Fact) (xs : List PoolItem) : Type 0 where
  pub facts : after ≡ before ++ serving s.pool s.address s.options m xs
  pub fits : Fits t (after_facts s.pool m (serving s.pool s.address s.options m xs) xs)

-- the queue ended: the facts after the old ones are those of its ends, and the state then fits them too
pub record EndsQueue (s t : PoolCore) (m : ℕ) (end : End) (before after : List Fact) (xs : List PoolItem) : Type 0 where
  pub facts : after ≡ before ++ all_ends s.pool s.address m xs end (queued xs)
  pub fits : Fits t (after_facts s.pool m (all_ends s.pool s.address m xs end (queued xs)) xs)

-- the callers that waited for too long ended: the facts after the old ones are those of their ends, and the state then fits them too
pub record Expires (s t : PoolCore) (m : ℕ) (before after : List Fact) (xs : List PoolItem) : Type 0 where
  pub facts : after ≡ before ++ all_ends s.pool s.address m xs TimedOut (overdue s.options m xs)
  pub fits : Fits t (after_facts s.pool m (all_ends s.pool s.address m xs TimedOut (overdue s.options m xs)) xs)

-- the pool, or a service of it, was cleared: the facts after the old ones are those of the clear, and the state then fits them too
pub record Clears (s t : PoolCore) (m : ℕ) (service : Option ObjectId) (error : Error) (before after : List Fact) (xs : List PoolItem) : Type 0 where
  pub facts : after ≡ before ++ clear_facts s.pool s.address s.options m xs service error
  pub fits : Fits t (after_facts s.pool m (clear_facts s.pool s.address s.options m xs service error) xs)
  pub settled : t.kept.settled ≡ s.kept.settled
  pub claimed : t.kept.claimed ≡ s.kept.claimed
  pub unshut : is_closed_now t ≡ false

-- the available connections that have perished are closed: the facts after the old ones are those of the sweep, and the state then fits them too
pub record Sweeps (s t : PoolCore) (m : ℕ) (before after : List Fact) (xs : List PoolItem) : Type 0 where
  pub facts : after ≡ before ++ sweep s.pool s.address s.options m xs (available_list xs)
  pub fits : Fits t (after_facts s.pool m (sweep s.pool s.address s.options m xs (available_list xs)) xs)

-- connections are created in the background: the facts after the old ones are those of the filling, and the state then fits them too
pub record Fills (s t : PoolCore) (m : ℕ) (before after : List Fact) (xs : List PoolItem) : Type 0 where
  pub facts : after ≡ before ++ fill s.pool s.address s.options m (min_size s.options) xs
  pub fits : Fits t (after_facts s.pool m (fill s.pool s.address s.options m (min_size s.options) xs) xs)
