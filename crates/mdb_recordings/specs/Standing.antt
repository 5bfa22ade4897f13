-- What is kept stands for the events that were recorded.
use Rattle.std.specs.Prelude.{◌≡◌, ℕ, ◌<◌, List}
use Rattle.mdb_recordings.specs.Lives.{life, lives, facts_of, former_of, connection_of, turns_of, caller_of}
use Rattle.mdb_recordings.specs.Tables.{pool_at, connection_at, no_connection, caller_at, no_caller}
use Rattle.mdb_recordings.specs.declared.event.Recorded.{Recorded}
use Rattle.mdb_recordings.specs.declared.judge.Judge.{Judge}

pub record Stands (h : List Recorded) (j : Judge) : Type 0 where
  pub pools : (p : ℕ) → pool_at j.pools p ≡ record { lives = lives p h; former = former_of p h; facts = facts_of (life p h); turns = turns_of (life p h) }
  pub connections : (p i : ℕ) → connection_at j.connections p (lives p h) i ≡ connection_of i (life p h)
  pub fresh : (p n i : ℕ) → lives p h < n → connection_at j.connections p n i ≡ no_connection
  pub callers : (p i : ℕ) → caller_at j.callers p (lives p h) i ≡ caller_of i (life p h)
  pub fresh-callers : (p n i : ℕ) → lives p h < n → caller_at j.callers p n i ≡ no_caller
