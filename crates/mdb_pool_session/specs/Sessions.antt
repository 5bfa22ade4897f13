-- What a session of a pool keeps: a pool that stands for a whole log, and the last entry of it.
use Rattle.std.specs.Prelude.{◌≡◌, true, List, [], ◌∷◌, ◌++◌, ⊤}
use Rattle.mdb_log.specs.declared.log.Entry.{Entry}
use Rattle.mdb_pool.specs.Core.{PoolCore}
use Rattle.mdb_pool.specs.Now.{alone_now}
use Rattle.mdb_pool.specs.Standing.{StandsFor}
use Rattle.mdb_pool_session.specs.PoolLogs.{PoolLog, history}
use Rattle.mdb_pool_session.specs.Lawful.{IsLawfulLog}

-- the pool with these entries
abbrev pub log_of : PoolCore → List Entry → PoolLog
log_of core entries = record { number = core.pool; address = core.address; options = core.options; entries = entries }

-- The last list has the last entry of both, and nothing else.
abbrev pub IsEnd : List Entry → List Entry → Type 0
IsEnd past [] = past ≡ []
IsEnd past (e ∷ []) = ⊤
IsEnd past (e ∷ f ∷ entries) = ⊥

-- The pool stands alone, for the log whose last entry alone is kept, and the log is lawful.
pub record Keeps (core : PoolCore) (past last : List Entry) : Type 0 where
  pub alone : alone_now core ≡ true
  pub end : IsEnd past last
  pub stands : StandsFor core (history (log_of core (past ++ last)))
  pub lawful : IsLawfulLog (log_of core (past ++ last))
