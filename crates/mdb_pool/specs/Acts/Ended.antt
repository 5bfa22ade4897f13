-- Requests of a closed pool end.
use Rattle.std.specs.Prelude.{ℕ, List, map, if◌then◌else◌}
use Rattle.mdb_log.specs.Connections.{has}
use Rattle.mdb_pool.specs.declared.kept.request.Request.{Request}
use Rattle.mdb_pool.specs.Core.{PoolCore}
use Rattle.mdb_pool.specs.Acts.Changes.{ended_request}

-- the requests, where those with these numbers end that nothing was handed to
abbrev pub ended_all : PoolCore → List ℕ → List Request
ended_all s rs = map (λ q. if has q.number rs then ended_request s q else q) s.kept.requests
