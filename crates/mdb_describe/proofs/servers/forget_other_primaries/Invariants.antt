use Rattle.std.proofs.Common.{◌≡◌, ◌++◌, ◌&&◌, not, take, drop}
use Rattle.mdb_base.specs.Equality.{same_address}
use Rattle.mdb_describe.specs.Servers.{forget_where, is_primary_type}
use Rattle.mdb_describe.proofs.servers.forget_other_primaries.Given as goal

abbrev pub invariant-loop-server : goal.invariant-loop-server
invariant-loop-server l = l.servers ≡ forget_where (λ s. is_primary_type s.server_type && not (same_address s.address l.address)) (take l.server-index l.fn.servers) ++ drop l.server-index l.fn.servers
