use Rattle.std.proofs.Common.{◌≡◌, ◌+◌, ◌≤◌, length}
use Rattle.std.specs.Vec.{vec_len, vec_capacity}
use Rattle.mdb_describe.specs.Joining.{join_all}
use Rattle.mdb_describe.proofs.carrying.join_all.Given as goal

abbrev pub invariant-loop-server : goal.invariant-loop-server
invariant-loop-server l =
    (l.servers.items ≡ join_all l.yielded l.fn.servers.items)
    × (vec_len l.servers ≤ vec_len l.fn.servers + length l.yielded)
    × (vec_capacity l.fn.servers ≤ vec_capacity l.servers)
