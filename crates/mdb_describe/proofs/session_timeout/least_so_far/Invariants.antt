use Rattle.std.proofs.Common.{◌≡◌, take}
use Rattle.mdb_describe.specs.SoFar.{least_so_far}
use Rattle.mdb_describe.proofs.session_timeout.least_so_far.Given as goal

abbrev pub invariant-loop-server : goal.invariant-loop-server
invariant-loop-server l = l.least ≡ least_so_far (take l.server-index l.servers)
