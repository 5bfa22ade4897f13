use Rattle.std.proofs.Common.{◌≡◌, take}
use Rattle.mdb_describe.specs.Differences.{changed}
use Rattle.mdb_describe.proofs.diff.changed.Given as goal

abbrev pub invariant-loop-server : goal.invariant-loop-server
invariant-loop-server l = l.found.items ≡ changed l.earlier (take l.server-index l.later)
