use Rattle.std.proofs.Common.{◌≡◌, take}
use Rattle.mdb_describe.specs.Differences.{missing}
use Rattle.mdb_describe.proofs.diff.missing.Given as goal

abbrev pub invariant-loop-server : goal.invariant-loop-server
invariant-loop-server l = l.found.items ≡ missing (take l.server-index l.servers) l.others
