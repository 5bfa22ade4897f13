use Rattle.std.proofs.Common.{◌≡◌, [], take}
use Rattle.mdb_describe.specs.Servers.{add_all}
use Rattle.mdb_describe.proofs.opening.seeds.Given as goal

abbrev pub invariant-loop-seed : goal.invariant-loop-seed
invariant-loop-seed l = l.servers.items ≡ add_all (take l.seed-index l.seeds) []
