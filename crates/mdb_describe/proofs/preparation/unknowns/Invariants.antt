use Rattle.std.proofs.Common.{◌≡◌, map, take}
use Rattle.mdb_describe.specs.Descriptions.{unknown}
use Rattle.mdb_describe.proofs.preparation.unknowns.Given as goal

abbrev pub invariant-loop-host : goal.invariant-loop-host
invariant-loop-host l = l.servers.items ≡ map unknown (take l.host-index l.hosts)
