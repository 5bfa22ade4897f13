use Rattle.std.proofs.Common.{◌≡◌, map, take}
use Rattle.mdb_describe.specs.declared.description.ServerDescription.{ServerDescription}
use Rattle.mdb_workers.proofs.ticking.addresses_in.Given as goal

abbrev pub invariant-loop-server : goal.invariant-loop-server
invariant-loop-server l = l.addresses.items ≡ map (λ (d : ServerDescription). d.address) (take l.server-index l.servers)
