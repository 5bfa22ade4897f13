use Rattle.std.proofs.Common.{◌≡◌}
use Rattle.mdb_describe.specs.declared.description.ServerDescription.{ServerDescription}
use Rattle.mdb_describe.proofs.Walks.{StoresFrom}
use Rattle.mdb_describe.proofs.servers.place_of.Given as goal

abbrev pub invariant-loop-at : goal.invariant-loop-at
invariant-loop-at l = (d : ServerDescription) → d.address ≡ l.address → StoresFrom d l.servers l.at
