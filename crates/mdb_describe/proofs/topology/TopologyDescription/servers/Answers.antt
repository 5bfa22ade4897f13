use Rattle.std.proofs.Common.{sym, ap, ◌∙◌}
use Rattle.mdb_describe.specs.declared.topology.TopologyDescription.{TopologyDescription}
use Rattle.mdb_describe.specs.Servers.{in_order}
use Rattle.mdb_describe.proofs.Found.{found_at_own}
use Rattle.mdb_describe.proofs.topology.TopologyDescription.servers.Goals as goal

pub returns-clause-found : goal.returns-clause-found
returns-clause-found c = λ i s at. found_at_own _ i s (sym (ap (λ (t : TopologyDescription). in_order t.servers) c.self.view_is) ∙ c.self.invariant) at
