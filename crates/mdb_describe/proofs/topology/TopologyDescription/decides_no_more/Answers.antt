use Rattle.std.proofs.Common.{◌∙◌, ap, sym}
use Rattle.mdb_describe.specs.Servers.{has_other_primary}
use Rattle.mdb_describe.proofs.StoredAlone.{checked-alone}
use Rattle.mdb_describe.proofs.topology.TopologyDescription.decides_no_more.Goals as goal

pub returns-then-only_checks : goal.returns-then-only_checks
returns-then-only_checks c = λ other.
    checked-alone c.args.self.now c.args.server.now (ap (λ t. t.topology_type) (sym c.self.view_is) ∙ c.in-ReplicaSetWithPrimary.is) (c.only_checks.ensures c.if-only_checks.true)
    (sym (c.has_other_primary.ensures ∙ ap (has_other_primary c.args.server.now.address) c.servers.ensures.servers) ∙ other)
