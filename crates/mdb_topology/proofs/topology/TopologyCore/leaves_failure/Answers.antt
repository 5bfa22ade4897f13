use Rattle.std.proofs.Common.{◌≡◌, ◌&&◌, Bool, not, is_some, sym, ◌∙◌, ap}
use Rattle.mdb_driver_rules.specs.Current.{establishing}
use Rattle.mdb_driver_rules.specs.Errors.{case_of}
use Rattle.mdb_topology.specs.Failing.{regards_now}
use Rattle.mdb_topology.proofs.topology.TopologyCore.leaves_failure.Goals.{then-regards, else-regards}
use Rattle.mdb_topology.proofs.topology.TopologyCore.leaves_failure.Goals as goal

pub returns : goal.returns
returns c live =
    let row : Bool = is_some (case_of (establishing c.args.at) c.args.error.now) in
    let current : Bool = regards_now c.args.self.now c.args.pool.now c.args.id c.args.at c.args.error.now in
    let told : c.regards.result ≡ current = c.regards.ensures live in
    let both : c.if-regards.result ≡ current && row = elim c.if-regards.branch [
      | then-regards w ↦ w.result-is ∙ (w.has_failure_row.ensures c.args.at ∙ ap (λ b. b && row) (sym (sym told ∙ w.if-regards.true)))
      | else-regards w ↦ w.result-is ∙ (w.if-regards.false ∙ ap (λ b. b && row) (sym (sym told ∙ w.if-regards.false)))
    ] in
    ap not both
