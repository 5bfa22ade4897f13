use Rattle.std.proofs.Common.{◌≡◌, true, List, ap, ◌∙◌}
use Rattle.mdb_base.specs.AddressOrder.{in_order as are_in_order}
use Rattle.mdb_describe.specs.declared.description.ServerDescription.{ServerDescription}
use Rattle.mdb_describe.specs.Servers.{in_order}
use Rattle.mdb_describe.specs.Differences.{changed, are_in_both}
use Rattle.mdb_describe.proofs.Found.{changed_ordered, missing_ordered, changed_in_both}
use Rattle.mdb_describe.proofs.topology.TopologyDescription.diff.Goals as goal

pub returns-clause-ordered : goal.returns-clause-ordered
returns-clause-ordered c =
    let before = c.servers-before in
    let after = c.servers-after in
    let earlier : in_order before.result.now ≡ true = ap in_order before.ensures.servers ∙ before.ensures.ordered in
    let later : in_order after.result.now ≡ true = ap in_order after.ensures.servers ∙ after.ensures.ordered in
    record {
      changed = ap are_in_order (c.new.ensures ∙ c.in_ok-changed.ensures) ∙ changed_ordered before.result.now after.result.now later;
      removed = ap are_in_order (c.new-2.ensures ∙ c.in_ok-removed.ensures) ∙ missing_ordered before.result.now after.result.now earlier;
      added = ap are_in_order (c.new-3.ensures ∙ c.in_ok-added.ensures) ∙ missing_ordered after.result.now before.result.now later;
    }

pub returns-clause-in_both : goal.returns-clause-in_both
returns-clause-in_both c =
    let earlier = c.args.self.now.servers in
    let later = c.args.later.now.servers in
    let same : c.new.result ≡ changed earlier later =
    c.new.ensures
    ∙ c.in_ok-changed.ensures
    ∙ ap (λ (xs : List ServerDescription). changed xs c.servers-after.result.now) c.servers-before.ensures.servers
    ∙ ap (changed earlier) c.servers-after.ensures.servers in
    ap (are_in_both earlier later) same ∙ changed_in_both earlier later
