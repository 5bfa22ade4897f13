use Rattle.std.proofs.Common.{◌≡◌, ◌&&◌, not, Some, ◌∙◌, ap}
use Rattle.std.specs.Prelude.{nat_le, slice_get}
use Rattle.mdb_pool.specs.Core.{PoolCore}
use Rattle.mdb_pool.specs.Now.{clears_now, exhausted_now, is_closed_now}
use Rattle.mdb_driver_rules.proofs.General.OnePosition.{some-same}
use Rattle.mdb_topology.proofs.Marks.AtItsLimit.{limit-is}
use Rattle.mdb_topology.proofs.topology.TopologyCore.is_spent.Goals as goal

pub returns : goal.returns
returns c s there =
    let w = c.args.self.now in
    let pools = w.pools.cores.items in
    let p = c.at.result.now in
    let at_p : slice_get pools c.args.index ≡ Some p = c.at.ensures in
    c.is_at_limit.ensures
    ∙ (ap (λ n. not (is_closed_now p) && nat_le n (clears_now p c.args.service)) c.unwrap_or-limit.ensures
    ∙ (limit-is w c.requires.stands c.args.index p at_p c.args.service
    ∙ ap (λ (u : PoolCore). exhausted_now u c.args.service) (some-same p s (slice_get pools c.args.index) at_p there)))
