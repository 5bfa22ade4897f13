use Rattle.std.proofs.Common.{[], take, refl, ap, ◌∙◌, arith}
use Rattle.mdb_describe.specs.Servers.{in_order}
use Rattle.mdb_describe.proofs.InOrder.{added_in_order}
use Rattle.mdb_describe.proofs.Parts.{seeds_on}
use Rattle.mdb_describe.proofs.opening.seeds.Goals as goal

pub loop-seed-preserved : goal.loop-seed-preserved
loop-seed-preserved c = seeds_on c.args.seeds.now c.loop-seed.seed-index c.seed-item.result _ [] c.loop-seed.servers.items _ (omega arith) c.seed-item.is c.in_ok-fresh.ensures c.loop-seed.invariant c.in_ok-join.ensures.joined

pub returns-clause-ordered : goal.returns-clause-ordered
returns-clause-ordered c = ap in_order c.loop-seed.invariant ∙ added_in_order (take c.loop-seed.seed-index c.args.seeds.now) [] refl
