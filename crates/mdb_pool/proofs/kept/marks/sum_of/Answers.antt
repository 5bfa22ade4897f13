use Rattle.std.proofs.Common.{arith}
use Rattle.std.proofs.lemmas.List.{at_drop_all}
use Rattle.mdb_pool.specs.Kept.Clearing.{counts_at, weigh}
use Rattle.mdb_pool.proofs.KeptInLittle.CountedClears.{nothing, weigh_rest, weigh_within}
use Rattle.mdb_pool.proofs.kept.marks.sum_of.Goals as goal

pub overflow_add-sum : goal.overflow_add-sum
overflow_add-sum c =
    let p = counts_at c.args.service c.args.before in
    let rest = weigh_rest p c.args.marks.now c.loop-mark.mark-index nothing c.loop-mark-test.true in
    let most = weigh_within p c.args.marks.now in
    omega (arith, rest, most, c.loop-mark.invariant, c.part_of-sum.ensures, c.requires, c.ranges.total)

pub loop-mark-preserved : goal.loop-mark-preserved
loop-mark-preserved c =
    let rest = weigh_rest (counts_at c.args.service c.args.before) c.args.marks.now c.loop-mark.mark-index nothing c.loop-mark-test.true in
    omega (arith, rest, c.loop-mark.invariant, c.part_of-sum.ensures)

pub returns : goal.returns
returns c = omega (arith, c.loop-mark.invariant, at_drop_all (weigh (counts_at c.args.service c.args.before)) c.args.marks.now c.loop-mark.mark-index c.loop-mark-test.false)
