use Rattle.mdb_pool.proofs.KeptInLittle.CountedClears.{counts-start, counts-more, counts-last}
use Rattle.mdb_pool.proofs.kept.marks.marked.Goals as goal

pub loop-mark-init : goal.loop-mark-init
loop-mark-init c = rw c.new-made.ensures.items (counts-start c.args.live.now.now c.args.created c.args.marks.now)

pub loop-mark-preserved : goal.loop-mark-preserved
loop-mark-preserved c = counts-more c.args.live.now.now c.args.created c.args.marks.now c.loop-mark.made.items c.add.new.marks.items c.loop-mark.mark-index c.loop-mark.invariant c.loop-mark-test.true c.in_ok-add.ensures

pub returns : goal.returns
returns c = counts-last c.args.live.now.now c.args.created c.args.marks.now c.loop-mark.made.items c.add-2.new.marks.items _ c.loop-mark.mark-index c.loop-mark.invariant c.loop-mark-test.false c.in_ok-add-2.ensures
