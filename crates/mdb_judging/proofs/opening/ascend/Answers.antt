use Rattle.std.proofs.Common.{sym, ◌∙◌, ◌≤◌, ◌+◌, length, arith}
use Rattle.mdb_judging.proofs.Openings.{ascends-end}
use Rattle.mdb_judging.proofs.opening.ascend.Goals as goal

pub returns : goal.returns
returns c =
    let end : length c.args.pools.now ≤ c.loop-index.index + 1 = omega (arith, c.loop-index-test.false, c.saturating_sub-last.ensures) in
    sym (ascends-end c.args.pools.now c.loop-index.index end) ∙ c.loop-index.invariant
