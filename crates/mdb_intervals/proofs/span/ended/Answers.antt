use Rattle.std.proofs.Common.{◌+◌, ◌-◌, ◌/◌, arith}
use Rattle.mdb_intervals.proofs.Places.{ended-length, place-below, place-above}
use Rattle.mdb_intervals.proofs.span.ended.Goals as goal

pub loop-low-init : goal.loop-low-init
loop-low-init c = (omega arith, ended-length c.args.number c.args.spans.now, omega arith)

pub loop-low-preserved-then-spans-middle : goal.loop-low-preserved-then-spans-middle
loop-low-preserved-then-spans-middle c =
    let h = place-below 0 c.args.number c.args.spans.now (c.loop-low.low + (c.loop-low.high - c.loop-low.low) / 2) _ c.requires (omega (arith, c.loop-low.invariant, c.loop-low-test.true)) c.if-spans-middle.true in
    (omega (arith, h), c.loop-low.invariant.1, c.loop-low.invariant.2)

pub loop-low-preserved : goal.loop-low-preserved
loop-low-preserved c =
    let h = place-above c.args.number c.args.spans.now (c.loop-low.low + (c.loop-low.high - c.loop-low.low) / 2) _ (omega (arith, c.loop-low.invariant, c.loop-low-test.true)) c.if-spans-middle.false in
    (c.loop-low.invariant.0, h, omega (arith, c.loop-low.invariant, c.loop-low-test.true))
