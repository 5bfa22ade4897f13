use Rattle.std.proofs.Common.{rules}
use Rattle.mdb_workers.proofs.Clocking.{ticked_none, ticked_more, ticked_so_far}
use Rattle.mdb_workers.proofs.ticking.tick_at.Goals as goal

pub loop-address-init : goal.loop-address-init
loop-address-init g c = ticked_none g.C.Core.stands c.args.moment c.args.seat.now

pub loop-address-preserved : goal.loop-address-preserved
loop-address-preserved g c = ticked_more g.C.Core.stands c.args.moment _ c.args.seat.now c.loop-address.seat c.due_at.new.seat c.loop-address.invariant _ c.in_ok-due_at.ensures.ok

pub returns-in_err-due_at-clause-err : goal.returns-in_err-due_at-clause-err
returns-in_err-due_at-clause-err g c = let part = ticked_so_far g.C.Core.stands c.args.moment _ c.args.seat.now c.loop-address.seat c.due_at.new.seat c.loop-address.invariant c.in_err-due_at.ensures.err in search rules
