use Rattle.mdb_workers.proofs.Clocking.{ticked_all, ticked_part}
use Rattle.mdb_workers.proofs.ticking.tick.Goals as goal

pub returns-in-Ok-clause-ok : goal.returns-in-Ok-clause-ok
returns-in-Ok-clause-ok g c = ticked_all g.C.Core.stands c.args.moment g.C.Core.described c.args.seat.now c.glance.new.seat c.tick_at.new.seat _ c.glance.ensures.saw c.in_ok-addresses.ensures.told c.in-Ok.ensures.ok

pub returns-in-Err-clause-err : goal.returns-in-Err-clause-err
returns-in-Err-clause-err g c = ticked_part g.C.Core.stands c.args.moment c.args.seat.now c.glance.new.seat c.tick_at.new.seat c.glance.ensures.saw c.in-Err.ensures.err
