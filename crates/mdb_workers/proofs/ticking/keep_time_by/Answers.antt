use Rattle.std.proofs.Common.{◌∙◌}
use Rattle.mdb_workers.proofs.Clocking.{kept_none, kept_saw, kept_more}
use Rattle.mdb_workers.proofs.ticking.keep_time_by.Goals as goal

pub loop-init : goal.loop-init
loop-init g c = record { kept = kept_none g.C.Core.stands (g.T.Timer.tells c.args.timer.now) c.args.seat.now }

pub loop-preserved : goal.loop-preserved
loop-preserved g c = record {
  kept = kept_more g.C.Core.stands (g.T.Timer.tells c.args.timer.now) g.C.Core.described c.moment.result c.moment.ensures c.args.seat.now c.glance.new.seat c.tick.new.seat c.tick.result
      (kept_saw g.C.Core.stands (g.T.Timer.tells c.args.timer.now) c.args.seat.now c.loop.seat c.glance.new.seat c.loop.invariant.kept c.glance.ensures.saw) c.tick.ensures.ok c.tick.ensures.err;
}

pub returns-then-glance : goal.returns-then-glance
returns-then-glance g c =
    let kept = kept_saw g.C.Core.stands (g.T.Timer.tells c.args.timer.now) c.args.seat.now c.loop.seat c.glance.new.seat c.loop.invariant.kept c.glance.ensures.saw in
    record { same = (kept.2.0, kept.2.1); ticked = kept; stopped = c.glance.ensures.told c.if-glance.true; fits = c.glance.ensures.fits }
