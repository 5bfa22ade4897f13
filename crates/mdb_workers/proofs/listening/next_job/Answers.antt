use Rattle.std.proofs.Common.{sym}
use Rattle.mdb_workers.proofs.Adding.{made_none, made_saw}
use Rattle.mdb_workers.proofs.listening.next_job.Goals as goal

pub loop-init : goal.loop-init
loop-init g c = record { none = made_none g.C.Core.stands c.args.seat.now }

pub loop-preserved : goal.loop-preserved
loop-preserved g c = record { none = made_saw g.C.Core.stands c.args.seat.now c.loop.seat c.glance-count.new.seat c.loop.invariant.none c.glance-count.ensures.saw }

pub returns-then-is_over : goal.returns-then-is_over
returns-then-is_over g c = record {
  saw = made_saw g.C.Core.stands c.args.seat.now c.loop.seat c.glance-count.new.seat c.loop.invariant.none c.glance-count.ensures.saw;
  heard = c.glance-count.ensures.told.1 c.if-is_over.true;
  fits = c.glance-count.ensures.fits;
}

pub returns-then-unclaimed-gt0 : goal.returns-then-unclaimed-gt0
returns-then-unclaimed-gt0 g c = record {
  saw = made_saw g.C.Core.stands c.args.seat.now c.loop.seat c.glance-count.new.seat c.loop.invariant.none c.glance-count.ensures.saw;
  heard = sym c.glance-count.ensures.told.0;
  fits = c.glance-count.ensures.fits;
}
