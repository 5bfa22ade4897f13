use Rattle.std.proofs.Common.{refl, ◌∙◌}
use Rattle.mdb_shared.proofs.Waited.{saw_after, found_nothing, found_more, found_as}
use Rattle.mdb_shared.proofs.driver.SharedDriver.take.Goals as goal

pub returns-in-Ok-clause-saw : goal.returns-in-Ok-clause-saw
returns-in-Ok-clause-saw g c = saw_after c.args.seat.now c.loop.seat c.try_take.new.seat c.loop.invariant.seat c.in-Ok.ensures.ok.0

pub returns-in-Ok-clause-busy : goal.returns-in-Ok-clause-busy
returns-in-Ok-clause-busy g c = found_as c.args.seat.now c.loop.seat c.try_take.new.seat c.loop.invariant.busy c.in-Ok.ensures.ok.1

pub loop-init : goal.loop-init
loop-init g c = record { seat = (refl, refl, refl, refl); busy = found_nothing c.args.seat.now }

pub loop-preserved : goal.loop-preserved
loop-preserved g c = let was = c.loop.invariant.seat in let same = c.in-Err.ensures.same in let now = c.in-Err.ensures.err in record {
  seat = (same.0 ∙ was.0, same.1 ∙ was.1, now.2 ∙ was.2, now.3 ∙ was.3);
  busy = found_more c.args.seat.now c.loop.seat c.try_take.new.seat _ c.loop.invariant.busy was.1 now.0 now.1 now.4;
}

pub try_take-requires-clause-own : goal.try_take-requires-clause-own
try_take-requires-clause-own g c κs within = c.loop.invariant.seat.0 ∙ c.requires.own

pub returns-in-Ok-clause-within : goal.returns-in-Ok-clause-within
returns-in-Ok-clause-within g c = c.in-Ok.ensures.ok.2

pub returns-in-Ok-clause-entries : goal.returns-in-Ok-clause-entries
returns-in-Ok-clause-entries g c = c.in-Ok.ensures.ok.3

pub returns-in-Ok-clause-same : goal.returns-in-Ok-clause-same
returns-in-Ok-clause-same g c = let was = c.loop.invariant.seat in let same = c.in-Ok.ensures.same in (same.0 ∙ was.0, same.1 ∙ was.1)

pub returns-in-Ok-clause-fits : goal.returns-in-Ok-clause-fits
returns-in-Ok-clause-fits g c = c.in-Ok.ensures.fits
