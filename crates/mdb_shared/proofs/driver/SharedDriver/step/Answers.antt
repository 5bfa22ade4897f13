use Rattle.std.proofs.Common.{subst, refl, ◌∙◌}
use Rattle.mdb_turns.specs.declared.try_error.TryError.{TryError}
use Rattle.mdb_turns.specs.Stepping.{Failed}
use Rattle.mdb_shared.proofs.Waited.{stepped_after, saw_after, found_nothing, found_more, found_as}
use Rattle.mdb_shared.proofs.driver.SharedDriver.step.Goals as goal

pub returns-in-Ok-clause-ok : goal.returns-in-Ok-clause-ok
returns-in-Ok-clause-ok g c = stepped_after g.C.Core.stands c.args.seat.now c.loop.seat c.try_step.new.seat _ _ _ c.loop.invariant.seat c.loop.invariant.step c.in-Ok.ensures.ok.0

pub returns-in-Err-OutOfMemory-clause-err : goal.returns-in-Err-OutOfMemory-clause-err
returns-in-Err-OutOfMemory-clause-err g c = saw_after c.args.seat.now c.loop.seat c.try_step.new.seat c.loop.invariant.seat
    (subst (λ (w : TryError). Failed c.loop.seat c.try_step.new.seat c.loop.step w) c.in-Err-OutOfMemory.field-0-is c.in-Err-OutOfMemory.ensures.err).0

pub returns-in-Ok-clause-busy : goal.returns-in-Ok-clause-busy
returns-in-Ok-clause-busy g c = found_as c.args.seat.now c.loop.seat c.try_step.new.seat c.loop.invariant.busy c.in-Ok.ensures.ok.1

pub returns-in-Err-OutOfMemory-clause-busy : goal.returns-in-Err-OutOfMemory-clause-busy
returns-in-Err-OutOfMemory-clause-busy g c = found_as c.args.seat.now c.loop.seat c.try_step.new.seat c.loop.invariant.busy
    (subst (λ (w : TryError). Failed c.loop.seat c.try_step.new.seat c.loop.step w) c.in-Err-OutOfMemory.field-0-is c.in-Err-OutOfMemory.ensures.err).1

pub loop-init : goal.loop-init
loop-init g c = record { seat = (refl, refl, refl, refl); busy = found_nothing c.args.seat.now; step = refl }

pub loop-preserved : goal.loop-preserved
loop-preserved g c = let was = c.loop.invariant.seat in let same = c.in-Err-Busy.ensures.same in
    let now = subst (λ (w : TryError). Failed c.loop.seat c.try_step.new.seat c.loop.step w) c.in-Err-Busy.field-0-is c.in-Err-Busy.ensures.err in
    record { seat = (same.0 ∙ was.0, same.1 ∙ was.1, now.3 ∙ was.2, now.4 ∙ was.3); busy = found_more c.args.seat.now c.loop.seat c.try_step.new.seat _ c.loop.invariant.busy was.1 now.1 now.2 now.5; step = now.0 ∙ c.loop.invariant.step }
