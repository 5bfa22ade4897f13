use Rattle.std.proofs.Common.{subst, refl, ◌∙◌}
use Rattle.mdb_shared.specs.Claims.{claiming, claimed_by, Missed}
use Rattle.mdb_shared.proofs.Waited.{stepped_after, saw_after, found_nothing, found_more, found_as}
use Rattle.mdb_shared.proofs.driver.SharedDriver.claim.Goals as goal

pub returns-in-Ok-clause-ok : goal.returns-in-Ok-clause-ok
returns-in-Ok-clause-ok g c = stepped_after g.C.Core.stands c.args.seat.now c.loop.seat c.try_claim.new.seat claiming claiming (claimed_by c.in-Ok.claimed) c.loop.invariant.seat refl c.in-Ok.ensures.ok.0

pub returns-in-Err-OutOfMemory-clause-err : goal.returns-in-Err-OutOfMemory-clause-err
returns-in-Err-OutOfMemory-clause-err g c = saw_after c.args.seat.now c.loop.seat c.try_claim.new.seat c.loop.invariant.seat
    (subst (Missed c.loop.seat c.try_claim.new.seat) c.in-Err-OutOfMemory.field-0-is c.in-Err-OutOfMemory.ensures.err).0

pub returns-in-Ok-clause-busy : goal.returns-in-Ok-clause-busy
returns-in-Ok-clause-busy g c = found_as c.args.seat.now c.loop.seat c.try_claim.new.seat c.loop.invariant.busy c.in-Ok.ensures.ok.1

pub returns-in-Err-OutOfMemory-clause-busy : goal.returns-in-Err-OutOfMemory-clause-busy
returns-in-Err-OutOfMemory-clause-busy g c = found_as c.args.seat.now c.loop.seat c.try_claim.new.seat c.loop.invariant.busy
    (subst (Missed c.loop.seat c.try_claim.new.seat) c.in-Err-OutOfMemory.field-0-is c.in-Err-OutOfMemory.ensures.err).1

pub loop-init : goal.loop-init
loop-init g c = record { seat = (refl, refl, refl, refl); busy = found_nothing c.args.seat.now }

pub loop-preserved : goal.loop-preserved
loop-preserved g c = let was = c.loop.invariant.seat in let same = c.in-Err-Busy.ensures.same in
    let now = subst (Missed c.loop.seat c.try_claim.new.seat) c.in-Err-Busy.field-0-is c.in-Err-Busy.ensures.err in record {
      seat = (same.0 ∙ was.0, same.1 ∙ was.1, now.2 ∙ was.2, now.3 ∙ was.3);
      busy = found_more c.args.seat.now c.loop.seat c.try_claim.new.seat _ c.loop.invariant.busy was.1 now.0 now.1 now.4;
    }

pub try_claim-requires-clause-own : goal.try_claim-requires-clause-own
try_claim-requires-clause-own g c κs within = c.loop.invariant.seat.0 ∙ c.requires.own

pub returns-in-Ok-clause-job : goal.returns-in-Ok-clause-job
returns-in-Ok-clause-job g c = c.in-Ok.ensures.job

pub returns-in-Ok-clause-same : goal.returns-in-Ok-clause-same
returns-in-Ok-clause-same g c = let was = c.loop.invariant.seat in let same = c.in-Ok.ensures.same in (same.0 ∙ was.0, same.1 ∙ was.1)

pub returns-in-Err-OutOfMemory-clause-same : goal.returns-in-Err-OutOfMemory-clause-same
returns-in-Err-OutOfMemory-clause-same g c = let was = c.loop.invariant.seat in let same = c.in-Err-OutOfMemory.ensures.same in (same.0 ∙ was.0, same.1 ∙ was.1)
