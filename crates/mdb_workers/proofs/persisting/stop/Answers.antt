use Rattle.std.proofs.Common.{◌≡◌, subst, true, false, ◌∙◌}
use Rattle.mdb_log.specs.declared.log.Entry.{Entry}
use Rattle.mdb_log.specs.declared.step.Act.TheVariants.{Stop}
use Rattle.mdb_workers.specs.Persisting.{IsTry}
use Rattle.mdb_workers.proofs.Adding.{made_none, made_saw, entry_after}
use Rattle.mdb_workers.proofs.persisting.stop.Goals as goal

pub loop-init : goal.loop-init
loop-init g c = record { none = made_none g.C.Core.stands c.args.seat.now }

pub loop-preserved : goal.loop-preserved
loop-preserved g c = record { none = made_saw g.C.Core.stands c.args.seat.now c.try_once.new.seat c.pause.new.seat (made_saw g.C.Core.stands c.args.seat.now c.loop.seat c.try_once.new.seat c.loop.invariant.none (subst (IsTry g.C.Core.stands c.loop.seat c.try_once.new.seat Stop) c.if-try_once.false c.try_once.ensures.entry)) c.pause.ensures }

pub returns-then-try_once-clause-entry : goal.returns-then-try_once-clause-entry
returns-then-try_once-clause-entry g c = entry_after g.C.Core.stands c.args.seat.now c.loop.seat c.try_once.new.seat (λ (e : Entry). e.step.act ≡ Stop) c.loop.invariant.none (subst (IsTry g.C.Core.stands c.loop.seat c.try_once.new.seat Stop) c.if-try_once.true c.try_once.ensures.entry)

pub returns-then-try_once-clause-same : goal.returns-then-try_once-clause-same
returns-then-try_once-clause-same g c = let was = c.loop.invariant.none in (c.try_once.ensures.same.0 ∙ was.0, c.try_once.ensures.same.1 ∙ was.1)
