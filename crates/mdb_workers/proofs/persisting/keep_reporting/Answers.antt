use Rattle.std.proofs.Common.{subst, ◌∙◌}
use Rattle.mdb_workers.specs.Persisting.{ReportsLeftIf}
use Rattle.mdb_workers.specs.Working.{ReportsLeft}
use Rattle.mdb_workers.proofs.Adding.{made_none, made_saw, entry_after}
use Rattle.mdb_workers.proofs.persisting.keep_reporting.Goals as goal

pub loop-init : goal.loop-init
loop-init g c = record { none = made_none g.C.Core.stands c.args.seat.now }

pub loop-preserved : goal.loop-preserved
loop-preserved g c = record { none = made_saw g.C.Core.stands c.args.seat.now c.try_left.new.seat c.pause.new.seat (made_saw g.C.Core.stands c.args.seat.now c.loop.seat c.try_left.new.seat c.loop.invariant.none (subst (ReportsLeftIf g.C.Core.stands c.args.pool c.args.id c.args.step.now c.loop.seat c.try_left.new.seat) c.if-try_left.false c.try_left.ensures.entry)) c.pause.ensures }

pub returns-then-try_left-clause-entry : goal.returns-then-try_left-clause-entry
returns-then-try_left-clause-entry g c = entry_after g.C.Core.stands c.args.seat.now c.loop.seat c.try_left.new.seat (ReportsLeft c.args.pool c.args.id c.args.step.now) c.loop.invariant.none (subst (ReportsLeftIf g.C.Core.stands c.args.pool c.args.id c.args.step.now c.loop.seat c.try_left.new.seat) c.if-try_left.true c.try_left.ensures.entry)

pub returns-then-try_left-clause-same : goal.returns-then-try_left-clause-same
returns-then-try_left-clause-same g c = let was = c.loop.invariant.none in (c.try_left.ensures.same.0 ∙ was.0, c.try_left.ensures.same.1 ∙ was.1)
