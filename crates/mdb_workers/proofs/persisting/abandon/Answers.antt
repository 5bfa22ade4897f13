use Rattle.mdb_log.specs.declared.step.Act.TheVariants.{GiveUp}
use Rattle.std.proofs.Common.{◌∙◌}
use Rattle.mdb_workers.proofs.Adding.{made_none, made_saw, one_after}
use Rattle.mdb_workers.proofs.persisting.abandon.Goals as goal

pub loop-init : goal.loop-init
loop-init g c = record { none = made_none g.C.Core.stands c.args.seat.now }

pub loop-preserved : goal.loop-preserved
loop-preserved g c = record { none = made_saw g.C.Core.stands c.args.seat.now c.let_go.new.seat c.pause.new.seat (made_saw g.C.Core.stands c.args.seat.now c.loop.seat c.let_go.new.seat c.loop.invariant.none c.in-Err.ensures.err) c.pause.ensures }

pub returns-in-Ok-clause-entry : goal.returns-in-Ok-clause-entry
returns-in-Ok-clause-entry g c = one_after g.C.Core.stands c.args.seat.now c.loop.seat c.let_go.new.seat (GiveUp c.args.request) c.in-Ok.reply c.loop.invariant.none c.in-Ok.ensures.ok

pub returns-in-Ok-clause-same : goal.returns-in-Ok-clause-same
returns-in-Ok-clause-same g c = let was = c.loop.invariant.none in (c.let_go.ensures.same.0 ∙ was.0, c.let_go.ensures.same.1 ∙ was.1)
