use Rattle.std.proofs.Common.{refl, subst, ◌∙◌}
use Rattle.mdb_handles.specs.declared.watching.TopologyWatcher.{TopologyWatcher}
use Rattle.mdb_handles.specs.Watching.{Retracted}
use Rattle.mdb_workers.proofs.Adding.{made_none, made_saw}
use Rattle.mdb_handles.proofs.Looking.{retracted_after, retracted_same}
use Rattle.mdb_handles.proofs.watching.dismiss.Goals as goal

pub loop-init : goal.loop-init
loop-init g c = record { none = made_none g.C.Core.stands c.args.seat.now; same = refl }

pub loop-preserved : goal.loop-preserved
loop-preserved g c = record {
  none = made_saw g.C.Core.stands c.args.seat.now c.retract.new.seat c.pause.new.seat (made_saw g.C.Core.stands c.args.seat.now c.loop.seat c.retract.new.seat c.loop.invariant.none c.in-Err.ensures.err.0) c.pause.ensures;
  same = c.in-Err.ensures.err.1 ∙ c.loop.invariant.same;
}

pub returns-in-Ok-clause-retracted : goal.returns-in-Ok-clause-retracted
returns-in-Ok-clause-retracted g c = retracted_after g.C.Core.stands c.args.watcher.wants c.args.watcher.number c.args.seat.now c.loop.seat c.retract.new.seat c.loop.invariant.none
    (subst (λ (w : TopologyWatcher). Retracted g.C.Core.stands c.loop.seat c.retract.new.seat w) c.loop.invariant.same c.in-Ok.ensures.ok.0)

pub returns-in-Ok-clause-same : goal.returns-in-Ok-clause-same
returns-in-Ok-clause-same g c =
    let was = c.loop.invariant.none in
    let is = retracted_same g.C.Core.stands c.loop.watcher.wants c.loop.watcher.number c.loop.seat c.retract.new.seat c.in-Ok.ensures.ok.0 in
    (is.0 ∙ was.0, is.1 ∙ was.1)
