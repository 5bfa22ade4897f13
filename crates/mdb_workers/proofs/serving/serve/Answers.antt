use Rattle.mdb_workers.proofs.Tending.{served_none, served_more, served_saw}
use Rattle.mdb_workers.proofs.serving.serve.Goals as goal

pub loop-init : goal.loop-init
loop-init g c = record { served = served_none g.C.Core.stands g.C.Core.job_after c.args.seat.now (g.E.Establisher.calls c.args.establisher.now) }

pub loop-preserved : goal.loop-preserved
loop-preserved g c =
    let old = g.E.Establisher.calls c.args.establisher.now in let mid = g.E.Establisher.calls c.loop.establisher in record {
      served = served_more g.C.Core.stands g.C.Core.job_after c.args.seat.now c.next_job.new.seat c.tend-end.new.seat old mid (g.E.Establisher.calls c.tend-end.new.establisher) c.tend-end.result
          (served_saw g.C.Core.stands g.C.Core.job_after c.args.seat.now c.loop.seat c.next_job.new.seat old mid c.loop.invariant.served c.next_job.ensures.saw) c.tend-end.ensures.tended;
    }

pub returns-then-eq-clause-served : goal.returns-then-eq-clause-served
returns-then-eq-clause-served g c = served_saw g.C.Core.stands g.C.Core.job_after c.args.seat.now c.loop.seat c.next_job.new.seat _ _ c.loop.invariant.served c.next_job.ensures.saw
