use Rattle.std.proofs.Common.{◌∙◌}
use Rattle.mdb_workers.proofs.Laboring.{done_none, job_more, job_left, none_left, left_unread, ends_unclaimed, worked_handed}
use Rattle.mdb_workers.proofs.Adding.{made_nothing}
use Rattle.mdb_workers.proofs.working.work.Goals as goal

pub loop-init : goal.loop-init
loop-init g c = record { done = done_none g.C.Core.stands g.C.Core.job_after c.args.seat.now (g.E.Establisher.calls c.args.establisher.now) }

pub returns-in-Ok-NoJob-clause-jobs : goal.returns-in-Ok-NoJob-clause-jobs
returns-in-Ok-NoJob-clause-jobs g c = none_left g.C.Core.stands g.C.Core.job_after c.args.budget c.loop.counter c.args.seat.now c.loop.seat c.claim.new.seat (g.E.Establisher.calls c.args.establisher.now) (g.E.Establisher.calls c.loop.establisher) c.loop.invariant.done
    c.claim.ensures.same.0 c.claim.ensures.same.1 c.claim.ensures.busy _ c.in-Ok-NoJob.field-0-is c.in-Ok-NoJob.ensures.ok

pub returns-in-Ok-Unread-clause-jobs : goal.returns-in-Ok-Unread-clause-jobs
returns-in-Ok-Unread-clause-jobs g c = left_unread g.C.Core.stands g.C.Core.job_after c.args.budget c.loop.counter c.args.seat.now c.loop.seat c.claim.new.seat (g.E.Establisher.calls c.args.establisher.now) (g.E.Establisher.calls c.loop.establisher) c.loop.invariant.done
    c.claim.ensures.same.0 c.claim.ensures.same.1 c.claim.ensures.busy _ c.in-Ok-Unread.pool c.in-Ok-Unread.id c.in-Ok-Unread.field-0-is c.in-Ok-Unread.ensures.ok

pub returns-in-Err-clause-jobs : goal.returns-in-Err-clause-jobs
returns-in-Err-clause-jobs g c = ends_unclaimed g.C.Core.stands g.C.Core.job_after c.args.budget c.loop.counter c.args.seat.now c.loop.seat c.claim.new.seat (g.E.Establisher.calls c.args.establisher.now) (g.E.Establisher.calls c.loop.establisher) c.loop.invariant.done
    (made_nothing g.C.Core.stands c.loop.seat c.claim.new.seat c.claim.ensures.same.0 c.claim.ensures.same.1 c.claim.ensures.busy c.in-Err.ensures.err)

pub returns-in_err-one_job-in-Ok-Job-clause-jobs : goal.returns-in_err-one_job-in-Ok-Job-clause-jobs
returns-in_err-one_job-in-Ok-Job-clause-jobs g c = worked_handed g.C.Core.stands g.C.Core.job_after c.args.budget c.args.seat.now c.one_job.new.seat (g.E.Establisher.calls c.args.establisher.now) (g.E.Establisher.calls c.one_job.new.establisher) c.from_residual.result _ c.from_residual.ensures.1
    (job_left g.C.Core.stands g.C.Core.job_after c.args.budget c.loop.counter c.args.seat.now c.loop.seat c.claim.new.seat (g.E.Establisher.calls c.args.establisher.now) (g.E.Establisher.calls c.loop.establisher) c.loop.invariant.done
    c.claim.ensures.same.0 c.claim.ensures.same.1 c.claim.ensures.busy _ c.one_job.new.seat (g.E.Establisher.calls c.one_job.new.establisher) c.in-Ok-Job.pool c.in-Ok-Job.id c.in-Ok-Job.job c.in-Ok-Job.field-0-is
    c.in-Ok-Job.ensures.ok c.in-Ok-Job.ensures.job _ c.in_err-one_job-in-Ok-Job.ensures.err)

pub loop-preserved : goal.loop-preserved
loop-preserved g c = record {
  done = job_more g.C.Core.stands g.C.Core.job_after c.args.budget c.loop.counter c.args.seat.now c.loop.seat c.claim.new.seat (g.E.Establisher.calls c.args.establisher.now) (g.E.Establisher.calls c.loop.establisher) c.loop.invariant.done
      c.claim.ensures.same.0 c.claim.ensures.same.1 c.claim.ensures.busy _ c.one_job.new.seat (g.E.Establisher.calls c.one_job.new.establisher) c.in-Ok-Job.pool c.in-Ok-Job.id c.in-Ok-Job.job c.in-Ok-Job.field-0-is
      c.in-Ok-Job.ensures.ok c.in-Ok-Job.ensures.job c.in_ok-one_job-in-Ok-Job.ensures.ok;
}

pub returns-in-Ok-NoJob-clause-same : goal.returns-in-Ok-NoJob-clause-same
returns-in-Ok-NoJob-clause-same g c = let was = c.loop.invariant.done.2 in let same = c.claim.ensures.same in (same.0 ∙ was.0, same.1 ∙ was.1)

pub returns-in-Ok-Unread-clause-same : goal.returns-in-Ok-Unread-clause-same
returns-in-Ok-Unread-clause-same g c = let was = c.loop.invariant.done.2 in let same = c.claim.ensures.same in (same.0 ∙ was.0, same.1 ∙ was.1)

pub returns-in-Err-clause-same : goal.returns-in-Err-clause-same
returns-in-Err-clause-same g c = let was = c.loop.invariant.done.2 in let same = c.claim.ensures.same in (same.0 ∙ was.0, same.1 ∙ was.1)

pub returns-in_err-one_job-in-Ok-Job-clause-same : goal.returns-in_err-one_job-in-Ok-Job-clause-same
returns-in_err-one_job-in-Ok-Job-clause-same g c = let was = c.loop.invariant.done.2 in let same = c.claim.ensures.same in let done = c.one_job.ensures.same in (done.0 ∙ (same.0 ∙ was.0), done.1 ∙ (same.1 ∙ was.1))
