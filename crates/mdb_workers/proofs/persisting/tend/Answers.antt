use Rattle.mdb_workers.proofs.Adding.{made_saw, made_nothing}
use Rattle.mdb_workers.proofs.Tending.{tended_idle, tended_job, tended_nothing, tended_unread}
use Rattle.mdb_workers.proofs.persisting.tend.Goals as goal

pub returns-in-Ok-Job : goal.returns-in-Ok-Job
returns-in-Ok-Job g c = record {
  tended = tended_job g.C.Core.stands g.C.Core.job_after c.args.seat.now c.claim.new.seat c.claim.ensures.same.0 c.claim.ensures.same.1 c.claim.ensures.busy _ c.in-Ok-Job.ensures.ok (g.E.Establisher.calls c.args.establisher.now)
      c.deal.new.seat (g.E.Establisher.calls c.deal.new.establisher) _ _ c.in-Ok-Job.pool c.in-Ok-Job.id c.in-Ok-Job.job c.in-Ok-Job.field-0-is c.in-Ok-Job.ensures.job c.deal.ensures.dealt;
}

pub returns-in-Ok-NoJob : goal.returns-in-Ok-NoJob
returns-in-Ok-NoJob g c = record {
  tended = tended_idle g.C.Core.stands g.C.Core.job_after c.args.seat.now c.claim.new.seat c.claim.ensures.same.0 c.claim.ensures.same.1 c.claim.ensures.busy _ c.in-Ok-NoJob.ensures.ok (g.E.Establisher.calls c.args.establisher.now) c.in-Ok-NoJob.field-0-is;
}

pub returns-in-Ok-Unread : goal.returns-in-Ok-Unread
returns-in-Ok-Unread g c = record {
  tended = tended_unread g.C.Core.stands g.C.Core.job_after c.args.seat.now c.claim.new.seat c.claim.ensures.same.0 c.claim.ensures.same.1 c.claim.ensures.busy _ c.in-Ok-Unread.ensures.ok (g.E.Establisher.calls c.args.establisher.now)
      c.report_left.new.seat c.in-Ok-Unread.pool c.in-Ok-Unread.id c.in-Ok-Unread.field-0-is c.report_left.ensures.entry;
}

pub returns-in-Err : goal.returns-in-Err
returns-in-Err g c = record {
  tended = tended_nothing g.C.Core.stands g.C.Core.job_after c.args.seat.now c.pause.new.seat (g.E.Establisher.calls c.args.establisher.now)
      (made_saw g.C.Core.stands c.args.seat.now c.claim.new.seat c.pause.new.seat (made_nothing g.C.Core.stands c.args.seat.now c.claim.new.seat c.claim.ensures.same.0 c.claim.ensures.same.1 c.claim.ensures.busy c.in-Err.ensures.err) c.pause.ensures);
}
