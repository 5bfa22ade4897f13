use Rattle.mdb_workers.proofs.Tending.{dealt_with, may_step}
use Rattle.mdb_workers.proofs.persisting.deal.Goals as goal

pub report_left-requires-clause-act : goal.report_left-requires-clause-act
report_left-requires-clause-act g c κs within = may_step c.establish-step.result c.establish-step.ensures.act

pub returns : goal.returns
returns g c = record {
  dealt = dealt_with g.C.Core.stands c.args.seat.now c.report_left.new.seat c.args.connection.0 c.args.connection.1 c.args.job.now _ _ _ _ c.establish-step.result
      c.establish-step.ensures.some c.establish-step.ensures.none c.establish-step.ensures.wanted c.report_left.ensures.entry;
}
