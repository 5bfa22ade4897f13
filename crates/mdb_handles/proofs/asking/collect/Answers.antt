use Rattle.std.proofs.Common.{ℕ, refl, subst}
use Rattle.mdb_handles.specs.CheckingOut.{IsGivenUp}
use Rattle.mdb_handles.specs.Standing.{MayBe, HasEnded}
use Rattle.mdb_handles.proofs.Questions.{asked_none, asked_later, asked_left, asked_given_up, asked_no_more, asked_again, asked_ready, asked_ended, asked_refused}
use Rattle.mdb_handles.proofs.asking.collect.Goals as goal

pub loop-init : goal.loop-init
loop-init g c = record { asked = asked_none g.C.Core.stands (g.L.Limit.ends c.args.limit.now) c.args.standing.request c.args.seat.now; same = refl; request = refl }

pub loop-preserved : goal.loop-preserved
loop-preserved g c = record {
  asked = asked_again g.C.Core.stands (g.L.Limit.ends c.args.limit.now) c.args.standing.request c.args.seat.now c.await_outcome-outlook.new.seat c.ask.new.seat _ (asked_later g.C.Core.stands (g.L.Limit.ends c.args.limit.now) c.args.standing.request c.args.seat.now c.loop.seat c.await_outcome-outlook.new.seat c.loop.invariant.asked c.await_outcome-outlook.ensures.saw) c.in-Ok-NotYet.ensures.ok _ c.in-Ok-NotYet.field-0-is c.in-Ok-NotYet.ensures.names;
  same = refl;
  request = refl;
}

pub returns-in-Open : goal.returns-in-Open
returns-in-Open g c = record { answer = asked_left g.C.Core.stands (g.L.Limit.ends c.args.limit.now) c.args.standing.request (subst (HasEnded _) c.in-Open.is c.await_outcome-outlook.ensures.ended) c.args.seat.now c.await_outcome-outlook.new.seat c.leave.new.seat c.leave.result (asked_later g.C.Core.stands (g.L.Limit.ends c.args.limit.now) c.args.standing.request c.args.seat.now c.loop.seat c.await_outcome-outlook.new.seat c.loop.invariant.asked c.await_outcome-outlook.ensures.saw) c.leave.ensures.left }

pub returns-in-GivenUp : goal.returns-in-GivenUp
returns-in-GivenUp g c = record { answer = asked_given_up g.C.Core.stands (g.L.Limit.ends c.args.limit.now) c.args.standing.request c.args.seat.now c.await_outcome-outlook.new.seat (asked_later g.C.Core.stands (g.L.Limit.ends c.args.limit.now) c.args.standing.request c.args.seat.now c.loop.seat c.await_outcome-outlook.new.seat c.loop.invariant.asked c.await_outcome-outlook.ensures.saw) (subst (λ (r : ℕ). IsGivenUp r c.await_outcome-outlook.new.seat.seen) c.loop.invariant.same (subst (MayBe c.loop.standing.request c.await_outcome-outlook.new.seat.seen) c.in-GivenUp.is c.await_outcome-outlook.ensures.outlook), c.await_outcome-outlook.ensures.fits) }

pub returns-in-Ok-Ready : goal.returns-in-Ok-Ready
returns-in-Ok-Ready g c = record { answer = asked_ready g.C.Core.stands (g.L.Limit.ends c.args.limit.now) c.args.standing.request c.args.seat.now c.await_outcome-outlook.new.seat c.ask.new.seat _ (asked_later g.C.Core.stands (g.L.Limit.ends c.args.limit.now) c.args.standing.request c.args.seat.now c.loop.seat c.await_outcome-outlook.new.seat c.loop.invariant.asked c.await_outcome-outlook.ensures.saw) c.in-Ok-Ready.ensures.ok _ c.in-Ok-Ready.field-0-is c.in-Ok-Ready.ensures.names }

pub returns-in-Ok-Ended : goal.returns-in-Ok-Ended
returns-in-Ok-Ended g c = record { answer = asked_ended g.C.Core.stands (g.L.Limit.ends c.args.limit.now) c.args.standing.request c.args.seat.now c.await_outcome-outlook.new.seat c.ask.new.seat _ (asked_later g.C.Core.stands (g.L.Limit.ends c.args.limit.now) c.args.standing.request c.args.seat.now c.loop.seat c.await_outcome-outlook.new.seat c.loop.invariant.asked c.await_outcome-outlook.ensures.saw) c.in-Ok-Ended.ensures.ok _ c.in-Ok-Ended.field-0-is }

pub returns-in-Ok-Refused : goal.returns-in-Ok-Refused
returns-in-Ok-Refused g c = record {
  answer = asked_refused g.C.Core.stands (g.L.Limit.ends c.args.limit.now) c.args.standing.request c.args.seat.now c.await_outcome-outlook.new.seat c.ask.new.seat _ (asked_later g.C.Core.stands (g.L.Limit.ends c.args.limit.now) c.args.standing.request c.args.seat.now c.loop.seat c.await_outcome-outlook.new.seat c.loop.invariant.asked c.await_outcome-outlook.ensures.saw) c.in-Ok-Refused.ensures.ok
      c.refusal.new.seat c.in-Ok-Refused.why c.refusal.result c.in-Ok-Refused.field-0-is c.refusal.ensures.saw c.refusal.ensures.told;
}

pub returns-in-Err : goal.returns-in-Err
returns-in-Err g c = record { answer = asked_no_more g.C.Core.stands (g.L.Limit.ends c.args.limit.now) c.args.standing.request c.args.seat.now c.await_outcome-outlook.new.seat c.ask.new.seat (asked_later g.C.Core.stands (g.L.Limit.ends c.args.limit.now) c.args.standing.request c.args.seat.now c.loop.seat c.await_outcome-outlook.new.seat c.loop.invariant.asked c.await_outcome-outlook.ensures.saw) c.in-Err.ensures.err }
