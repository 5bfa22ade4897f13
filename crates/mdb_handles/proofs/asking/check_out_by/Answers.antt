use Rattle.mdb_workers.proofs.Adding.{made_same}
use Rattle.mdb_handles.proofs.Questions.{never_asked, settled_ready, settled_ended, settled_refused, settled_asking}
use Rattle.mdb_handles.proofs.asking.check_out_by.Goals as goal

pub returns-in-Ok-NotYet : goal.returns-in-Ok-NotYet
returns-in-Ok-NotYet g c = record {
  answer = settled_asking g.C.Core.stands (g.L.Limit.ends c.args.limit.now) c.args.request c.args.address c.args.seat.now c.seen_count-from.new.seat c.request_once.new.seat _ (made_same g.C.Core.stands _ _ c.seen_count-from.ensures.same c.seen_count-from.ensures.seen) c.in-Ok-NotYet.ensures.ok
      c.wait_in.new.seat c.wait_in.result _ c.in-Ok-NotYet.field-0-is c.in-Ok-NotYet.ensures.names c.wait_in.ensures.answer;
}

pub returns-in-Ok-Ready : goal.returns-in-Ok-Ready
returns-in-Ok-Ready g c = record {
  answer = settled_ready g.C.Core.stands (g.L.Limit.ends c.args.limit.now) c.args.request c.args.address c.args.seat.now c.seen_count-from.new.seat c.request_once.new.seat _ (made_same g.C.Core.stands _ _ c.seen_count-from.ensures.same c.seen_count-from.ensures.seen) c.in-Ok-Ready.ensures.ok
      _ c.in-Ok-Ready.field-0-is c.in-Ok-Ready.ensures.names;
}

pub returns-in-Ok-Ended : goal.returns-in-Ok-Ended
returns-in-Ok-Ended g c = record {
  answer = settled_ended g.C.Core.stands (g.L.Limit.ends c.args.limit.now) c.args.request c.args.address c.args.seat.now c.seen_count-from.new.seat c.request_once.new.seat _ (made_same g.C.Core.stands _ _ c.seen_count-from.ensures.same c.seen_count-from.ensures.seen) c.in-Ok-Ended.ensures.ok
      _ c.in-Ok-Ended.field-0-is;
}

pub returns-in-Ok-Refused : goal.returns-in-Ok-Refused
returns-in-Ok-Refused g c = record {
  answer = settled_refused g.C.Core.stands (g.L.Limit.ends c.args.limit.now) c.args.request c.args.address c.args.seat.now c.seen_count-from.new.seat c.request_once.new.seat _ (made_same g.C.Core.stands _ _ c.seen_count-from.ensures.same c.seen_count-from.ensures.seen) c.in-Ok-Refused.ensures.ok
      _ c.in-Ok-Refused.field-0-is;
}

pub returns-in-Err : goal.returns-in-Err
returns-in-Err g c = record { answer = never_asked g.C.Core.stands (g.L.Limit.ends c.args.limit.now) c.args.request c.args.address c.args.seat.now c.seen_count-from.new.seat c.request_once.new.seat (made_same g.C.Core.stands _ _ c.seen_count-from.ensures.same c.seen_count-from.ensures.seen) c.in-Err.ensures.err }
