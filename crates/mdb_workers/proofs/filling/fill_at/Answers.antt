use Rattle.std.proofs.Common.{rules, subst, ◌∙◌}
use Rattle.mdb_workers.proofs.Adding.{OneWarm, so_far_more, filled_by, filled_in_part, not_made}
use Rattle.mdb_workers.proofs.filling.fill_at.Goals as goal

pub returns-in_err-reply-clause-err : goal.returns-in_err-reply-clause-err
returns-in_err-reply-clause-err g c = let so = filled_in_part g.C.Core.stands c.args.address.now c.args.first c.loop-made.made c.args.seat.now c.loop-made.seat c.warm.new.seat c.loop-made.last c.loop-made.invariant.so_far c.args.budget c.loop-made-test.true c.in_err-reply.ensures.err in search rules

pub returns-in_default : goal.returns-in_default
returns-in_default g c = let was = c.loop-made.invariant.so_far.1 in let one = c.in_ok-reply.ensures.ok.3 in record {
  same = (one.0 ∙ was.0, one.1 ∙ was.1);
  ok = filled_by g.C.Core.stands c.args.address.now c.args.first c.loop-made.made c.args.seat.now c.loop-made.seat c.warm.new.seat c.loop-made.last c.loop-made.invariant.so_far c.args.budget c.in_ok-reply.reply c.loop-made-test.true
      (not_made c.in_ok-reply.reply c.in_default.not-Establishing) c.in_ok-reply.ensures.ok;
  err = search rules;
}

pub loop-made-preserved : goal.loop-made-preserved
loop-made-preserved g c = record {
  so_far = so_far_more g.C.Core.stands c.args.address.now c.args.first c.loop-made.made c.args.seat.now c.loop-made.seat c.warm.new.seat c.loop-made.last c.loop-made.invariant.so_far c.in-Establishing.pool c.in-Establishing.id
      (subst (OneWarm g.C.Core.stands c.args.address.now _ c.loop-made.seat c.warm.new.seat) c.in-Establishing.is c.in_ok-reply.ensures.ok);
}

pub returns-in_err-reply-clause-same : goal.returns-in_err-reply-clause-same
returns-in_err-reply-clause-same g c = let was = c.loop-made.invariant.so_far.1 in let none = c.in_err-reply.ensures.err in (none.0 ∙ was.0, none.1 ∙ was.1)
