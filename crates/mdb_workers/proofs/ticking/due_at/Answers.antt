use Rattle.std.proofs.Common.{rules, subst}
use Rattle.mdb_base.specs.declared.address.ServerAddress.{ServerAddress}
use Rattle.mdb_log.specs.declared.step.Act.TheVariants.{Expire}
use Rattle.mdb_workers.proofs.Adding.{made_none}
use Rattle.mdb_workers.proofs.Clocking.{OneDue, both_due, none_due, first_due}
use Rattle.mdb_workers.proofs.ticking.due_at.Goals as goal

pub returns-in-Ok-clause-ok : goal.returns-in-Ok-clause-ok
returns-in-Ok-clause-ok g c = both_due g.C.Core.stands c.args.moment c.args.address c.args.seat.now c.due.new.seat c.due-2.new.seat
    (subst (λ (a : ServerAddress). OneDue g.C.Core.stands c.args.moment c.args.seat.now c.due.new.seat (Expire a)) c.in_ok-copy.ensures.cases c.in_ok-due.ensures.ok) c.in-Ok.ensures.ok

pub returns-in-Err-clause-err : goal.returns-in-Err-clause-err
returns-in-Err-clause-err g c = first_due g.C.Core.stands c.args.moment c.args.address c.args.seat.now c.due.new.seat c.due-2.new.seat
    (subst (λ (a : ServerAddress). OneDue g.C.Core.stands c.args.moment c.args.seat.now c.due.new.seat (Expire a)) c.in_ok-copy.ensures.cases c.in_ok-due.ensures.ok) c.in-Err.ensures.err

pub returns-in_err-copy-clause-err : goal.returns-in_err-copy-clause-err
returns-in_err-copy-clause-err g c = let part = none_due g.C.Core.stands c.args.moment c.args.seat.now c.args.seat.now (made_none g.C.Core.stands c.args.seat.now) in search rules
