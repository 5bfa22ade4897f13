use Rattle.std.proofs.Common.{List, ap, sym, subst, ◌∙◌}
use Rattle.mdb_log.specs.declared.log.Entry.{Entry}
use Rattle.mdb_shared.specs.declared.rule.View.{View}
use Rattle.mdb_shared.specs.Claims.{Holds}
use Rattle.mdb_shared.specs.Seats.{seat_view}
use Rattle.mdb_shared.proofs.Keeping.{has_turn, one_more, stepped_well, view_after}
use Rattle.mdb_shared.proofs.Jobs.{tells, as_claimed}
use Rattle.mdb_shared.proofs.claiming.one_claim.Goals as goal

pub with_job-claimed-requires-clause-stands : goal.with_job-claimed-requires-clause-stands
with_job-claimed-requires-clause-stands g c κs within = c.in-Ok.ensures.ok.fits

pub with_job-claimed-requires-clause-kind : goal.with_job-claimed-requires-clause-kind
with_job-claimed-requires-clause-kind g c κs within = tells _ c.in-Ok.ensures.kind c.in-Ok.ensures.in_time

pub finish-requires-clause-turn : goal.finish-requires-clause-turn
finish-requires-clause-turn g c κs within = has_turn c.args.table_seat.now.me.0 _ _ _ c.in-Ok.ensures.ok.turn c.requires.ready.2

pub finish-requires-clause-log : goal.finish-requires-clause-log
finish-requires-clause-log g c κs within = let b = c.in-Ok.ensures.ok in (b.entry, b.is.0, one_more c.args.table_seat.now.me.0 _ _ _ b.entry b.turn b.more)

pub finish-requires-clause-stands : goal.finish-requires-clause-stands
finish-requires-clause-stands g c κs within = c.in-Ok.ensures.ok.fits

pub returns-clause-ok : goal.returns-clause-ok
returns-clause-ok g c =
    let b = c.in-Ok.ensures.ok in
    let v = c.args.table_seat.now.me.0 in
    let done = c.finish.ensures.me b.entry (one_more v _ _ _ b.entry b.turn b.more) in
    let view = view_after v b.before _ _ b.entry b.turn done in
    let old = seat_view c.args.table_seat.now.table_id c.args.number v in
    let new = seat_view c.finish.new.table_seat.table_id c.args.number c.finish.new.table_seat.me.0 in (
      as_claimed g.C.Core.stands old new _ c.with_job-claimed.result c.with_job-claimed.ensures.reply
          (stepped_well g.C.Core.stands c.args.table_seat.now.table_id c.finish.new.table_seat.table_id _ _ _ _ _ v _ _ b done c.requires.ready.2),
      ap (λ (w : View). w.busy) view,
    )

pub returns-clause-job : goal.returns-clause-job
returns-clause-job g c =
    let b = c.in-Ok.ensures.ok in
    let v = c.args.table_seat.now.me.0 in
    let done = c.finish.ensures.me b.entry (one_more v _ _ _ b.entry b.turn b.more) in
    let view = view_after v b.before _ _ b.entry b.turn done in
    subst (λ (l : List Entry). Holds (g.C.Core.job_after l) c.with_job-claimed.result) (b.more ∙ sym (ap (λ (w : View). w.seen) view)) c.with_job-claimed.ensures.job
