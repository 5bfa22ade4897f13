use Rattle.std.proofs.Common.{rules, ◌∙◌}
use Rattle.mdb_shared.proofs.Closing.{gather_first, gather_more, next_own, first_own, gathered, empty_list}
use Rattle.mdb_shared.proofs.ending.gather.Goals as goal

pub loop-seat-init : goal.loop-seat-init
loop-seat-init g c = let p = c.seat.inside.table_seat in record {
  own = first_own c.args.seats.items c.pop.new.self.items c.in-Some.seat c.args.table.now.shared.table_id p.table_id c.seat.inside.number p.me.0 c.in-Some.ensures.items c.seat.view_is c.requires.own;
  all = gather_first c.args.seats.items c.pop.new.self.items c.in-Some.seat p.table_id c.seat.inside.number p.me c.in-Some.ensures.items c.seat.view_is c.seat.invariant;
}

pub take_in-requires-clause-table : goal.take_in-requires-clause-table
take_in-requires-clause-table g c κs within = let p = c.seat-in-Some-pop.inside.table_seat in let i = c.loop-seat.invariant in (
  c.requires.table,
  i.own,
  next_own c.args.seats.items c.loop-seat.seats.items c.pop-in-loop-seat.new.self.items c.in-Some-pop.seat c.args.table.now.shared.table_id p.table_id c.seat-in-Some-pop.inside.number c.loop-seat.all.me p.me.0 i.all c.in-Some-pop.ensures.items c.seat-in-Some-pop.view_is c.requires.own,
)

pub take_in-requires-clause-off : goal.take_in-requires-clause-off
take_in-requires-clause-off g c κs within = (c.loop-seat.invariant.all.3, c.seat-in-Some-pop.invariant.1, c.seat-in-Some-pop.invariant.0)

pub loop-seat-preserved : goal.loop-seat-preserved
loop-seat-preserved g c = let p = c.seat-in-Some-pop.inside.table_seat in let i = c.loop-seat.invariant in let t = c.take_in.ensures in record {
  own = t.own ∙ i.own;
  all = gather_more c.args.seats.items c.loop-seat.seats.items c.pop-in-loop-seat.new.self.items c.in-Some-pop.seat p.table_id c.seat-in-Some-pop.inside.number c.loop-seat.all.me p.me c.take_in.new.all.me
      i.all c.in-Some-pop.ensures.items c.seat-in-Some-pop.view_is c.seat-in-Some-pop.invariant t.off.0 t.off.1 t.own_numbers t.seen.0 t.seen.1;
}

pub returns-clause-own : goal.returns-clause-own
returns-clause-own g c = c.loop-seat.invariant.own

pub returns-clause-off : goal.returns-clause-off
returns-clause-off g c = let a = c.loop-seat.invariant.all in (a.2, a.3)

pub returns-clause-own_numbers : goal.returns-clause-own_numbers
returns-clause-own_numbers g c = (gathered c.args.seats.items c.loop-seat.seats.items c.loop-seat.all.me c.loop-seat.invariant.all (empty_list c.loop-seat.seats.items (let h = c.in_default-pop.ensures.cases in search rules))).0

pub returns-clause-seen : goal.returns-clause-seen
returns-clause-seen g c = (gathered c.args.seats.items c.loop-seat.seats.items c.loop-seat.all.me c.loop-seat.invariant.all (empty_list c.loop-seat.seats.items (let h = c.in_default-pop.ensures.cases in search rules))).1
