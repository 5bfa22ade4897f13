use Rattle.std.proofs.Common.{◌≡◌, Ok, map-id, rules}
use Rattle.std.proofs.lemmas.Iterator.Consumers.{YieldsList-end}
use Rattle.std.proofs.lemmas.Iterator.Adapters.{YieldsList-from_vec}
use Rattle.std.proofs.lemmas.List.Elements.{All-push}
use Rattle.mdb_shared_runs.proofs.Joined.{next_seats}
use Rattle.mdb_shared_runs.proofs.players.all_seats.Goals as goal

pub loop-seat-preserved : goal.loop-seat-preserved
loop-seat-preserved g c = let i = c.loop-seat.invariant in record {
  seats = next_seats c.loop-seat.yielded c.in-Some.field-0 _ _ i.seats c.in_ok-push.ensures.items;
  all = All-push (λ r. r.done ≡ Ok tt) c.loop-seat.yielded c.in-Some.field-0 i.all (search rules);
}

pub returns-clause-seats : goal.returns-clause-seats
returns-clause-seats g c =
    let end = YieldsList-end (YieldsList-from_vec {s = c.into_iter-seat-iterator.result} c.args.ended.items (search rules) (search rules))
    c.loop-seat.yielded c.loop-seat.seat-iterator c.loop-seat.yielded_by c.next.result c.next.new.self c.in-None.is c.next.ensures.steps in
    rw (← end.0, map-id) c.loop-seat.invariant.seats

pub returns-clause-all : goal.returns-clause-all
returns-clause-all g c =
    let end = YieldsList-end (YieldsList-from_vec {s = c.into_iter-seat-iterator.result} c.args.ended.items (search rules) (search rules))
    c.loop-seat.yielded c.loop-seat.seat-iterator c.loop-seat.yielded_by c.next.result c.next.new.self c.in-None.is c.next.ensures.steps in
    rw (← end.0, map-id) c.loop-seat.invariant.all
