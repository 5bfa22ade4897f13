use Rattle.std.proofs.Common.{◌∙◌, ◌+◌, ap, sym}
use Rattle.std.proofs.lemmas.List.{length_push}
use Rattle.mdb_shared_runs.proofs.Joined.{next_numbered}
use Rattle.mdb_shared_runs.proofs.players.numbered.Goals as goal

pub loop-seat-preserved : goal.loop-seat-preserved
loop-seat-preserved g c = let i = c.loop-seat.invariant in record {
  number = ap (λ n. n + 1) i.number ∙ sym (length_push c.loop-seat.yielded c.in-Some.seat);
  players = next_numbered c.loop-seat.yielded c.in-Some.seat c.loop-seat.number _ _ i.players i.number c.in_ok-push.ensures.items;
}
