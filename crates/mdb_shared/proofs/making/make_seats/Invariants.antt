use Rattle.std.proofs.Common.{◌≡◌, ◌<◌, ◌≤◌, ℕ, [], length, slice_get, Some}
use Rattle.std.specs.Vec.{vec_capacity}
use Rattle.mdb_turns.specs.Turning.{keeper_view}
use Rattle.mdb_shared.specs.Seats.{fresh_seat}
use Rattle.mdb_shared.proofs.making.make_seats.Given as goal

abbrev pub invariant-loop-number : goal.invariant-loop-number
invariant-loop-number g l = record {
  room : l.count ≤ vec_capacity l.seats;
  long : length l.seats.items ≡ l.number;
  fresh : (i : ℕ) → i < l.number → slice_get l.seats.items i ≡ Some (fresh_seat l.table.shared.table_id l.table.shared.key.base.value i);
  own : l.keeper.table_id ≡ l.table.shared.table_id;
  view : l.keeper.me ≡ (keeper_view l.table.shared.key.base.value l.number, []);
}
