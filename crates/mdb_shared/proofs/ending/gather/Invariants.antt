use Rattle.std.proofs.Common.{◌≡◌, length}
use Rattle.mdb_shared.proofs.Closing.{Gathered}
use Rattle.mdb_shared.proofs.ending.gather.Given as goal

abbrev pub invariant-loop-seat : goal.invariant-loop-seat
invariant-loop-seat g l = record { own : l.all.table_id ≡ l.table.shared.table_id; all : Gathered l.fn.seats.items l.seats.items l.all.me }

abbrev pub decreases-loop-seat : goal.decreases-loop-seat
decreases-loop-seat g l = length l.seats.items
