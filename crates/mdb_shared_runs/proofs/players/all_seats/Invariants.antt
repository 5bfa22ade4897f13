use Rattle.std.proofs.Common.{◌≡◌, All, Ok, map}
use Rattle.mdb_shared_runs.proofs.players.all_seats.Given as goal

abbrev pub invariant-loop-seat : goal.invariant-loop-seat
invariant-loop-seat g l = record {
  seats : l.seats.items ≡ map (λ r. r.seat) l.yielded;
  all : All (λ r. r.done ≡ Ok tt) l.yielded;
}
