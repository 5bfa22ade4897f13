use Rattle.std.proofs.Common.{◌≡◌, length}
use Rattle.mdb_shared_runs.specs.Plays.{numbered_from}
use Rattle.mdb_shared_runs.proofs.players.numbered.Given as goal

abbrev pub invariant-loop-seat : goal.invariant-loop-seat
invariant-loop-seat g l = record {
  number : l.number ≡ length l.yielded;
  players : l.players.items ≡ numbered_from 0 l.yielded;
}
