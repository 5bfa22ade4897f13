use Rattle.std.proofs.Common.{◌≡◌, ◌+◌, take}
use Rattle.mdb_shared_runs.specs.Shares.{lines_of_player}
use Rattle.mdb_shared_runs.specs.Plays.{HasPlayed}
use Rattle.mdb_shared_runs.proofs.player.play_lines.Given as goal

abbrev pub invariant-loop-step : goal.invariant-loop-step
invariant-loop-step g l = record {
  driver : l.seat.driver ≡ l.initial.seat.driver;
  number : l.seat.number ≡ l.initial.seat.number;
  line : l.line ≡ 1 + l.step-index;
  played : HasPlayed (lines_of_player l.lines.players l.number (take l.step-index l.lines.steps.now)) l.initial.seat l.seat;
}
