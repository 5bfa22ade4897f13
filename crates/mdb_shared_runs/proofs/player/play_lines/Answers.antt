use Rattle.std.proofs.Common.{arith, ◌∙◌}
use Rattle.mdb_shared_runs.proofs.Playing.{played_step, played_skip}
use Rattle.mdb_shared_runs.proofs.player.play_lines.Goals as goal
use Rattle.mdb_shared_runs.proofs.player.play_lines.Goals.{then-line-lines+in_ok-play_line, else-line-lines}

pub loop-step-preserved : goal.loop-step-preserved
loop-step-preserved g c =
    let l = c.loop-step in
    elim c.if-line-lines.branch [
      | then-line-lines+in_ok-play_line w ↦
          let e = w.in_ok-play_line.ensures in
          rw w.seat-is record {
            driver = e.same.0 ∙ l.invariant.driver;
            number = e.same.1 ∙ l.invariant.number;
            line = omega (arith, l.invariant.line);
            played = played_step c.args.lines.players c.args.number l.step-index l.line c.args.lines.steps.now c.step-item.result c.args.seat.now l.seat w.play_line.new.seat c.loop-step-test.true c.step-item.is l.invariant.line w.if-line-lines.true l.invariant.played l.invariant.number e.ok;
          }
      | else-line-lines w ↦
          rw w.seat-is record {
            driver = l.invariant.driver;
            number = l.invariant.number;
            line = omega (arith, l.invariant.line);
            played = played_skip c.args.lines.players c.args.number l.step-index l.line c.args.lines.steps.now c.step-item.result c.args.seat.now l.seat c.loop-step-test.true c.step-item.is l.invariant.line w.if-line-lines.false l.invariant.played;
          }
    ]
