use Rattle.std.proofs.Common.{◌≡◌, length, arith}
use Rattle.std.proofs.lemmas.Grind.{common_steps}
use Rattle.mdb_recording_runs.proofs.Lines.{lines-start, line-more, lines-end}
use Rattle.mdb_recording_runs.proofs.text.take_lines.Goals as goal

pub loop-rest-init : goal.loop-rest-init
loop-rest-init c = λ standard keeps. lines-start standard c.args.text.now c.args.reader.now keeps

pub loop-rest-preserved : goal.loop-rest-preserved
loop-rest-preserved c = λ standard keeps.
    let l = c.loop-rest in
    let cut = c.first_line-cut in
    line-more standard c.args.text.now l.rest.now cut.result.1.now cut.result.0.now l.read c.in_ok-number.number l.reader c.take.new.self c.in_ok-number.ensures cut.ensures (λ s told. c.in_ok-take.ensures standard s told) (l.invariant standard keeps)

pub returns : goal.returns
returns c = λ standard keeps.
    let l = c.loop-rest in
    let none : length l.rest.now ≡ 0 = grind (arith, common_steps) in
    lines-end standard c.args.text.now l.rest.now l.read l.reader none (l.invariant standard keeps)
