use Rattle.std.proofs.Common.{arith}
use Rattle.mdb_lines.proofs.Loops.{took_next}
use Rattle.mdb_recorders.proofs.log_writer.write_on.Goals as goal

pub loop-done-preserved : goal.loop-done-preserved
loop-done-preserved g c =
    let held = g.K.Sink.held in
    record {
      taken = took_next (held c.args.sink.now) (held c.loop-done.sink) (held c.write.new.self) c.args.text.now c.split_at.result.1.now c.loop-done.done c.in-Ok.count c.split_at.ensures.back c.loop-done.invariant.taken c.in-Ok.ensures.bytes.1;
      within = omega (arith, c.in-Ok.ensures.bytes.0, c.split_at.ensures.back_len);
    }
