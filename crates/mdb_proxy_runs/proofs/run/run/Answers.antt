use Rattle.std.proofs.Common.{refl}
use Rattle.mdb_proxy_runs.specs.ProxyRuns.{Seen}
use Rattle.mdb_proxy_runs.proofs.Answered.{ran-more}
use Rattle.mdb_proxy_runs.proofs.Writing.{read-wrote, lines-wrote, flush-wrote}
use Rattle.mdb_proxy_runs.proofs.run.run.Goals as goal

pub returns-in-Ok-flush-clause-finished : goal.returns-in-Ok-flush-clause-finished
returns-in-Ok-flush-clause-finished g c =
    let ran = rw c.as_slice.ensures.value at c.in-Ok-run_lines.ensures.ran in
    record {
      input = c.in-Ok.input.items;
      read = c.in-Ok.ensures.all;
      ran = ran-more c.in-Ok.input.items c.in-Ok-run_lines.log (g.K.Sink.held c.args.sink.now) (g.K.Sink.held c.run_lines.new.sink) (g.K.Sink.held c.flush.new.self) (g.K.Sink.faults c.args.sink.now) (g.K.Sink.faults c.run_lines.new.sink) (g.K.Sink.faults c.flush.new.self)
          ran c.in-Ok-flush.ensures.bytes c.in-Ok-flush.ensures.cause;
      flushed = c.in-Ok-flush.ensures.flushed;
    }

pub returns-in-Err-clause-wrote : goal.returns-in-Err-clause-wrote
returns-in-Err-clause-wrote g c =
    let old : Seen = record { left = g.S.Source.left c.args.source.now; reads = g.S.Source.faults c.args.source.now; held = g.K.Sink.held c.args.sink.now; writes = g.K.Sink.faults c.args.sink.now } in
    let new : Seen = record { left = g.S.Source.left c.read_all.new.source; reads = g.S.Source.faults c.read_all.new.source; held = g.K.Sink.held c.args.sink.now; writes = g.K.Sink.faults c.args.sink.now } in
    read-wrote old new c.in-Err.e refl c.in-Err.ensures.ends

pub returns-in-Err-run_lines-clause-wrote : goal.returns-in-Err-run_lines-clause-wrote
returns-in-Err-run_lines-clause-wrote g c =
    let old : Seen = record { left = g.S.Source.left c.args.source.now; reads = g.S.Source.faults c.args.source.now; held = g.K.Sink.held c.args.sink.now; writes = g.K.Sink.faults c.args.sink.now } in
    let new : Seen = record { left = g.S.Source.left c.read_all.new.source; reads = g.S.Source.faults c.read_all.new.source; held = g.K.Sink.held c.run_lines.new.sink; writes = g.K.Sink.faults c.run_lines.new.sink } in
    let ends = rw c.as_slice.ensures.value at c.in-Err-run_lines.ensures.ends in
    let wrote = rw c.as_slice.ensures.value at c.in-Err-run_lines.ensures.wrote in
    lines-wrote old new c.in-Ok.input.items c.in-Err-run_lines.e c.in-Ok.ensures.all ends wrote

pub returns-clause-wrote : goal.returns-clause-wrote
returns-clause-wrote g c =
    let ran = rw c.as_slice.ensures.value at c.in-Ok-run_lines.ensures.ran in
    (c.in-Ok.input.items, c.in-Ok.ensures.all, flush-wrote c.in-Ok.input.items c.in-Ok-run_lines.log (g.K.Sink.held c.args.sink.now) (g.K.Sink.held c.run_lines.new.sink) (g.K.Sink.held c.flush.new.self) (g.K.Sink.faults c.args.sink.now) (g.K.Sink.faults c.run_lines.new.sink) ran c.in-Err-flush.ensures.bytes)
