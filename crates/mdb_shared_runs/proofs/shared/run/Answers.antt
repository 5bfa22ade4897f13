use Rattle.std.proofs.Common.{refl}
use Rattle.mdb_runs.specs.Runs.{Seen}
use Rattle.mdb_shared_runs.proofs.Endings.{read_ends, lines_end}
use Rattle.mdb_shared_runs.proofs.shared.run.Goals as goal

pub returns-in-Err-clause-ended : goal.returns-in-Err-clause-ended
returns-in-Err-clause-ended g c =
    let old : Seen = record { left = g.S.Source.left c.args.source.now; reads = g.S.Source.faults c.args.source.now; calls = g.S.Source.calls c.args.source.now; held = g.K.Sink.held c.args.sink.now; writes = g.K.Sink.faults c.args.sink.now } in
    let new : Seen = record { left = g.S.Source.left c.read_all.new.source; reads = g.S.Source.faults c.read_all.new.source; calls = g.S.Source.calls c.read_all.new.source; held = g.K.Sink.held c.args.sink.now; writes = g.K.Sink.faults c.args.sink.now } in
    read_ends c.args.k old new c.in-Err.e refl refl c.in-Err.ensures.ends

pub returns-in-Err-share_input-clause-ended : goal.returns-in-Err-share_input-clause-ended
returns-in-Err-share_input-clause-ended g c =
    let old : Seen = record { left = g.S.Source.left c.args.source.now; reads = g.S.Source.faults c.args.source.now; calls = g.S.Source.calls c.args.source.now; held = g.K.Sink.held c.args.sink.now; writes = g.K.Sink.faults c.args.sink.now } in
    let new : Seen = record { left = g.S.Source.left c.read_all.new.source; reads = g.S.Source.faults c.read_all.new.source; calls = g.S.Source.calls c.read_all.new.source; held = g.K.Sink.held c.args.sink.now; writes = g.K.Sink.faults c.args.sink.now } in
    let none = rw c.as_slice.ensures.value at c.in-Err-share_input.ensures.none in
    lines_end c.args.k old new c.in-Ok.input.items c.in-Err-share_input.e refl refl c.in-Ok.ensures.all none
