use Rattle.mdb_runs.specs.Runs.{Seen}
use Rattle.mdb_runs.proofs.Headlines.{ok-headline}
use Rattle.mdb_runs.proofs.Complete.{completes, names, lengthy}
use Rattle.mdb_runs.proofs.run.run_script.Goals as goal

pub returns-clause-headline : goal.returns-clause-headline
returns-clause-headline g c =
    let old : Seen = record { left = g.S.Source.left c.args.source.now; reads = g.S.Source.faults c.args.source.now; calls = g.S.Source.calls c.args.source.now; held = g.K.Sink.held c.args.sink.now; writes = g.K.Sink.faults c.args.sink.now } in
    let new : Seen = record { left = g.S.Source.left c.run.new.source; reads = g.S.Source.faults c.run.new.source; calls = g.S.Source.calls c.run.new.source; held = g.K.Sink.held c.run.new.sink; writes = g.K.Sink.faults c.run.new.sink } in
    ok-headline old new c.run.result c.run.ensures.finished

pub returns-clause-complete : goal.returns-clause-complete
returns-clause-complete g c =
    let old : Seen = record { left = g.S.Source.left c.args.source.now; reads = g.S.Source.faults c.args.source.now; calls = g.S.Source.calls c.args.source.now; held = g.K.Sink.held c.args.sink.now; writes = g.K.Sink.faults c.args.sink.now } in
    let new : Seen = record { left = g.S.Source.left c.run.new.source; reads = g.S.Source.faults c.run.new.source; calls = g.S.Source.calls c.run.new.source; held = g.K.Sink.held c.run.new.sink; writes = g.K.Sink.faults c.run.new.sink } in
    λ input steps left short script read write. completes old new c.run.result input steps left short script read write c.run.ensures.finished c.run.ensures.ended

pub returns-clause-malformed : goal.returns-clause-malformed
returns-clause-malformed g c =
    let old : Seen = record { left = g.S.Source.left c.args.source.now; reads = g.S.Source.faults c.args.source.now; calls = g.S.Source.calls c.args.source.now; held = g.K.Sink.held c.args.sink.now; writes = g.K.Sink.faults c.args.sink.now } in
    let new : Seen = record { left = g.S.Source.left c.run.new.source; reads = g.S.Source.faults c.run.new.source; calls = g.S.Source.calls c.run.new.source; held = g.K.Sink.held c.run.new.sink; writes = g.K.Sink.faults c.run.new.sink } in
    λ input number left short found read write. names old new c.run.result input number left short found read write c.run.ensures.finished c.run.ensures.ended

pub returns-clause-too_long : goal.returns-clause-too_long
returns-clause-too_long g c =
    let old : Seen = record { left = g.S.Source.left c.args.source.now; reads = g.S.Source.faults c.args.source.now; calls = g.S.Source.calls c.args.source.now; held = g.K.Sink.held c.args.sink.now; writes = g.K.Sink.faults c.args.sink.now } in
    let new : Seen = record { left = g.S.Source.left c.run.new.source; reads = g.S.Source.faults c.run.new.source; calls = g.S.Source.calls c.run.new.source; held = g.K.Sink.held c.run.new.sink; writes = g.K.Sink.faults c.run.new.sink } in
    λ input left long read. lengthy old new c.run.result input left long read c.run.ensures.finished c.run.ensures.ended
