use Rattle.mdb_proxy_runs.specs.ProxyRuns.{Seen}
use Rattle.mdb_proxy_runs.proofs.Complete.{completes, names, lengthy}
use Rattle.mdb_proxy_runs.proofs.run.run_proxy.Goals as goal

pub returns-clause-complete : goal.returns-clause-complete
returns-clause-complete g c =
    let old : Seen = record { left = g.S.Source.left c.args.source.now; reads = g.S.Source.faults c.args.source.now; held = g.K.Sink.held c.args.sink.now; writes = g.K.Sink.faults c.args.sink.now } in
    let new : Seen = record { left = g.S.Source.left c.run.new.source; reads = g.S.Source.faults c.run.new.source; held = g.K.Sink.held c.run.new.sink; writes = g.K.Sink.faults c.run.new.sink } in
    λ input left short all read write. completes old new c.run.result input left short all read write c.run.ensures.ended

pub returns-clause-malformed : goal.returns-clause-malformed
returns-clause-malformed g c =
    let old : Seen = record { left = g.S.Source.left c.args.source.now; reads = g.S.Source.faults c.args.source.now; held = g.K.Sink.held c.args.sink.now; writes = g.K.Sink.faults c.args.sink.now } in
    let new : Seen = record { left = g.S.Source.left c.run.new.source; reads = g.S.Source.faults c.run.new.source; held = g.K.Sink.held c.run.new.sink; writes = g.K.Sink.faults c.run.new.sink } in
    λ input number left short bad read write. names old new c.run.result input number left short bad read write c.run.ensures.finished c.run.ensures.ended

pub returns-clause-too_long : goal.returns-clause-too_long
returns-clause-too_long g c =
    let old : Seen = record { left = g.S.Source.left c.args.source.now; reads = g.S.Source.faults c.args.source.now; held = g.K.Sink.held c.args.sink.now; writes = g.K.Sink.faults c.args.sink.now } in
    let new : Seen = record { left = g.S.Source.left c.run.new.source; reads = g.S.Source.faults c.run.new.source; held = g.K.Sink.held c.run.new.sink; writes = g.K.Sink.faults c.run.new.sink } in
    λ input left long read. lengthy old new c.run.result input left long read c.run.ensures.finished c.run.ensures.ended
