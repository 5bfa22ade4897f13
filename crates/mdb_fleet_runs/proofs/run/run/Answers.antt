use Rattle.mdb_fleet_runs.specs.FleetRuns.{Seen}
use Rattle.mdb_fleet_runs.proofs.Between.{flush-fails}
use Rattle.mdb_fleet_runs.proofs.run.run.Goals as goal

pub returns-clause-ended : goal.returns-clause-ended
returns-clause-ended g c =
    let old : Seen = record { left = g.S.Source.left c.args.source.now; reads = g.S.Source.faults c.args.source.now; held = g.K.Sink.held c.args.sink.now; writes = g.K.Sink.faults c.args.sink.now } in
    let new : Seen = record { left = g.S.Source.left c.read_all.new.source; reads = g.S.Source.faults c.read_all.new.source; held = g.K.Sink.held c.flush.new.self; writes = g.K.Sink.faults c.flush.new.self } in
    let ran = rw c.as_slice.ensures.value at c.in-Ok-run_input.ensures.ran in
    flush-fails old new c.in-Ok.input.items c.in-Ok-run_input.log (g.K.Sink.held c.run_input.new.sink) (g.K.Sink.faults c.run_input.new.sink) c.in-Ok.ensures.all ran c.in-Err-flush.ensures.bytes c.in-Err-flush.ensures.cause
