use Rattle.mdb_recording_runs.proofs.Ending.{flush-failed}
use Rattle.mdb_recording_runs.proofs.tool.put.Goals as goal

pub returns-in-Err-flush : goal.returns-in-Err-flush
returns-in-Err-flush g c =
    flush-failed (g.K.Sink.held c.args.sink.now) (g.K.Sink.held c.write_all.new.sink) (g.K.Sink.held c.flush.new.self) c.args.text.now (g.K.Sink.faults c.args.sink.now) (g.K.Sink.faults c.write_all.new.sink) (g.K.Sink.faults c.flush.new.self)
    c.in-Ok.ensures.bytes c.in-Err-flush.ensures.bytes c.in-Ok.ensures.cause c.in-Err-flush.ensures.cause
