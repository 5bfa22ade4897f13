use Rattle.mdb_shared_runs.proofs.Endings.{whole_front, rose_past}
use Rattle.mdb_shared_runs.proofs.shared.write_text.Goals as goal

pub returns-in-Err-flush : goal.returns-in-Err-flush
returns-in-Err-flush g c = (
  whole_front (g.K.Sink.held c.args.sink.now) (g.K.Sink.held c.write_all.new.sink) (g.K.Sink.held c.flush.new.self) c.args.text.now c.in-Ok.ensures.bytes c.in-Err-flush.ensures.bytes,
  rose_past (g.K.Sink.faults c.args.sink.now) (g.K.Sink.faults c.write_all.new.sink) (g.K.Sink.faults c.flush.new.self) c.in-Ok.ensures.cause c.in-Err-flush.ensures.cause,
)
