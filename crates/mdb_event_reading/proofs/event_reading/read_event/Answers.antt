use Rattle.mdb_event_reading.proofs.EventLemmas.{event_read}
use Rattle.mdb_event_reading.proofs.event_reading.read_event.Goals as goal

pub returns : goal.returns
returns c = λ e types rules same. event_read e c.read_named.result types rules (rw same at c.read_named.ensures)
