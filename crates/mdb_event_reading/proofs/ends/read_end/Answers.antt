use Rattle.mdb_event_reading.proofs.EndLemmas.{end_read}
use Rattle.mdb_event_reading.proofs.ends.read_end.Goals as goal

pub returns : goal.returns
returns c = λ e types rules same. end_read e c.read_named.result types rules (rw same at c.read_named.ensures)
