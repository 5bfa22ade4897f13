use Rattle.mdb_event_reading.proofs.OfSdam.SdamLemmas.{sdam_read}
use Rattle.mdb_event_reading.proofs.sdam_reading.read_sdam.Goals as goal

pub returns : goal.returns
returns c = λ e own same. sdam_read e c.read_named.result own (rw same at c.read_named.ensures)
