use Rattle.mdb_event_reading.proofs.DashLemmas.{service_dash, is_dash}
use Rattle.mdb_event_reading.proofs.dashes.service_or_dash.Goals as goal

pub returns-then-eq : goal.returns-then-eq
returns-then-eq c = λ o types same. service_dash o c.args.word.now same (is_dash c.args.word.now c.if-eq.ensures)
