use Rattle.mdb_event_reading.proofs.DashLemmas.{narrow_dash, is_dash}
use Rattle.mdb_event_reading.proofs.dashes.narrow_or_dash.Goals as goal

pub returns-then-eq : goal.returns-then-eq
returns-then-eq c = λ o fits same. narrow_dash o c.args.word.now fits same (is_dash c.args.word.now c.if-eq.ensures)
