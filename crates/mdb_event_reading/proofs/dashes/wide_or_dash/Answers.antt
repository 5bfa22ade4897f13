use Rattle.mdb_event_reading.proofs.DashLemmas.{wide_dash, is_dash}
use Rattle.mdb_event_reading.proofs.dashes.wide_or_dash.Goals as goal

pub returns-then-eq : goal.returns-then-eq
returns-then-eq c = λ o fits same. wide_dash o c.args.word.now fits same (is_dash c.args.word.now c.if-eq.ensures)
