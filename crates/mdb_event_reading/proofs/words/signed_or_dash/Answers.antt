use Rattle.mdb_event_reading.proofs.OfSdam.WordLemmas.{signed_dash}
use Rattle.mdb_event_reading.proofs.words.signed_or_dash.Goals as goal

pub returns-then-eq : goal.returns-then-eq
returns-then-eq c = λ o h same. signed_dash o c.args.word.now h same c.if-eq.ensures
