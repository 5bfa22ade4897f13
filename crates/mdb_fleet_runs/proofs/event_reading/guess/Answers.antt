use Rattle.mdb_lines.proofs.Lines.{is_text}
use Rattle.mdb_fleet_runs.proofs.Spelled.{event-read}
use Rattle.mdb_fleet_runs.proofs.event_reading.guess.Goals as goal

pub returns-in-Ok-clause-only : goal.returns-in-Ok-clause-only
returns-in-Ok-clause-only c = λ e h. event-read c.args.line.now e c.read_text.result h (rw c.in-Ok.ensures.cases.0 at c.read_text.ensures)

pub returns-in-Err-clause-only : goal.returns-in-Err-clause-only
returns-in-Err-clause-only c = λ e h. absurd (c.in-Err.ensures.cases.0 (is_text c.args.line.now h.printable))
