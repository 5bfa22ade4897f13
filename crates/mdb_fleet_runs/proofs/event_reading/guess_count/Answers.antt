use Rattle.mdb_lines.proofs.Lines.{is_text}
use Rattle.mdb_fleet_runs.proofs.event_reading.guess_count.Goals as goal

pub returns-in-Err-clause-only : goal.returns-in-Err-clause-only
returns-in-Err-clause-only c = λ n h. absurd (c.in-Err.ensures.cases.0 (is_text c.args.line.now h.printable))
