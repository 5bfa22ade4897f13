use Rattle.mdb_lines.proofs.Lines.{step_read, is_text}
use Rattle.mdb_lines.proofs.line_reading.guess.Goals as goal

pub returns-in-Ok-clause-only : goal.returns-in-Ok-clause-only
returns-in-Ok-clause-only c = λ s h.
    step_read c.args.number c.args.line.now s c.read_text.result h (rw c.in-Ok.ensures.cases.0 at c.read_text.ensures)

pub returns-in-Err-clause-only : goal.returns-in-Err-clause-only
returns-in-Err-clause-only c = λ s h. absurd (c.in-Err.ensures.cases.0 (is_text c.args.line.now h.printable))
