use Rattle.std.proofs.Common.{refl}
use Rattle.mdb_lines.proofs.Lines.{is_text}
use Rattle.mdb_proxy_runs.proofs.run.text_of.Goals as goal

pub returns-in-Err-clause-none : goal.returns-in-Err-clause-none
returns-in-Err-clause-none c = (refl, λ h. c.in-Err.ensures.cases.0 (is_text c.args.line.now h))
