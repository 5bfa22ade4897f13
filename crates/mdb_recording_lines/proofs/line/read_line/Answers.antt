use Rattle.std.proofs.Common.{◌∙◌}
use Rattle.json.specs.Value.{value_view}
use Rattle.mdb_recording_lines.proofs.Texts.{not-text, value-said}
use Rattle.mdb_recording_lines.proofs.line.read_line.Goals as goal

pub returns-in-Err : goal.returns-in-Err
returns-in-Err c = not-text c.args.line.now c.in-Err.ensures.cases.0

pub returns-in-Ok-parse : goal.returns-in-Ok-parse
returns-in-Ok-parse c = c.object_from-line.ensures ∙ value-said c.args.line.now c.in-Ok.text.now (value_view c.in-Ok-parse.object) c.in-Ok.ensures.cases.0 c.in-Ok.ensures.cases.1 c.in-Ok-parse.ensures.ok
