use Rattle.std.proofs.Common.{ap, ◌∙◌}
use Rattle.std.proofs.Common.{Some}
use Rattle.mdb_bson.proofs.Texts.{is_text, is_none}
use Rattle.mdb_bson.proofs.text.utf8.Goals as goal

pub returns-in-Ok : goal.returns-in-Ok
returns-in-Ok c = ap Some c.in-Ok.ensures.cases.0 ∙ is_text c.args.bytes.now c.in-Ok.ensures.cases.1

pub returns-in-Err : goal.returns-in-Err
returns-in-Err c = is_none c.args.bytes.now c.in-Err.ensures.cases.0
