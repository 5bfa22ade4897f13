use Rattle.std.proofs.Common.{◌++◌}
use Rattle.mdb_parts.proofs.TextLemmas.{field_is, field_there}
use Rattle.mdb_parts.proofs.words.field.Goals as goal

pub returns-in-Some : goal.returns-in-Some
returns-in-Some c = λ word rest l follows e.
    field_is c.args.name.now c.args.text.now word rest c.in-Some.rest.now c.cut.result.0.now c.cut.result.1.now c.in-Some.ensures c.cut.ensures.front c.cut.ensures.rest l follows e

pub returns-in-None : goal.returns-in-None
returns-in-None c = λ word rest l follows e. absurd (field_there c.args.name.now c.args.text.now (word ++ rest) c.in-None.ensures e)
