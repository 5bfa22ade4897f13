use Rattle.std.proofs.Common.{◌∙◌, ap}
use Rattle.mdb_base.specs.AddressReading.{after}
use Rattle.mdb_base.proofs.Words.{after_here}
use Rattle.mdb_parts.proofs.TextLemmas.{field_there}
use Rattle.mdb_parts.proofs.words.last.Goals as goal

pub returns-in-Some : goal.returns-in-Some
returns-in-Some c = λ word e.
    let same = c.in-Some.ensures ∙ ap (after c.args.name.now) e ∙ after_here c.args.name.now word in cc

pub returns-in-None : goal.returns-in-None
returns-in-None c = λ word e. absurd (field_there c.args.name.now c.args.text.now word c.in-None.ensures e)
