use Rattle.mdb_parts.proofs.PartLemmas.{part_missing, part_found}
use Rattle.mdb_parts.proofs.parts.part.Goals as goal

pub returns-in-None : goal.returns-in-None
returns-in-None c = λ o ps l follows e. part_missing c.args.name.now c.args.text.now o ps c.in-None.ensures e

pub returns-in-Some : goal.returns-in-Some
returns-in-Some c = λ o ps l follows e.
    part_found c.args.name.now c.args.text.now c.in-Some.rest.now c.cut.result.0.now c.cut.result.1.now o ps c.in-Some.ensures c.cut.ensures.front c.cut.ensures.rest l follows e
