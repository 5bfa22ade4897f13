use Rattle.std.proofs.Common.{◌≡◌, ◌∙◌, sym, take, Some, None, arith}
use Rattle.std.proofs.lemmas.Grind.{common_steps}
use Rattle.std.proofs.lemmas.Str.Pattern.{find_char}
use Rattle.mdb_base.proofs.Words.{until_found, until_missing}
use Rattle.mdb_base.proofs.cutting.cut.Goals as goal

pub returns-in-Some-clause-front : goal.returns-in-Some-clause-front
returns-in-Some-clause-front c =
    let h = find_char c.args.at c.args.text.now (Some c.in-Some.place) c.in-Some.ensures.cases c.requires in
    let front : c.range.result.now ≡ take c.in-Some.place c.args.text.now = grind (arith, common_steps) in
    front ∙ sym (until_found c.args.at c.args.text.now c.in-Some.place h.0 h.1 h.2).0

pub returns-in-Some-clause-rest : goal.returns-in-Some-clause-rest
returns-in-Some-clause-rest c =
    let h = find_char c.args.at c.args.text.now (Some c.in-Some.place) c.in-Some.ensures.cases c.requires in
    c.range_from.ensures.value ∙ sym (until_found c.args.at c.args.text.now c.in-Some.place h.0 h.1 h.2).1

pub returns-in-None-clause-front : goal.returns-in-None-clause-front
returns-in-None-clause-front c = sym (until_missing c.args.at c.args.text.now (find_char c.args.at c.args.text.now None c.in-None.ensures.cases c.requires)).0

pub returns-in-None-clause-rest : goal.returns-in-None-clause-rest
returns-in-None-clause-rest c = sym (until_missing c.args.at c.args.text.now (find_char c.args.at c.args.text.now None c.in-None.ensures.cases c.requires)).1
