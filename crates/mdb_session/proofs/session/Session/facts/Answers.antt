use Rattle.std.proofs.Common.{◌≡◌, ◌<◌, List, length, ◌∙◌, ap, sym, refl, subst, arith}
use Rattle.std.proofs.lemmas.List.{length-map}
use Rattle.mdb_log.specs.History.{history_of}
use Rattle.mdb_session.specs.Facts.{fact_numbers, server_number, told_facts}
use Rattle.mdb_session.specs.declared.fact_numbers.FactNumbers.{FactNumbers}
use Rattle.mdb_session.proofs.Filled.{unfitting}
use Rattle.mdb_session.proofs.session.Session.facts.Goals as goal

pub returns-else-count-out : goal.returns-else-count-out
returns-else-count-out c =
    let told : List FactNumbers = told_facts (history_of c.args.self.now) c.last.result.now.facts in
    let same : length c.as_slice-facts.result.now ≡ length told = ap length c.as_slice-facts.ensures ∙ sym (length-map c.last.result.now.facts (fact_numbers (server_number (history_of c.args.self.now) c.last.result.now.facts))) in
    let small : length c.args.out.now < length c.as_slice-facts.result.now = omega arith in
    (told, (c.last.result.now, c.last.ensures.last, refl), same, unfitting told c.args.out.now (subst (λ n. length c.args.out.now < n) same small))
