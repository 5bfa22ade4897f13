use Rattle.std.proofs.Common.{◌∙◌, sym}
use Rattle.mdb_lines.proofs.FailureLemmas.{service_missing, service_found}
use Rattle.mdb_lines.proofs.error_lines.service.Goals as goal

pub returns-in-None : goal.returns-in-None
returns-in-None c = λ o e types text. service_missing o e c.args.text.now c.in-None.ensures text

pub returns-in-Some : goal.returns-in-Some
returns-in-Some c = λ o e types text.
    let f = service_found o e c.args.text.now c.in-Some.rest.now c.cut.result.0.now c.cut.result.1.now types c.in-Some.ensures c.cut.ensures.front c.cut.ensures.rest text in
    (c.id_word.ensures f.id f.types f.before ∙ sym f.is, f.behind)
