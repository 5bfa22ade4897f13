use Rattle.std.proofs.Common.{◌∙◌}
use Rattle.mdb_parts.proofs.ErrorLemmas.{version_cut, version_digits, version_dot}
use Rattle.mdb_parts.proofs.error_reading.version_word.Goals as goal

pub returns-in-Some : goal.returns-in-Some
returns-in-Some c = λ v types rule e.
    let p = version_cut v c.args.word.now e in
    let digits = version_digits v c.args.word.now c.in-Some.digits.now c.cut.result.1.now e c.cut.ensures.rest c.in-Some.ensures in
    c.version_of.ensures v (c.id_word.ensures v.process_id types.process (c.cut.ensures.front ∙ p.0)) (c.signed64.ensures v.counter types.counter rule digits)

pub returns-in-None : goal.returns-in-None
returns-in-None c = λ v types rule e. absurd (version_dot v c.args.word.now c.cut.result.1.now e c.cut.ensures.rest c.in-None.ensures)
