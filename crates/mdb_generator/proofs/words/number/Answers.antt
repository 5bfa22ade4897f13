use Rattle.std.proofs.Common.{◌≡◌, ◌<◌, ◌^◌, Some, ap, sym, ◌∙◌, arith, decimal}
use Rattle.std.proofs.lemmas.Slice.Eq.{bytes_eq-Decides}
use Rattle.mdb_parts.proofs.TextLemmas.{number_given, number_refused}
use Rattle.mdb_generator.proofs.words.number.Goals as goal

pub returns-in-Err-clause-all : goal.returns-in-Err-clause-all
returns-in-Err-clause-all c = λ n fits e. let wide : n < 2 ^ 64 = omega arith in absurd (number_refused 32 n c.args.word.now fits wide e c.in-Err.ensures.value.0)

pub returns-then-eq-clause-all : goal.returns-then-eq-clause-all
returns-then-eq-clause-all c = λ n fits e. let wide : n < 2 ^ 64 = omega arith in ap Some (number_given 32 n c.in-Ok.number c.args.word.now fits wide e c.in-Ok.ensures.value.0)

pub returns-else-eq-clause-all : goal.returns-else-eq-clause-all
returns-else-eq-clause-all c = λ n fits e.
    let wide : n < 2 ^ 64 = omega arith in
    let same = number_given 32 n c.in-Ok.number c.args.word.now fits wide e c.in-Ok.ensures.value.0 in
    let text : c.format.result.now ≡ c.args.word.now = c.format.ensures.text ∙ (ap decimal same ∙ sym e) in
    let yes = (bytes_eq-Decides c.format.result.now c.args.word.now).1 text in
    let no = c.if-eq.ensures in
    absurd (cc)
