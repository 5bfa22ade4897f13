use Rattle.std.proofs.Common.{◌<◌, ◌^◌, Some, ap, arith}
use Rattle.mdb_parts.proofs.TextLemmas.{number_given, number_refused}
use Rattle.mdb_parts.proofs.words.number32.Goals as goal

pub returns-in-Ok : goal.returns-in-Ok
returns-in-Ok c = λ n fits e. let wide : n < 2 ^ 64 = omega arith in ap Some (number_given 32 n c.in-Ok.number c.args.word.now fits wide e c.in-Ok.ensures.value.0)

pub returns-in-Err : goal.returns-in-Err
returns-in-Err c = λ n fits e. let wide : n < 2 ^ 64 = omega arith in absurd (number_refused 32 n c.args.word.now fits wide e c.in-Err.ensures.value.0)
