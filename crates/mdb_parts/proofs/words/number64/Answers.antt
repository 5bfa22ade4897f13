use Rattle.std.proofs.Common.{Some, ap}
use Rattle.mdb_parts.proofs.TextLemmas.{number_given, number_refused}
use Rattle.mdb_parts.proofs.words.number64.Goals as goal

pub returns-in-Ok : goal.returns-in-Ok
returns-in-Ok c = λ n fits e. ap Some (number_given 64 n c.in-Ok.number c.args.word.now fits fits e c.in-Ok.ensures.value.0)

pub returns-in-Err : goal.returns-in-Err
returns-in-Err c = λ n fits e. absurd (number_refused 64 n c.args.word.now fits fits e c.in-Err.ensures.value.0)
