use Rattle.std.proofs.Common.{Some, ap}
use Rattle.std.specs.Int.{w32}
use Rattle.mdb_parts.proofs.TextLemmas.{signed_given, signed_refused, short_32}
use Rattle.mdb_parts.proofs.words.signed32.Goals as goal

pub returns-in-Ok : goal.returns-in-Ok
returns-in-Ok c = λ z fits e. ap Some (signed_given w32 z c.in-Ok.number c.args.word.now fits (short_32 z fits) e c.in-Ok.ensures.value.0)

pub returns-in-Err : goal.returns-in-Err
returns-in-Err c = λ z fits e. absurd (signed_refused w32 z c.args.word.now fits (short_32 z fits) e c.in-Err.ensures.value.0)
