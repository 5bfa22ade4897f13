use Rattle.std.proofs.Common.{Some, ap}
use Rattle.std.specs.Int.{w64}
use Rattle.mdb_parts.proofs.TextLemmas.{signed_given, signed_refused, short_64}
use Rattle.mdb_parts.proofs.words.signed64.Goals as goal

pub returns-in-Ok : goal.returns-in-Ok
returns-in-Ok c = λ z fits above e. ap Some (signed_given w64 z c.in-Ok.number c.args.word.now fits (short_64 z fits above) e c.in-Ok.ensures.value.0)

pub returns-in-Err : goal.returns-in-Err
returns-in-Err c = λ z fits above e. absurd (signed_refused w64 z c.args.word.now fits (short_64 z fits above) e c.in-Err.ensures.value.0)
