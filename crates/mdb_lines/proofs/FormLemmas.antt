-- The rules of a line, as reading needs them.
use Rattle.std.proofs.Common.{◌≡◌, true, Option, Some, None, IfSome, ℤ, pos, int_le, FitsSigned}
use Rattle.std.specs.Int.{w64}
use Rattle.std.proofs.lemmas.Bool.{and_parts}
use Rattle.mdb_log.specs.declared.step.Established.{Established}
use Rattle.mdb_lines.specs.Grammar.{is_established, is_not_negative}
use Rattle.mdb_lines.specs.Types.{IsEstablishedOfTypes}

not_negative_fits : (o : Option ℤ) → IfSome o (FitsSigned w64) → is_not_negative o ≡ true → IfSome o (λ z. FitsSigned w64 z × (int_le (pos 0) z ≡ true))
not_negative_fits None fits h = tt
not_negative_fits (Some z) fits h = (fits, h)

pub server_fits : (e : Established) → IsEstablishedOfTypes e → is_established e ≡ true → IfSome e.server_id (λ z. FitsSigned w64 z × (int_le (pos 0) z ≡ true))
server_fits e types rules = not_negative_fits e.server_id types.server (and_parts (int_le (pos 0) e.wire) (is_not_negative e.server_id) rules).1
