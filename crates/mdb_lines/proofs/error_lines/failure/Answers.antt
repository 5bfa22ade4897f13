use Rattle.std.proofs.Common.{refl}
use Rattle.mdb_parts.proofs.Wanting.{handed_on}
use Rattle.mdb_lines.proofs.FailureLemmas.{early_found, late_found}
use Rattle.mdb_lines.proofs.error_lines.failure.Goals as goal

pub returns-in_err-error-in-Some : goal.returns-in_err-error-in-Some
returns-in_err-error-in-Some c = λ at e times types rule text.
    let f = early_found at e c.args.text.now c.in-Some.rest.now c.in-Some.ensures text in
    handed_on _ c.from_residual.result c.in_err-error-in-Some.field-0.0 (c.in_err-error-in-Some.ensures e types rule f.1) c.from_residual.ensures.1

pub returns-in_ok-error-in-Some : goal.returns-in_ok-error-in-Some
returns-in_ok-error-in-Some c = λ at e times types rule text.
    let f = early_found at e c.args.text.now c.in-Some.rest.now c.in-Some.ensures text in
    rw (f.0, c.in_ok-error-in-Some.ensures e types rule f.1) refl

pub returns-in-None : goal.returns-in-None
returns-in-None c = λ at e times types rule text.
    let f = late_found at e c.args.text.now times c.in-None.ensures text in
    rw (f.is) (c.late.ensures f.service e f.types types rule f.text_is)
