use Rattle.std.proofs.Common.{refl, inl, inr, sym, ◌∙◌}
use Rattle.mdb_lines.specs.declared.run_error.RunError.TheVariants.{Malformed}
use Rattle.mdb_lines.specs.Status.{Told}
use Rattle.mdb_generator.specs.declared.words.ToolCommand.TheVariants.{Make, Script}
use Rattle.mdb_runs.proofs.Complete.{tells_so}
use Rattle.mdb_runs.proofs.Headlines.{error-status, no-make}
use Rattle.mdb_runs.proofs.tool.run_tool.Goals as goal

pub returns-in-Ok-run_made-clause-ends : goal.returns-in-Ok-run_made-clause-ends
returns-in-Ok-run_made-clause-ends g c = (Make c.in-Make.n, c.in-Make.ensures, (refl, refl, refl, inl (refl, c.in-Ok-run_made.ensures, refl)))

pub returns-in-Err-run_made-clause-ends : goal.returns-in-Err-run_made-clause-ends
returns-in-Err-run_made-clause-ends g c = (Make c.in-Make.n, c.in-Make.ensures, (refl, refl, refl, inr (c.in-Err-run_made.e, c.end_with_error-in-Err-run_made.ensures.status, c.in-Err-run_made.ensures, c.end_with_error-in-Err-run_made.ensures.told)))

pub returns-in-Usage-clause-complete : goal.returns-in-Usage-clause-complete
returns-in-Usage-clause-complete g c = λ input steps none left short script read write. absurd (c.in-Usage.ensures Script (rw none refl))

pub returns-in-Ok-clause-malformed : goal.returns-in-Ok-clause-malformed
returns-in-Ok-clause-malformed g c = λ input number none left short found read write. absurd (c.in-Ok.ensures.malformed input number left short found read write)

pub returns-in-Err-clause-malformed : goal.returns-in-Err-clause-malformed
returns-in-Err-clause-malformed g c =
    let old : Told = record { held = g.E.Sink.held c.args.errors.now; faults = g.E.Sink.faults c.args.errors.now } in
    let new : Told = record { held = g.E.Sink.held c.end_with_error.new.errors; faults = g.E.Sink.faults c.end_with_error.new.errors } in
    λ input number none left short found read write. tells_so (Malformed number) c.in-Err.e old new c.end_with_error.result c.end_with_error.ensures.status c.end_with_error.ensures.told (c.in-Err.ensures.malformed input number left short found read write)

pub returns-in-Usage-clause-malformed : goal.returns-in-Usage-clause-malformed
returns-in-Usage-clause-malformed g c = λ input number none left short found read write. absurd (c.in-Usage.ensures Script (rw none refl))

pub returns-in-Usage-clause-too_long : goal.returns-in-Usage-clause-too_long
returns-in-Usage-clause-too_long g c = λ input none left long read. absurd (c.in-Usage.ensures Script (rw none refl))

pub returns-in-Err-clause-headline : goal.returns-in-Err-clause-headline
returns-in-Err-clause-headline g c = λ none good. absurd (error-status c.in-Err.e (sym c.end_with_error.ensures.status ∙ good))

pub returns-in-Ok-run_made-clause-headline : goal.returns-in-Ok-run_made-clause-headline
returns-in-Ok-run_made-clause-headline g c = λ none good. absurd (no-make (λ w. w.now) c.args.words.now c.in-Make.n c.in-Make.ensures none)

pub returns-in-Err-run_made-clause-headline : goal.returns-in-Err-run_made-clause-headline
returns-in-Err-run_made-clause-headline g c = λ none good. absurd (no-make (λ w. w.now) c.args.words.now c.in-Make.n c.in-Make.ensures none)

pub returns-in-Usage-clause-headline : goal.returns-in-Usage-clause-headline
returns-in-Usage-clause-headline g c = λ none good. absurd (c.in-Usage.ensures Script (rw none refl))
