use Rattle.std.proofs.Common.{[], length, sym, subst}
use Rattle.mdb_audit.specs.declared.verdict.Verdict.TheVariants.{Legal}
use Rattle.mdb_lines.specs.LogText.{text_of}
use Rattle.mdb_driver_rules.specs.Lines.{steps_of}
use Rattle.mdb_laws.specs.Answers.{AreAnswers}
use Rattle.mdb_laws.proofs.OfTelling.Logs.{steps-answered}
use Rattle.mdb_audit.proofs.LegalTexts.{legal-text}
use Rattle.mdb_audit.proofs.OneVerdict.{one-verdict}
use Rattle.mdb_verdicts.proofs.laws.run_logs_are_legal.Goals as goal

pub returns-clause-legal : goal.returns-clause-legal
returns-clause-legal c = λ input held new_held faults new_faults ran.
    let log = c.args.log.now in
    legal-text log (c.text_shows_log.ensures (subst (AreAnswers []) (sym ran.answers) (steps-answered (steps_of log))) ran.begins.allowed) ran.plain

pub returns-clause-only : goal.returns-clause-only
returns-clause-only c = λ input held new_held faults new_faults ran answer right.
    let log = c.args.log.now in
    one-verdict (text_of log) answer (Legal (length log)) right (legal-text log (c.text_shows_log.ensures (subst (AreAnswers []) (sym ran.answers) (steps-answered (steps_of log))) ran.begins.allowed) ran.plain)
