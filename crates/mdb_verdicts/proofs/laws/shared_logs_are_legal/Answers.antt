use Rattle.std.proofs.Common.{length}
use Rattle.mdb_audit.specs.declared.verdict.Verdict.TheVariants.{Legal}
use Rattle.mdb_lines.specs.LogText.{text_of}
use Rattle.mdb_audit.proofs.LegalTexts.{legal-text}
use Rattle.mdb_audit.proofs.OneVerdict.{one-verdict}
use Rattle.mdb_verdicts.proofs.SharedSteps.{shared-answers, shared-allowed}
use Rattle.mdb_verdicts.proofs.laws.shared_logs_are_legal.Goals as goal

pub returns-clause-legal : goal.returns-clause-legal
returns-clause-legal c = λ k steps allowed s.
    let log = c.args.log.now in
    legal-text log (c.text_shows_log.ensures (shared-answers k steps log s) (shared-allowed k steps log allowed s c.moments_fit.ensures)) s.plain

pub returns-clause-only : goal.returns-clause-only
returns-clause-only c = λ k steps allowed s answer right.
    let log = c.args.log.now in
    one-verdict (text_of log) answer (Legal (length log)) right
    (legal-text log (c.text_shows_log.ensures (shared-answers k steps log s) (shared-allowed k steps log allowed s c.moments_fit.ensures)) s.plain)
