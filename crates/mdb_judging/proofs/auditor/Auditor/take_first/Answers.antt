use Rattle.std.proofs.Common.{sym, ap, ◌∙◌}
use Rattle.mdb_log.specs.declared.step.Act.TheVariants.{Open}
use Rattle.mdb_judging.specs.Shown.{entry_of}
use Rattle.mdb_judging.proofs.LegalOn.{opens-refused}
use Rattle.mdb_judging.proofs.auditor.Auditor.take_first.Goals as goal

pub returns-then-is_refused : goal.returns-then-is_refused
returns-then-is_refused c = λ audits. opens-refused c.args.shown.now.step.act (entry_of c.args.shown.now) (sym c.is_refused.ensures ∙ c.if-is_refused.true)

pub returns-in-Open : goal.returns-in-Open
returns-in-Open c = λ audits. c.open.ensures (c.in-Open.is ∙ ap Open (sym c.get.ensures)) (sym c.is_refused.ensures ∙ c.if-is_refused.false) audits
