use Rattle.std.proofs.Common.{sym, ◌∙◌}
use Rattle.mdb_judging.specs.Shown.{entry_of}
use Rattle.mdb_judging.proofs.LegalOn.{next-taken, next-refused}
use Rattle.mdb_judging.proofs.auditor.Auditor.take_next.Goals as goal

pub returns-then-is_refused : goal.returns-then-is_refused
returns-then-is_refused c = λ before legal once audits has. next-refused before (entry_of c.args.shown.now) c.args.options.now c.args.self.now legal once audits has (sym c.is_refused.ensures ∙ c.if-is_refused.true)

pub returns : goal.returns
returns c = λ before legal once audits has. next-taken c.args.options.now before (entry_of c.args.shown.now) c.in_ok-why.why c.args.self.now c.fault.new.self legal once audits has (sym c.is_refused.ensures ∙ c.if-is_refused.false) c.in_ok-why.ensures
