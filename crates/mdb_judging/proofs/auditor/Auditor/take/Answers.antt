use Rattle.mdb_judging.specs.Shown.{entry_of}
use Rattle.mdb_judging.proofs.LegalOn.{first-of, options-of}
use Rattle.mdb_judging.proofs.auditor.Auditor.take.Goals as goal

pub returns-in-None : goal.returns-in-None
returns-in-None c = λ before legal once audits. first-of before c.args.self.now.options (entry_of c.args.shown.now) c.args.self.now c.take_first.new.self c.take_first.result audits.options c.in-None.is audits c.take_first.ensures

pub returns-in-Some : goal.returns-in-Some
returns-in-Some c = λ before legal once audits. c.take_next.ensures before legal once audits (options-of before c.args.self.now.options c.in-Some.options audits.options c.in-Some.is)
