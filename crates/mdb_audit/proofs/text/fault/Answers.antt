use Rattle.mdb_audit.proofs.Texts.{line-taken}
use Rattle.mdb_audit.proofs.text.fault.Goals as goal

pub returns-in-Some : goal.returns-in-Some
returns-in-Some c = line-taken c.args.number c.args.line.now c.in_ok-found.found c.in-Some.shown c.args.auditor.now c.take-answer.new.self c.take-answer.result c.in_ok-found.ensures c.in-Some.is c.take-answer.ensures
