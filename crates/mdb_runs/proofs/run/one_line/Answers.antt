use Rattle.std.proofs.Common.{◌∙◌, sym}
use Rattle.mdb_runs.proofs.Taken.{taken}
use Rattle.mdb_runs.proofs.Stepping.{line_runs}
use Rattle.mdb_runs.proofs.run.one_line.Goals as goal

pub one_step-answer-requires-clause-taken : goal.one_step-answer-requires-clause-taken
one_step-answer-requires-clause-taken g c = taken c.args.number c.args.line.now c.args.log.now c.in-Ok.step c.in-Ok.ensures.found (sym (c.may_come.ensures c.args.log.now c.requires.stands) ∙ c.if-not-may_come.false)

pub returns-clause-runs : goal.returns-clause-runs
returns-clause-runs g c = line_runs c.args.number c.in-Ok.step c.args.line.now c.args.log.now c.one_step-answer.new.log _ _ _ _ c.one_step-answer.result (c.in-Ok.ensures.found, sym (c.may_come.ensures c.args.log.now c.requires.stands) ∙ c.if-not-may_come.false) c.one_step-answer.ensures.runs
