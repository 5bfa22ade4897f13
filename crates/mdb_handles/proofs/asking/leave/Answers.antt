use Rattle.std.proofs.Common.{◌∙◌}
use Rattle.std.specs.Prelude.{⊤}
use Rattle.mdb_handles.proofs.Questions.{left_refused}
use Rattle.mdb_handles.proofs.asking.leave.Goals as goal

pub returns-in-Ok-Done-clause-left : goal.returns-in-Ok-Done-clause-left
returns-in-Ok-Done-clause-left g c = let one = c.in-Ok-Done.ensures.ok in (one.0, one.3, one.1, (one.1, one.2 ∙ c.in-Ok-Done.field-0-is))

pub returns-in-Ok-Ended-clause-left : goal.returns-in-Ok-Ended-clause-left
returns-in-Ok-Ended-clause-left g c = let one = c.in-Ok-Ended.ensures.ok in (one.0, one.3, one.1, one.2 ∙ c.in-Ok-Ended.field-0-is)

pub returns-in-Ok-Refused-clause-left : goal.returns-in-Ok-Refused-clause-left
returns-in-Ok-Refused-clause-left g c = left_refused g.C.Core.stands ⊤ c.args.request c.args.seat.now c.let_go.new.seat c.refusal.new.seat _ c.in-Ok-Refused.why c.refusal.result c.in-Ok-Refused.ensures.ok c.in-Ok-Refused.field-0-is c.refusal.ensures.saw c.refusal.ensures.told
