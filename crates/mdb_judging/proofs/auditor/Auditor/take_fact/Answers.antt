use Rattle.mdb_judging.proofs.TakenFacts.{took-fact}
use Rattle.mdb_judging.proofs.auditor.Auditor.take_fact.Goals as goal

pub returns : goal.returns
returns c = took-fact c.args.is_balanced c.in_ok-is_fair.is_fair c.args.fact.now c.of_fact.result c.args.self.now c.take_change.new.self c.is_fair.new.queues c.note.new.self c.in_ok-is_fair.ensures.answer c.in_ok-is_fair.ensures.kept (record { says = c.of_fact.ensures; homes = c.in_ok-note.ensures; taken = c.in_ok-take_change.ensures })
