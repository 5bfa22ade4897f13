use Rattle.std.proofs.Common.{subst}
use Rattle.mdb_judging.specs.Taking.{TakesFacts}
use Rattle.mdb_judging.proofs.TakenEntry.{took-entry}
use Rattle.mdb_judging.proofs.auditor.Auditor.take_entry.Goals as goal

pub returns : goal.returns
returns c = took-entry c.args.is_balanced c.in_ok-is_fair.is_fair c.args.shown.now c.of_act-change.result c.args.self.now c.take_change.new.self c.take_facts.new.self c.of_act-change.ensures c.in_ok-take_change.ensures (subst (λ f. TakesFacts c.args.is_balanced c.in_ok-is_fair.is_fair f c.take_change.new.self c.take_facts.new.self) c.as_slice.ensures c.in_ok-is_fair.ensures)
