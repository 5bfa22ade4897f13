use Rattle.mdb_slots.proofs.Items.{lists-some, lists-none}
use Rattle.mdb_slots.proofs.slot_table.Slots+Record.contains.Goals as goal

pub returns-in-Some-clause-value : goal.returns-in-Some-clause-value
returns-in-Some-clause-value c = lists-some c.args.self.now.cells c.args.at c.args.self.now.order.used c.in-Some.held.now c.in-Some.ensures.value c.in-Some.ensures.cover

pub returns-in-None-clause-value : goal.returns-in-None-clause-value
returns-in-None-clause-value c = lists-none c.args.self.now.cells c.args.at c.args.self.now.order.used c.in-None.ensures.cover
