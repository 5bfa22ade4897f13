use Rattle.std.proofs.Common.{None, sym}
use Rattle.mdb_slots.proofs.Items.{member-last, newest-items}
use Rattle.mdb_slots.proofs.slot_table.Slots+Record.newest.Goals as goal

pub named-requires-clause-member : goal.named-requires-clause-member
named-requires-clause-member c = rw c.last.ensures (member-last c.args.self.now.order.used)

pub returns-clause-value : goal.returns-clause-value
returns-clause-value c = rw (c.named.ensures.value, c.last.ensures) (sym (newest-items c.args.self.now.cells None c.args.self.now.order.used))
