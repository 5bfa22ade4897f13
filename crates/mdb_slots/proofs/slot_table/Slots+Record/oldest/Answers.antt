use Rattle.std.proofs.Common.{sym}
use Rattle.mdb_slots.proofs.Items.{member-head, oldest-items}
use Rattle.mdb_slots.proofs.slot_table.Slots+Record.oldest.Goals as goal

pub named-requires-clause-member : goal.named-requires-clause-member
named-requires-clause-member c = rw c.first.ensures (member-head c.args.self.now.order.used)

pub returns-clause-value : goal.returns-clause-value
returns-clause-value c = rw (c.named.ensures.value, c.first.ensures) (sym (oldest-items c.args.self.now.cells c.args.self.now.order.used))
