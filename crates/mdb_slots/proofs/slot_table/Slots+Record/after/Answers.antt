use Rattle.std.proofs.Common.{sym}
use Rattle.mdb_slots.proofs.Items.{listed, member-next, newer-items, newer-absent}
use Rattle.mdb_slots.proofs.slot_table.Slots+Record.after.Goals as goal

pub returns-then-not-contains-clause-value : goal.returns-then-not-contains-clause-value
returns-then-not-contains-clause-value c = sym (newer-absent c.args.at _ (sym c.if-not-contains.ensures.value))

pub next-next-requires-clause-member : goal.next-next-requires-clause-member
next-next-requires-clause-member c = (listed _ c.args.at _ (sym c.if-not-contains.ensures.value)).0

pub named-requires-clause-member : goal.named-requires-clause-member
named-requires-clause-member c = rw c.next-next.ensures.value (member-next c.args.at.slot c.args.self.now.order.used)

pub returns-clause-value : goal.returns-clause-value
returns-clause-value c = rw (c.named.ensures.value, c.next-next.ensures.value) (sym (newer-items c.args.self.now.cells c.args.at c.args.self.now.order.used (listed _ c.args.at _ (sym c.if-not-contains.ensures.value)).1))
