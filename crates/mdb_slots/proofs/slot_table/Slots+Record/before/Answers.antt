use Rattle.std.proofs.Common.{sym, None}
use Rattle.mdb_slots.proofs.Items.{listed, member-previous, older-items, older-absent}
use Rattle.mdb_slots.proofs.slot_table.Slots+Record.before.Goals as goal

pub returns-then-not-contains-clause-value : goal.returns-then-not-contains-clause-value
returns-then-not-contains-clause-value c = sym (older-absent None c.args.at _ (sym c.if-not-contains.ensures.value))

pub previous-previous-requires-clause-member : goal.previous-previous-requires-clause-member
previous-previous-requires-clause-member c = (listed _ c.args.at _ (sym c.if-not-contains.ensures.value)).0

pub named-requires-clause-member : goal.named-requires-clause-member
named-requires-clause-member c = rw c.previous-previous.ensures.value (member-previous c.args.at.slot c.args.self.now.order.used)

pub returns-clause-value : goal.returns-clause-value
returns-clause-value c = rw (c.named.ensures.value, c.previous-previous.ensures.value) (sym (older-items c.args.self.now.cells c.args.at None c.args.self.now.order.used (listed _ c.args.at _ (sym c.if-not-contains.ensures.value)).1))
