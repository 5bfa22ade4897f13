use Rattle.std.proofs.Common.{sym}
use Rattle.mdb_slots.proofs.Items.{listed, items-taken, dropped-absent}
use Rattle.mdb_slots.proofs.slot_table.Slots+Record.remove.Goals as goal

pub returns-then-not-contains-clause-items : goal.returns-then-not-contains-clause-items
returns-then-not-contains-clause-items c = sym (dropped-absent c.args.at _ (sym c.if-not-contains.ensures.value))

pub take-requires-clause-member : goal.take-requires-clause-member
take-requires-clause-member c = (listed _ c.args.at _ (sym c.if-not-contains.ensures.value)).0

pub returns-clause-items : goal.returns-clause-items
returns-clause-items c =
    rw (c.take.ensures.used, c.take.ensures.cells) (items-taken c.args.self.now.cells c.args.at c.args.self.now.order.used (listed _ c.args.at _ (sym c.if-not-contains.ensures.value)).1)
