use Rattle.mdb_slots.proofs.Items.{items-brought}
use Rattle.mdb_slots.proofs.slot_table.Slots+Record.push.Goals as goal

pub returns-clause-items : goal.returns-clause-items
returns-clause-items c =
    rw (c.bring-slot.ensures.used, c.bring-slot.ensures.cells) (items-brought c.args.self.now.cells c.bring-slot.result _ c.args.self.now.order.used c.bring-slot.ensures.new c.bring-slot.ensures.cell)
