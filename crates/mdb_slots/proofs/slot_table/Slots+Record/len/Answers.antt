use Rattle.mdb_slots.proofs.Items.{items-slots}
use Rattle.mdb_slots.proofs.slot_table.Slots+Record.len.Goals as goal

pub returns-clause-apart : goal.returns-clause-apart
returns-clause-apart c = rw (items-slots c.args.self.now.cells c.args.self.now.order.used) c.size.ensures.apart
