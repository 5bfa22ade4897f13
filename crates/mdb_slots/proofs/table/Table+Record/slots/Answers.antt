use Rattle.mdb_slots.proofs.Lent.{records-values}
use Rattle.mdb_slots.proofs.table.Table+Record.slots.Goals as goal

pub returns : goal.returns
returns c = rw (← c.self.view_is) (records-values c.self.invariant.0.indexed)
