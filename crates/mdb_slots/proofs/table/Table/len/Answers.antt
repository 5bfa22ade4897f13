use Rattle.std.proofs.Common.{sym}
use Rattle.mdb_slots.proofs.TableChanges.{length-items}
use Rattle.mdb_slots.proofs.table.Table.len.Goals as goal

pub returns : goal.returns
returns g c = rw (← c.self.view_is, c.size.ensures.value) (sym (length-items g.T.Keyed.key c.self.invariant.0.indexed))
