use Rattle.std.proofs.Common.{sym}
use Rattle.mdb_slots.proofs.TableWalks.{last-there}
use Rattle.mdb_slots.proofs.table.Table.last.Goals as goal

pub returns : goal.returns
returns g c = rw (← c.self.view_is, c.cell.ensures, c.last.ensures) (sym (last-there g.T.Keyed.key c.self.invariant.0))
