use Rattle.std.proofs.Common.{sym}
use Rattle.mdb_slots.proofs.TableHolds.{entry-there}
use Rattle.mdb_slots.proofs.table.Table.get.Goals as goal

pub returns : goal.returns
returns g c = rw (← c.self.view_is, c.cell.ensures, c.get.ensures) (sym (entry-there g.T.Keyed.key c.self.invariant.0 c.args.key))
