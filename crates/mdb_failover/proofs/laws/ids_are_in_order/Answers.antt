use Rattle.mdb_failover.proofs.Orders.{id-below}
use Rattle.mdb_failover.proofs.laws.ids_are_in_order.Goals as goal

pub returns : goal.returns
returns c = id-below
