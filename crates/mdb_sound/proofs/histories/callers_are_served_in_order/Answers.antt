use Rattle.mdb_sound.proofs.Order.{in-order}
use Rattle.mdb_sound.proofs.histories.callers_are_served_in_order.Goals as goal

pub returns : goal.returns
returns c = in-order
