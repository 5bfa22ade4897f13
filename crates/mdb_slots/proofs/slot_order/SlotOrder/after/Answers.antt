use Rattle.std.proofs.Common.{ap}
use Rattle.mdb_slots.specs.SlotOrder.{OpenOrder}
use Rattle.mdb_slots.proofs.Removes.{after-is}
use Rattle.mdb_slots.proofs.slot_order.SlotOrder.after.Goals as goal

pub returns-clause-value : goal.returns-clause-value
returns-clause-value c = rw (← c.self.view_is, c.get.ensures, c.node_of.ensures.value) (after-is c.args.at c.self.invariant.0 (rw (ap (λ (o : OpenOrder). o.now.used) c.self.view_is) c.requires.member))
