use Rattle.std.proofs.Common.{◌≡◌, true, ap}
use Rattle.mdb_slots.specs.Lists.{has}
use Rattle.mdb_slots.specs.Slots.{OpenSlots}
use Rattle.mdb_slots.specs.SlotOrder.{Laid, order_of}
use Rattle.mdb_slots.proofs.Filled.{filled-taken, lasting-filled}
use Rattle.mdb_slots.proofs.slots.Slots.take.Goals as goal

pub invariant_of-self : goal.invariant_of-self
invariant_of-self g c =
    let m : has c.args.at c.self.inside.order.now.used ≡ true = rw (ap (λ (o : OpenSlots g.row.T.Denot). o.order.used) c.self.view_is) c.requires.member in
    lasting-filled c.args.stays (λ e. ap (λ (l : Laid). order_of l) (c.remove.ensures.open e).0) (λ e. (c.write.ensures.open e).0) (λ e. c.remove.ensures.lasts e) (λ e. c.write.ensures.lasts e) c.self.invariant.1 (rw c.write.ensures.now (filled-taken c.self.invariant.0 _ c.args.at m c.remove.ensures.used c.remove.ensures.spare))
