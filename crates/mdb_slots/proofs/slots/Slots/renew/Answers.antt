use Rattle.std.proofs.Common.{◌≡◌, true, refl, ap}
use Rattle.mdb_slots.specs.Lists.{has}
use Rattle.mdb_slots.specs.Slots.{OpenSlots}
use Rattle.mdb_slots.proofs.Filled.{filled-renewed}
use Rattle.mdb_slots.proofs.slots.Slots.renew.Goals as goal

pub invariant_of-self : goal.invariant_of-self
invariant_of-self g c =
    let m : has c.args.at c.self.inside.order.now.used ≡ true = rw (ap (λ (o : OpenSlots g.row.T.Denot). o.order.used) c.self.view_is) c.requires.member in
    rw (c.write.ensures.now, (c.write.ensures.open refl).0, c.renew.ensures.base) (filled-renewed c.self.invariant.0 _ c.args.value c.args.at m c.renew.ensures.used c.renew.ensures.spare, c.self.invariant.1)
