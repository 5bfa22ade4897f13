use Rattle.std.proofs.Common.{ap}
use Rattle.mdb_slots.specs.SlotOrder.{Laid, order_of}
use Rattle.mdb_slots.proofs.Filled.{filled-brought, lasting-filled}
use Rattle.mdb_slots.proofs.slots.Slots.bring.Goals as goal

pub invariant_of-self : goal.invariant_of-self
invariant_of-self g c =
    lasting-filled c.args.stays (λ e. ap (λ (l : Laid). order_of l) (c.push-at.ensures.open e).0) (λ e. (c.write.ensures.open e).0) (λ e. c.push-at.ensures.lasts e) (λ e. c.write.ensures.lasts e) c.self.invariant.1 (rw c.write.ensures.now (filled-brought c.self.invariant.0 _ c.args.value c.push-at.result c.push-at.ensures.within c.push-at.ensures.used c.push-at.ensures.spare))
