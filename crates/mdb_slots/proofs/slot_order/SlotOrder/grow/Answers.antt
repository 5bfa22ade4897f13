use Rattle.std.proofs.Common.{◌∙◌, ◌<◌, ◌-◌, ◌^◌, ap, arith, length}
use Rattle.mdb_slots.specs.SlotOrder.{OpenOrder}
use Rattle.mdb_slots.proofs.Layouts.{laid-keeps, laid-order}
use Rattle.mdb_slots.proofs.Grows.{laid-grow}
use Rattle.mdb_slots.proofs.slot_order.SlotOrder.grow.Goals as goal

pub invariant_of-self-2 : goal.invariant_of-self-2
invariant_of-self-2 c =
    let few : length c.self.inside.nodes.now < 2 ^ 32 - 1 = grind (arith, c.requires, c.self.view_is, c.self.invariant.0.all, c.self.invariant.0.len_is) in
    rw (c.in_ok-push.ensures.now, c.push.ensures.base, c.some-self-inside.ensures, c.none.ensures, c.as_slice.ensures) (laid-keeps (laid-grow _ _ _ _ _ _ _ _ few c.self.invariant.0), c.self.invariant.1)

pub returns-clause-used : goal.returns-clause-used
returns-clause-used c =
    let few : length c.self.inside.nodes.now < 2 ^ 32 - 1 = grind (arith, c.requires, c.self.view_is, c.self.invariant.0.all, c.self.invariant.0.len_is) in
    rw (c.in_ok-push.ensures.now, c.none.ensures) (laid-order (laid-grow _ _ _ _ _ _ _ _ few c.self.invariant.0)) ∙ ap (λ (o : OpenOrder). o.now.used) c.self.view_is
