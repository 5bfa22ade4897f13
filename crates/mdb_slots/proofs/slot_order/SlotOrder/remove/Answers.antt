use Rattle.std.proofs.Common.{◌∙◌, ap, refl}
use Rattle.mdb_slots.specs.SlotOrder.{OpenOrder}
use Rattle.mdb_slots.proofs.Layouts.{laid-keeps, laid-order, length-lead_to}
use Rattle.mdb_slots.proofs.Lasting.{lasting-keeps}
use Rattle.mdb_slots.proofs.Removes.{before-within, after-within, few-slots, remove-laid}
use Rattle.mdb_slots.proofs.slot_order.SlotOrder.remove.Goals as goal

pub set_after-requires-clause-within : goal.set_after-requires-clause-within
set_after-requires-clause-within c =
    rw c.node_of-node.ensures.value (before-within c.args.at c.self.invariant.0 (rw (ap (λ (o : OpenOrder). o.now.used) c.self.view_is) c.requires.member))

pub set_before-requires-clause-within : goal.set_before-requires-clause-within
set_before-requires-clause-within c =
    rw (c.set_after.ensures.now, length-lead_to, c.node_of-node.ensures.value) (after-within c.args.at c.self.invariant.0 (rw (ap (λ (o : OpenOrder). o.now.used) c.self.view_is) c.requires.member))

pub some-requires : goal.some-requires
some-requires c = few-slots c.args.at c.self.invariant.0 (rw (ap (λ (o : OpenOrder). o.now.used) c.self.view_is) c.requires.member)

pub invariant_of-self : goal.invariant_of-self
invariant_of-self c =
    rw c.lasting.ensures (lasting-keeps c.args.stays c.write.new.list.base c.write.new.list.now c.self.inside.nodes.base _ c.self.inside.was (λ e. (c.write.ensures.open e).0 ∙ (c.set_before.ensures.open e).0 ∙ (c.set_after.ensures.open e).0) c.write.ensures.lasts c.self.invariant.1 (rw (c.where_none.ensures, c.where_none-2.ensures, c.some.ensures, c.write.ensures.now, c.none.ensures, c.set_before.ensures.now, c.set_after.ensures.now, c.node_of-node.ensures.value) (laid-keeps (remove-laid c.args.at _ c.self.invariant.0 (rw (ap (λ (o : OpenOrder). o.now.used) c.self.view_is) c.requires.member) refl))))

pub returns-clause-used : goal.returns-clause-used
returns-clause-used c =
    rw (c.where_none.ensures, c.write.ensures.now, c.none.ensures, c.set_before.ensures.now, c.set_after.ensures.now, c.node_of-node.ensures.value, ← ap (λ (o : OpenOrder). o.now.used) c.self.view_is) (laid-order (remove-laid c.args.at _ c.self.invariant.0 (rw (ap (λ (o : OpenOrder). o.now.used) c.self.view_is) c.requires.member) refl))
