use Rattle.std.proofs.Common.{ap, refl, sym, ◌∙◌}
use Rattle.mdb_slots.specs.SlotOrder.{OpenOrder}
use Rattle.mdb_slots.proofs.Layouts.{laid-keeps, laid-order, length-lead_to, length-lead_back}
use Rattle.mdb_slots.proofs.Moves.{last-within}
use Rattle.mdb_slots.proofs.Removes.{before-within, after-within, few-slots}
use Rattle.mdb_slots.proofs.Renews.{laid-renew, last-stays}
use Rattle.mdb_slots.proofs.slot_order.SlotOrder.renew.Goals as goal

pub set_after-requires-clause-within : goal.set_after-requires-clause-within
set_after-requires-clause-within c =
    rw c.node_of-node.ensures.value (before-within c.args.at c.self.invariant.0 (rw (ap (λ (o : OpenOrder). o.now.used) c.self.view_is) c.requires.member))

pub set_before-requires-clause-within : goal.set_before-requires-clause-within
set_before-requires-clause-within c =
    rw (c.set_after.ensures.now, length-lead_to, c.node_of-node.ensures.value) (after-within c.args.at c.self.invariant.0 (rw (ap (λ (o : OpenOrder). o.now.used) c.self.view_is) c.requires.member))

pub set_after-requires-in-Some-clause-within : goal.set_after-requires-in-Some-clause-within
set_after-requires-in-Some-clause-within c =
    rw (c.set_before.ensures.now, length-lead_back, c.set_after.ensures.now, length-lead_to) (last-within c.self.invariant.0)

pub some-renewed-requires : goal.some-renewed-requires
some-renewed-requires c = few-slots c.args.at c.self.invariant.0 (rw (ap (λ (o : OpenOrder). o.now.used) c.self.view_is) c.requires.member)

pub invariant_of-self : goal.invariant_of-self
invariant_of-self c =
    rw (c.where_none-self-inside.ensures, c.write.ensures.now, (c.write.ensures.open refl).0, c.none.ensures, c.set_after-in-Some.ensures.now, (c.set_after-in-Some.ensures.open refl).0, c.some-renewed.ensures, c.set_before.ensures.now, (c.set_before.ensures.open refl).0, c.set_after.ensures.now, (c.set_after.ensures.open refl).0) (laid-keeps (laid-renew c.args.at _ _ c.self.invariant.0 (rw (ap (λ (o : OpenOrder). o.now.used) c.self.view_is) c.requires.member) c.node_of-node.ensures.value (sym c.get.ensures ∙ c.in-Some.is)), c.self.invariant.1)

pub returns-in-Some-clause-used : goal.returns-in-Some-clause-used
returns-in-Some-clause-used c =
    rw (c.where_none-self-inside.ensures, c.write.ensures.now, c.none.ensures, c.set_after-in-Some.ensures.now, c.some-renewed.ensures, c.set_before.ensures.now, c.set_after.ensures.now, ← ap (λ (o : OpenOrder). o.now.used) c.self.view_is) (laid-order (laid-renew c.args.at _ _ c.self.invariant.0 (rw (ap (λ (o : OpenOrder). o.now.used) c.self.view_is) c.requires.member) c.node_of-node.ensures.value (sym c.get.ensures ∙ c.in-Some.is)))

pub returns-in-None-clause-used : goal.returns-in-None-clause-used
returns-in-None-clause-used c =
    rw (← ap (λ (o : OpenOrder). o.now.used) c.self.view_is) (sym (last-stays c.args.at _ c.self.invariant.0 (rw (ap (λ (o : OpenOrder). o.now.used) c.self.view_is) c.requires.member) c.node_of-node.ensures.value (sym c.get.ensures ∙ c.in-None.is)))
