use Rattle.std.proofs.Common.{◌≡◌, ◌<◌, Some, ◌∙◌, ap, sym, length}
use Rattle.mdb_slots.specs.SlotOrder.{OpenOrder}
use Rattle.mdb_slots.proofs.Layouts.{laid-keeps, laid-order, length-lead_to}
use Rattle.mdb_slots.proofs.Lasting.{lasting-keeps}
use Rattle.mdb_slots.proofs.Moves.{push-laid, some-free, free-within, free-few, free-new, last-within}
use Rattle.mdb_slots.proofs.slot_order.SlotOrder.push.Goals as goal

pub unwrap-at-requires : goal.unwrap-at-requires
unwrap-at-requires c =
    let p : 0 < c.self.inside.ends.spare = rw (ap (λ (o : OpenOrder). o.now.spare) c.self.view_is) c.requires.spare in
    rw c.get.ensures (some-free _ _ _ c.self.invariant.0.free_is c.self.invariant.0.spare_is p)

pub node_of-node-requires-clause-within : goal.node_of-node-requires-clause-within
node_of-node-requires-clause-within c = free-within _ c.self.invariant.0 (sym c.get.ensures ∙ c.unwrap-at.ensures)

pub set_after-requires-clause-within : goal.set_after-requires-clause-within
set_after-requires-clause-within c = last-within c.self.invariant.0

pub write-requires-clause-within : goal.write-requires-clause-within
write-requires-clause-within c = rw (c.set_after.ensures.now, length-lead_to) (free-within _ c.self.invariant.0 (sym c.get.ensures ∙ c.unwrap-at.ensures))

pub invariant_of-self : goal.invariant_of-self
invariant_of-self c =
    let e : c.self.inside.ends.free ≡ Some c.unwrap-at.result = sym c.get.ensures ∙ c.unwrap-at.ensures in
    rw c.lasting.ensures (lasting-keeps c.args.stays c.write.new.list.base c.write.new.list.now c.self.inside.nodes.base _ c.self.inside.was (λ e. (c.write.ensures.open e).0 ∙ (c.set_after.ensures.open e).0) c.write.ensures.lasts c.self.invariant.1 (rw (c.where_none.ensures, c.node_of-node.ensures.value, c.write.ensures.now, c.none.ensures, c.set_after.ensures.now, e) (laid-keeps (push-laid _ c.self.invariant.0 (sym c.get.ensures ∙ c.unwrap-at.ensures)))))

pub returns-clause-used : goal.returns-clause-used
returns-clause-used c =
    let e : c.self.inside.ends.free ≡ Some c.unwrap-at.result = sym c.get.ensures ∙ c.unwrap-at.ensures in
    rw (c.where_none.ensures, c.write.ensures.now, c.none.ensures, c.set_after.ensures.now, e, ← ap (λ (o : OpenOrder). o.now.used) c.self.view_is) (laid-order (push-laid _ c.self.invariant.0 (sym c.get.ensures ∙ c.unwrap-at.ensures)))

pub returns-clause-new : goal.returns-clause-new
returns-clause-new c = rw (← ap (λ (o : OpenOrder). o.now.used) c.self.view_is) (free-new _ c.self.invariant.0 (sym c.get.ensures ∙ c.unwrap-at.ensures))

pub returns-clause-within : goal.returns-clause-within
returns-clause-within c =
    let w : c.unwrap-at.result < length c.self.inside.nodes.now = free-within _ c.self.invariant.0 (sym c.get.ensures ∙ c.unwrap-at.ensures) in
    rw (← ap (λ (o : OpenOrder). o.now.used) c.self.view_is, ← ap (λ (o : OpenOrder). o.now.spare) c.self.view_is, ← c.self.invariant.0.len_is, ← c.self.invariant.0.all) w

pub returns-clause-few : goal.returns-clause-few
returns-clause-few c = free-few _ c.self.invariant.0 (sym c.get.ensures ∙ c.unwrap-at.ensures)
