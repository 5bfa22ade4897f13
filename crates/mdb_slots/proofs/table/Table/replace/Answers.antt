use Rattle.std.proofs.Common.{◌≡◌, ◌∙◌, Some, None, sym}
use Rattle.mdb_slots.specs.SlotIndex.{slot_of}
use Rattle.mdb_slots.proofs.TableHolds.{there-member, swapped, swapped-values, unswapped-values}
use Rattle.mdb_slots.proofs.table.Table.replace.Goals as goal

pub swap-requires-clause-member : goal.swap-requires-clause-member
swap-requires-clause-member g c =
    let e : slot_of (g.T.Keyed.key c.args.item) c.self.inside.parts.index.now ≡ Some c.in-Some.slot = rw (← c.key.ensures) (sym c.get.ensures ∙ c.in-Some.is) in
    rw c.ready.ensures.order (there-member g.T.Keyed.key c.self.invariant.0 _ c.in-Some.slot e)

pub invariant_of-self-in-Some : goal.invariant_of-self-in-Some
invariant_of-self-in-Some g c =
    let e : slot_of (g.T.Keyed.key c.args.item) c.self.inside.parts.index.now ≡ Some c.in-Some.slot = rw (← c.key.ensures) (sym c.get.ensures ∙ c.in-Some.is) in
    rw (c.swap.ensures.order, c.swap.ensures.cells, c.swap.ensures.base.0, c.ready.ensures.order, c.ready.ensures.cells, c.ready.ensures.base) (swapped g.T.Keyed.key c.self.invariant.0 c.args.item c.in-Some.slot e, c.self.invariant.1, λ e. cc)

pub returns-in-Some-clause-now : goal.returns-in-Some-clause-now
returns-in-Some-clause-now g c =
    let e : slot_of (g.T.Keyed.key c.args.item) c.self.inside.parts.index.now ≡ Some c.in-Some.slot = rw (← c.key.ensures) (sym c.get.ensures ∙ c.in-Some.is) in
    rw (c.swap.ensures.order, c.swap.ensures.cells, c.ready.ensures.order, c.ready.ensures.cells, ← c.self.view_is) (swapped-values g.T.Keyed.key c.self.invariant.0 c.args.item c.in-Some.slot e)

pub returns-in-None-clause-now : goal.returns-in-None-clause-now
returns-in-None-clause-now g c =
    let e : slot_of (g.T.Keyed.key c.args.item) c.self.inside.parts.index.now ≡ None = rw (← c.key.ensures) (sym c.get.ensures ∙ c.in-None.is) in
    rw (c.ready.ensures.order, c.ready.ensures.cells, ← c.self.view_is) (unswapped-values g.T.Keyed.key c.self.invariant.0 c.args.item e)
