use Rattle.std.proofs.Common.{◌≡◌, ◌∙◌, ◌++◌, ◌∷◌, [], None, ap, sym}
use Rattle.mdb_slots.specs.SlotIndex.{slot_of}
use Rattle.mdb_slots.proofs.TableChanges.{get-none, absent-values}
use Rattle.mdb_slots.proofs.table.Table.put.Goals as goal

pub renew-requires-clause-slot : goal.renew-requires-clause-slot
renew-requires-clause-slot g c = rw (c.ready_to_renew.ensures.index, ← c.key.ensures) (sym c.get.ensures ∙ c.in-Some.is)

pub put_in-requires-clause-new : goal.put_in-requires-clause-new
put_in-requires-clause-new g c =
    let e : slot_of (g.T.Keyed.key c.args.item) c.self.inside.parts.index.now ≡ None = rw (← c.key.ensures) (sym c.get.ensures ∙ c.in-None.is) in
    rw (c.ready_to_put.ensures.now, c.make_slot.ensures.now) (get-none g.T.Keyed.key c.self.invariant.0.indexed (g.T.Keyed.key c.args.item) e)

pub returns-in_ok-ready_to_put-in-None-clause-now : goal.returns-in_ok-ready_to_put-in-None-clause-now
returns-in_ok-ready_to_put-in-None-clause-now g c =
    let e : slot_of (g.T.Keyed.key c.args.item) c.self.inside.parts.index.now ≡ None = rw (← c.key.ensures) (sym c.get.ensures ∙ c.in-None.is) in
    let a = absent-values g.T.Keyed.key c.self.invariant.0.indexed (g.T.Keyed.key c.args.item) e in
    rw (← c.self.view_is) (c.put_in.ensures.now ∙ ap (λ vs. vs ++ c.args.item ∷ []) (c.ready_to_put.ensures.now ∙ c.make_slot.ensures.now ∙ sym a))
