use Rattle.std.proofs.Common.{◌≡◌, ◌∙◌, Some, None, sym}
use Rattle.mdb_slots.specs.SlotIndex.{slot_of}
use Rattle.mdb_slots.proofs.TableHolds.{there-member}
use Rattle.mdb_slots.proofs.TableWalks.{before-there, before-absent}
use Rattle.mdb_slots.proofs.table.Table.previous.Goals as goal

pub previous-requires-clause-member : goal.previous-requires-clause-member
previous-requires-clause-member g c =
    let e : slot_of c.args.key c.self.inside.parts.index.now ≡ Some c.in-Some.slot = sym c.get.ensures ∙ c.in-Some.is in
    there-member g.T.Keyed.key c.self.invariant.0 c.args.key c.in-Some.slot e

pub returns-in-Some : goal.returns-in-Some
returns-in-Some g c =
    let e : slot_of c.args.key c.self.inside.parts.index.now ≡ Some c.in-Some.slot = sym c.get.ensures ∙ c.in-Some.is in
    rw (← c.self.view_is, c.cell.ensures, c.previous.ensures.value) (sym (before-there g.T.Keyed.key c.self.invariant.0 c.args.key c.in-Some.slot e))

pub returns-in-None : goal.returns-in-None
returns-in-None g c =
    let e : slot_of c.args.key c.self.inside.parts.index.now ≡ None = sym c.get.ensures ∙ c.in-None.is in
    rw (← c.self.view_is) (sym (before-absent g.T.Keyed.key c.self.invariant.0 c.args.key e))
