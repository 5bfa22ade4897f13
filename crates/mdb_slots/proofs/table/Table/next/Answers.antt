use Rattle.std.proofs.Common.{◌≡◌, ◌∙◌, Some, None, sym}
use Rattle.mdb_slots.specs.SlotIndex.{slot_of}
use Rattle.mdb_slots.proofs.TableHolds.{there-member}
use Rattle.mdb_slots.proofs.TableWalks.{after-there, after-absent}
use Rattle.mdb_slots.proofs.table.Table.next.Goals as goal

pub next-requires-clause-member : goal.next-requires-clause-member
next-requires-clause-member g c =
    let e : slot_of c.args.key c.self.inside.parts.index.now ≡ Some c.in-Some.slot = sym c.get.ensures ∙ c.in-Some.is in
    there-member g.T.Keyed.key c.self.invariant.0 c.args.key c.in-Some.slot e

pub returns-in-Some : goal.returns-in-Some
returns-in-Some g c =
    let e : slot_of c.args.key c.self.inside.parts.index.now ≡ Some c.in-Some.slot = sym c.get.ensures ∙ c.in-Some.is in
    rw (← c.self.view_is, c.cell.ensures, c.next.ensures.value) (sym (after-there g.T.Keyed.key c.self.invariant.0 c.args.key c.in-Some.slot e))

pub returns-in-None : goal.returns-in-None
returns-in-None g c =
    let e : slot_of c.args.key c.self.inside.parts.index.now ≡ None = sym c.get.ensures ∙ c.in-None.is in
    rw (← c.self.view_is) (sym (after-absent g.T.Keyed.key c.self.invariant.0 c.args.key e))
