use Rattle.std.proofs.Common.{◌≡◌, None}
use Rattle.mdb_slots.specs.SlotIndex.{slot_of}
use Rattle.mdb_slots.proofs.TableHolds.{brought, brought-values, absent-slot}
use Rattle.mdb_slots.proofs.indexed_slots.IndexedSlots.put_in.Goals as goal

pub insert-requires-clause-absent : goal.insert-requires-clause-absent
insert-requires-clause-absent g c = rw c.key-number.ensures (absent-slot g.T.Keyed.key c.requires.holds (g.T.Keyed.key c.args.item) c.requires.new)

pub returns-clause-holds : goal.returns-clause-holds
returns-clause-holds g c =
    let a : slot_of (g.T.Keyed.key c.args.item) c.args.self.now.index.now ≡ None = absent-slot g.T.Keyed.key c.requires.holds (g.T.Keyed.key c.args.item) c.requires.new in
    let n = rw c.key-number.ensures at c.insert.ensures.now in
    rw c.bring-slot.ensures.cells (brought g.T.Keyed.key c.requires.holds _ _ c.args.item c.bring-slot.result c.bring-slot.ensures.within c.bring-slot.ensures.new a n c.insert.ensures.len c.bring-slot.ensures.used c.bring-slot.ensures.spare)

pub returns-clause-now : goal.returns-clause-now
returns-clause-now g c =
    rw c.bring-slot.ensures.cells (brought-values g.T.Keyed.key c.requires.holds c.bring-slot.new.self.order c.args.item c.bring-slot.result c.bring-slot.ensures.within c.bring-slot.ensures.new c.bring-slot.ensures.used)
