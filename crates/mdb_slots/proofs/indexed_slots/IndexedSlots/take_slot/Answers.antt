use Rattle.mdb_slots.proofs.TableHolds.{there-member, taken, taken-values}
use Rattle.mdb_slots.proofs.indexed_slots.IndexedSlots.take_slot.Goals as goal

pub take-requires-clause-member : goal.take-requires-clause-member
take-requires-clause-member g c = there-member g.T.Keyed.key c.requires.holds c.args.number c.args.slot c.requires.slot

pub returns-clause-holds : goal.returns-clause-holds
returns-clause-holds g c =
    rw c.take.ensures.cells (taken g.T.Keyed.key c.requires.holds _ _ c.args.number c.args.slot c.requires.slot c.remove.ensures.now c.remove.ensures.len c.take.ensures.used c.take.ensures.spare)

pub returns-clause-now : goal.returns-clause-now
returns-clause-now g c =
    rw c.take.ensures.cells (taken-values g.T.Keyed.key c.requires.holds c.take.new.self.order c.args.number c.args.slot c.requires.slot c.take.ensures.used)
