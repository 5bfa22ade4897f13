use Rattle.mdb_slots.proofs.IndexSteps.{grown, slot_of-grown}
use Rattle.mdb_slots.proofs.slot_index.SlotIndex.grow.Goals as goal

pub invariant_of-self-2 : goal.invariant_of-self-2
invariant_of-self-2 c = rw (c.in_ok-push.ensures.now, c.none.ensures, c.push.ensures.base) (grown c.self.invariant.0, c.self.invariant.1)

pub returns-clause-now : goal.returns-clause-now
returns-clause-now c = λ q. rw (c.in_ok-push.ensures.now, c.none.ensures, ← c.self.view_is) (slot_of-grown c.self.invariant.0 q)
