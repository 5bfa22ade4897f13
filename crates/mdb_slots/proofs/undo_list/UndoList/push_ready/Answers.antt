use Rattle.std.proofs.Common.{ap}
use Rattle.mdb_slots.specs.Open.{Open}
use Rattle.mdb_slots.proofs.Turns.{unwound-append, undo-push}
use Rattle.mdb_slots.proofs.undo_list.UndoList.push_ready.Goals as goal

pub returns-clause-base : goal.returns-clause-base
returns-clause-base g c = rw (c.push_reserved-2.ensures.items, unwound-append, c.push_reserved.ensures.items, undo-push) (ap (λ (t : Open g.row.T.Denot). t.base) c.self.view_is)

pub invariant_of-self : goal.invariant_of-self
invariant_of-self g c = rw (c.push_reserved-2.ensures.items, unwound-append, c.push_reserved.ensures.items, undo-push, c.push_reserved.ensures.capacity) c.self.invariant
