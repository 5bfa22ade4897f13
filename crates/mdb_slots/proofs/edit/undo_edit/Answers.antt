use Rattle.mdb_slots.proofs.Turns.{undo-set, stood}
use Rattle.mdb_slots.proofs.edit.undo_edit.Goals as goal

pub returns-then-at-len-clause-again : goal.returns-then-at-len-clause-again
returns-then-at-len-clause-again g c = undo-set _ c.in-Put.at _ _ (stood _ c.in-Put.at _ _ c.replace-old.ensures.value c.index_mut.ensures.value)
