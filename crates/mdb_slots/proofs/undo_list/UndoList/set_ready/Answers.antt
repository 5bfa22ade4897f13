use Rattle.std.proofs.Common.{ap}
use Rattle.mdb_slots.specs.Open.{Open}
use Rattle.mdb_slots.proofs.Turns.{unwound-append, undo-set, stood}
use Rattle.mdb_slots.proofs.undo_list.UndoList.set_ready.Goals as goal

pub returns-clause-base : goal.returns-clause-base
returns-clause-base g c =
    let w = stood _ c.args.at _ _ c.replace-old.ensures.value c.index_mut.ensures.value in
    rw (c.push_reserved.ensures.items, unwound-append, undo-set _ c.args.at c.replace-old.new.dest _ w) (ap (λ (t : Open g.row.T.Denot). t.base) c.self.view_is)

pub invariant_of-self : goal.invariant_of-self
invariant_of-self g c =
    let w = stood _ c.args.at _ _ c.replace-old.ensures.value c.index_mut.ensures.value in
    rw (c.push_reserved.ensures.items, unwound-append, undo-set _ c.args.at c.replace-old.new.dest _ w) c.self.invariant
