use Rattle.std.proofs.Common.{◌≡◌, ◌∙◌, None, sym, arith}
use Rattle.mdb_slots.specs.SlotIndex.{slot_of}
use Rattle.mdb_slots.proofs.TableChanges.{absent-values, others-empty}
use Rattle.mdb_slots.proofs.table.Table.remove.Goals as goal

pub returns-then-len-eq0-clause-now : goal.returns-then-len-eq0-clause-now
returns-then-len-eq0-clause-now g c = others-empty g.T.Keyed.key c.args.key c.args.self.now.now (sym c.len.ensures ∙ omega (arith, c.if-len-eq0.true))

pub take_slot-requires-clause-slot : goal.take_slot-requires-clause-slot
take_slot-requires-clause-slot g c = rw c.ready_to_take.ensures.index (sym c.get.ensures ∙ c.in-Some.is)

pub returns-in-None-clause-now : goal.returns-in-None-clause-now
returns-in-None-clause-now g c =
    let e : slot_of c.args.key c.self.inside.parts.index.now ≡ None = sym c.get.ensures ∙ c.in-None.is in
    rw (← c.self.view_is) (sym (absent-values g.T.Keyed.key c.self.invariant.0.indexed c.args.key e))
