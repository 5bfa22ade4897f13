use Rattle.std.proofs.Common.{length, sym, ◌∙◌}
use Rattle.mdb_slots.proofs.Walks.{step-linked, step-shorter, step-seek}
use Rattle.mdb_slots.proofs.index_entry.find_number.Goals as goal

pub loop-slot-smaller : goal.loop-slot-smaller
loop-slot-smaller c = rw c.entry_of-entry.ensures (step-shorter (length c.args.entries.now) c.args.entries.now c.loop-slot.at c.in-Some.slot (sym c.get.ensures ∙ c.in-Some.is) c.loop-slot.invariant.0)

pub loop-slot-preserved : goal.loop-slot-preserved
loop-slot-preserved c =
    rw c.entry_of-entry.ensures (step-linked _ _ c.loop-slot.at c.in-Some.slot (sym c.get.ensures ∙ c.in-Some.is) c.loop-slot.invariant.0, step-seek _ _ c.loop-slot.at c.in-Some.slot (sym c.get.ensures ∙ c.in-Some.is) c.loop-slot.invariant.0 c.args.number (sym (rw c.entry_of-entry.ensures at c.if-has_number.ensures)) ∙ c.loop-slot.invariant.1)
