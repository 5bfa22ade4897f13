use Rattle.std.proofs.Common.{◌≡◌, ◌==◌, false, Some, length, sym, ap, arith, ◌∙◌}
use Rattle.std.proofs.lemmas.Grind.{common_steps}
use Rattle.mdb_slots.specs.Lists.{previous}
use Rattle.mdb_slots.specs.SlotIndex.{place_at, trail}
use Rattle.mdb_slots.proofs.Walks.{step-linked, step-shorter, step-previous}
use Rattle.mdb_slots.proofs.index_entry.find_before.Goals as goal

pub loop-slot-smaller : goal.loop-slot-smaller
loop-slot-smaller c = rw c.entry_of.ensures (step-shorter (length c.args.entries.now) c.args.entries.now c.loop-slot.at c.in-Some.slot (sym c.get.ensures ∙ c.in-Some.is) c.loop-slot.invariant.0)

pub loop-slot-preserved : goal.loop-slot-preserved
loop-slot-preserved c =
    let w : (c.in-Some.slot == c.args.wanted) ≡ false = grind (arith, common_steps, c.if-slot-wanted.false) in
    let e : c.loop-slot.at ≡ Some c.in-Some.slot = sym c.get.ensures ∙ c.in-Some.is in
    rw c.entry_of.ensures (step-linked _ _ c.loop-slot.at c.in-Some.slot e c.loop-slot.invariant.0, ap (λ o. previous o c.args.wanted (trail (length c.args.entries.now) (place_at c.args.entries.now c.in-Some.slot).same c.args.entries.now)) e ∙ step-previous _ _ c.loop-slot.at c.in-Some.slot e c.loop-slot.invariant.0 c.loop-slot.before c.args.wanted w ∙ c.loop-slot.invariant.1)
