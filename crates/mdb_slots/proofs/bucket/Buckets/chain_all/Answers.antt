use Rattle.std.proofs.Common.{◌≡◌, length, refl, ◌∙◌, ap, arith}
use Rattle.mdb_slots.specs.SlotIndex.{numbers_of, masked}
use Rattle.mdb_slots.proofs.Numbers.{masked-all, numbers-length}
use Rattle.mdb_slots.proofs.Chained.{nothing-chained}
use Rattle.mdb_slots.proofs.bucket.Buckets.chain_all.Goals as goal

pub loop-slot-init : goal.loop-slot-init
loop-slot-init c = (nothing-chained _ _ c.requires.none, refl, refl, refl, refl, (omega arith, omega arith))

pub returns-clause-index : goal.returns-clause-index
returns-clause-index c =
    let n : c.loop-slot.slot ≡ length (numbers_of c.args.self.now.entries.now) = omega (arith, c.loop-slot-test.false, c.loop-slot.auto.slot-end, c.requires.slots, numbers-length c.args.self.now.entries.now) in
    let m : masked c.loop-slot.slot (numbers_of c.args.self.now.entries.now) ≡ numbers_of c.args.self.now.entries.now = ap (λ k. masked k (numbers_of c.args.self.now.entries.now)) n ∙ masked-all (numbers_of c.args.self.now.entries.now) in
    rw (c.loop-slot.invariant.1, ← m) c.loop-slot.invariant.0
