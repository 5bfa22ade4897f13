use Rattle.std.proofs.Common.{◌≡◌, ◌≢◌, ◌<◌, ℕ, Some, None, length, ap, sym, subst}
use Rattle.mdb_slots.specs.SlotIndex.{Indexing, OpenIndex, KeepsIndex, slot_of, numbers_of}
use Rattle.mdb_slots.proofs.Numbers.{numbers-length, numbers-set}
use Rattle.mdb_slots.proofs.IndexSteps.{inserted, slot_of-inserted}
use Rattle.mdb_slots.proofs.slot_index.SlotIndex.insert.Goals as goal

pub invariant_of-self : goal.invariant_of-self
invariant_of-self c =
    let p : 0 < length c.self.inside.buckets.heads.now = rw (ap (λ (o : OpenIndex). o.width) c.self.view_is) c.requires.width in
    let h : c.args.slot < length (numbers_of c.self.inside.buckets.entries.now) = rw (ap (λ (o : OpenIndex). o.now) c.self.view_is) c.requires.within in
    let w : c.args.slot < length c.self.inside.buckets.entries.now = rw (← numbers-length c.self.inside.buckets.entries.now) h in
    let a : slot_of c.args.number (numbers_of c.self.inside.buckets.entries.now) ≡ None = rw (ap (λ (o : OpenIndex). o.now) c.self.view_is) c.requires.absent in
    let f : (q : ℕ) → slot_of q (numbers_of c.self.inside.buckets.entries.now) ≢ Some c.args.slot = rw (ap (λ (o : OpenIndex). o.now) c.self.view_is) c.requires.free in
    (rw (c.put_first.ensures.heads, c.put_first.ensures.entries) (inserted c.self.invariant.0 c.args.number c.args.slot p w a f), subst (λ (i : Indexing). KeepsIndex i) (sym c.put_first.ensures.base) c.self.invariant.1)

pub returns-clause-now : goal.returns-clause-now
returns-clause-now c =
    let p : 0 < length c.self.inside.buckets.heads.now = rw (ap (λ (o : OpenIndex). o.width) c.self.view_is) c.requires.width in
    let h : c.args.slot < length (numbers_of c.self.inside.buckets.entries.now) = rw (ap (λ (o : OpenIndex). o.now) c.self.view_is) c.requires.within in
    let w : c.args.slot < length c.self.inside.buckets.entries.now = rw (← numbers-length c.self.inside.buckets.entries.now) h in
    let a : slot_of c.args.number (numbers_of c.self.inside.buckets.entries.now) ≡ None = rw (ap (λ (o : OpenIndex). o.now) c.self.view_is) c.requires.absent in
    let f : (q : ℕ) → slot_of q (numbers_of c.self.inside.buckets.entries.now) ≢ Some c.args.slot = rw (ap (λ (o : OpenIndex). o.now) c.self.view_is) c.requires.free in
    rw (c.put_first.ensures.entries, ← c.self.view_is) (slot_of-inserted c.self.invariant.0 c.args.number c.args.slot p w a f)

pub returns-clause-slots : goal.returns-clause-slots
returns-clause-slots c = rw (c.put_first.ensures.entries, ← c.self.view_is) (numbers-set _ c.args.slot _)
