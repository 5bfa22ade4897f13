use Rattle.std.proofs.Common.{◌≡◌, Some, None, length, ap, refl}
use Rattle.mdb_slots.specs.Lists.{previous}
use Rattle.mdb_slots.specs.SlotIndex.{OpenIndex, bucket_in, slot_of, numbers_of, head_at, trail}
use Rattle.mdb_slots.proofs.IndexSteps.{headed, slot-inside, before-within, removed, slot_of-removed}
use Rattle.mdb_slots.proofs.IndexRemoves.{length-lead_same}
use Rattle.mdb_slots.proofs.slot_index.SlotIndex.remove.Goals as goal

pub bucket_of-bucket-requires : goal.bucket_of-bucket-requires
bucket_of-bucket-requires c =
    let e : slot_of c.args.number (numbers_of c.self.inside.buckets.entries.now) ≡ Some c.args.slot = rw (ap (λ (o : OpenIndex). o.now) c.self.view_is) c.requires.slot in
    rw c.as_slice.ensures (headed c.self.invariant.0 c.args.number c.args.slot e)

pub entry_of-requires : goal.entry_of-requires
entry_of-requires c =
    let e : slot_of c.args.number (numbers_of c.self.inside.buckets.entries.now) ≡ Some c.args.slot = rw (ap (λ (o : OpenIndex). o.now) c.self.view_is) c.requires.slot in
    rw c.as_slice-4.ensures (slot-inside c.self.invariant.0 c.args.number c.args.slot e)

pub set_same-requires-clause-within : goal.set_same-requires-clause-within
set_same-requires-clause-within c =
    let e : slot_of c.args.number (numbers_of c.self.inside.buckets.entries.now) ≡ Some c.args.slot = rw (ap (λ (o : OpenIndex). o.now) c.self.view_is) c.requires.slot in
    let f : c.find_before-before.result ≡ previous None c.args.slot (trail (length c.self.inside.buckets.entries.now) (head_at c.self.inside.buckets.heads.now (bucket_in c.args.number (length c.self.inside.buckets.heads.now))) c.self.inside.buckets.entries.now) = rw (c.find_before-before.ensures, c.as_slice-3.ensures, c.head_of-first.ensures, c.as_slice-2.ensures, c.bucket_of-bucket.ensures.value, c.as_slice.ensures) refl in
    before-within c.self.invariant.0 c.args.number c.args.slot e _ f

pub set_ready-requires-clause-within : goal.set_ready-requires-clause-within
set_ready-requires-clause-within c =
    let e : slot_of c.args.number (numbers_of c.self.inside.buckets.entries.now) ≡ Some c.args.slot = rw (ap (λ (o : OpenIndex). o.now) c.self.view_is) c.requires.slot in
    rw (c.set_same.ensures.now, length-lead_same) (slot-inside c.self.invariant.0 c.args.number c.args.slot e)

pub invariant_of-self : goal.invariant_of-self
invariant_of-self c =
    let e : slot_of c.args.number (numbers_of c.self.inside.buckets.entries.now) ≡ Some c.args.slot = rw (ap (λ (o : OpenIndex). o.now) c.self.view_is) c.requires.slot in
    let f : c.find_before-before.result ≡ previous None c.args.slot (trail (length c.self.inside.buckets.entries.now) (head_at c.self.inside.buckets.heads.now (bucket_in c.args.number (length c.self.inside.buckets.heads.now))) c.self.inside.buckets.entries.now) = rw (c.find_before-before.ensures, c.as_slice-3.ensures, c.head_of-first.ensures, c.as_slice-2.ensures, c.bucket_of-bucket.ensures.value, c.as_slice.ensures) refl in
    rw (c.set_ready-2.ensures.now, c.set_ready-2.ensures.base, c.set_ready.ensures.now, c.none.ensures, c.set_ready.ensures.base, c.where_none.ensures, c.set_same.ensures.now, c.set_same.ensures.base, c.entry_of.ensures, c.as_slice-4.ensures, c.head_of-first.ensures, c.as_slice-2.ensures, c.bucket_of-bucket.ensures.value, c.as_slice.ensures) (removed c.self.invariant.0 c.args.number c.args.slot e _ f, c.self.invariant.1)

pub returns-clause-now : goal.returns-clause-now
returns-clause-now c =
    let e : slot_of c.args.number (numbers_of c.self.inside.buckets.entries.now) ≡ Some c.args.slot = rw (ap (λ (o : OpenIndex). o.now) c.self.view_is) c.requires.slot in
    let f : c.find_before-before.result ≡ previous None c.args.slot (trail (length c.self.inside.buckets.entries.now) (head_at c.self.inside.buckets.heads.now (bucket_in c.args.number (length c.self.inside.buckets.heads.now))) c.self.inside.buckets.entries.now) = rw (c.find_before-before.ensures, c.as_slice-3.ensures, c.head_of-first.ensures, c.as_slice-2.ensures, c.bucket_of-bucket.ensures.value, c.as_slice.ensures) refl in
    rw (c.set_ready.ensures.now, c.none.ensures, c.set_same.ensures.now, c.entry_of.ensures, c.as_slice-4.ensures, ← c.self.view_is) (slot_of-removed c.self.invariant.0 c.args.number c.args.slot e _ f)
