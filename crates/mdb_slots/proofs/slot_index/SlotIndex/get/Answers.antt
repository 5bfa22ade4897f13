use Rattle.std.proofs.Common.{◌≡◌, ◌<◌, length, sym, arith}
use Rattle.mdb_slots.proofs.IndexLaws.{found, not_headed}
use Rattle.mdb_slots.proofs.slot_index.SlotIndex.get.Goals as goal

pub returns-then-width-eq0 : goal.returns-then-width-eq0
returns-then-width-eq0 c =
    let e : length c.self.inside.buckets.heads.now ≡ 0 = rw (← c.as_slice-width.ensures) (omega (arith, c.if-width-eq0.true)) in
    rw (← c.self.view_is) (sym (not_headed c.self.invariant.0 c.args.number e))

pub returns : goal.returns
returns c =
    let p : 0 < length c.self.inside.buckets.heads.now = rw (← c.as_slice-width.ensures) (omega (arith, c.if-width-eq0.false)) in
    rw (← c.self.view_is, c.find_number.ensures, c.as_slice-2.ensures, c.head_of-first.ensures, c.bucket_of.ensures.value, c.as_slice.ensures, c.as_slice-width.ensures) (found c.self.invariant.0 c.args.number p)
