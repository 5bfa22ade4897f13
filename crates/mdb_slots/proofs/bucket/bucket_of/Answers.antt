use Rattle.std.proofs.Common.{refl}
use Rattle.mdb_slots.specs.SlotIndex.{bucket_in}
use Rattle.mdb_slots.proofs.Numbers.{bucket_in-below}
use Rattle.mdb_slots.proofs.bucket.bucket_of.Goals as goal

pub returns : goal.returns
unfolding bucket_in
returns c = record { value = refl; within = bucket_in-below c.args.number c.args.width c.requires }
