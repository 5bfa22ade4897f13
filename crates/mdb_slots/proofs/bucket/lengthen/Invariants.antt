use Rattle.std.proofs.Common.{◌≡◌, ◌≤◌, ◌+◌, ℕ, None, length}
use Rattle.mdb_slots.specs.SlotIndex.{head_at}
use Rattle.mdb_slots.proofs.bucket.lengthen.Given as goal

-- so many buckets came
abbrev pub invariant-loop-bucket : goal.invariant-loop-bucket
invariant-loop-bucket l = ((b : ℕ) → head_at l.heads.now b ≡ None) × (length l.heads.now ≡ length l.fn.heads.now + l._bucket) × (l.heads.base ≡ l.fn.heads.base) × (l.heads.capacity ≡ l.fn.heads.capacity) × (l.heads.reach ≡ l.fn.heads.reach) × (l.fn.heads.room ≤ l.heads.room + l._bucket)
