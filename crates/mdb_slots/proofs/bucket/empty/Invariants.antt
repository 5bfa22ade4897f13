use Rattle.std.proofs.Common.{◌≡◌, ◌≤◌, ◌<◌, ◌+◌, ℕ, None, length}
use Rattle.mdb_slots.specs.SlotIndex.{head_at}
use Rattle.mdb_slots.proofs.bucket.empty.Given as goal

-- the buckets before this one are empty
abbrev pub invariant-loop-bucket : goal.invariant-loop-bucket
invariant-loop-bucket l = ((b : ℕ) → b < l.bucket → head_at l.heads.now b ≡ None) × (l.width ≡ length l.fn.heads.now) × (length l.heads.now ≡ length l.fn.heads.now) × (l.heads.base ≡ l.fn.heads.base) × (l.heads.capacity ≡ l.fn.heads.capacity) × (l.heads.reach ≡ l.fn.heads.reach) × (l.fn.heads.room ≤ l.heads.room + l.bucket)
