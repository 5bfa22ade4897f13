use Rattle.std.proofs.Common.{◌≡◌, ◌≤◌, ◌+◌, ◌||◌, ℕ, length, drop}
use Rattle.mdb_intervals.specs.Spans.{has as is_within}
use Rattle.mdb_slots.specs.Lists.{has}
use Rattle.mdb_slots.specs.NumberSet.{put_all}
use Rattle.mdb_slots.proofs.number_steps.insert_all.Given as goal

-- the numbers so far and those that are left are all, and there is room for these
abbrev pub invariant-loop-number : goal.invariant-loop-number
invariant-loop-number l = record {
  spans : put_all (drop l.number-index l.numbers) l.spans.spans ≡ put_all l.numbers l.fn.spans.spans;
  has : (n : ℕ) → (is_within n l.spans.spans || has n (drop l.number-index l.numbers)) ≡ (is_within n l.fn.spans.spans || has n l.numbers);
  room : length l.spans.spans + length (drop l.number-index l.numbers) ≤ l.spans.capacity;
  capacity : l.spans.capacity ≡ l.fn.spans.capacity;
}
