use Rattle.std.proofs.Common.{◌-◌, ◌≤◌, length}
use Rattle.mdb_intervals.specs.Spans.{ended}
use Rattle.mdb_intervals.proofs.span.ended.Given as goal

-- the place is between the two bounds
abbrev pub invariant-loop-low : goal.invariant-loop-low
invariant-loop-low l = (l.low ≤ ended l.number l.spans) × (ended l.number l.spans ≤ l.high) × (l.high ≤ length l.spans)

abbrev pub decreases-loop-low : goal.decreases-loop-low
decreases-loop-low l = l.high - l.low
