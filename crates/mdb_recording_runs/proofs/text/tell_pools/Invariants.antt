use Rattle.std.proofs.Common.{List, length, string_bytes}
use Rattle.mdb_recordings.specs.Standing.{Stands}
use Rattle.mdb_recordings.specs.declared.event.Recorded.{Recorded}
use Rattle.mdb_recording_runs.proofs.Pools.{PoolsLeft}
use Rattle.mdb_recording_runs.proofs.text.tell_pools.Given as goal

abbrev pub invariant-loop-name : goal.invariant-loop-name
invariant-loop-name l = (h : List Recorded) → Stands h l.judge → PoolsLeft h l.names l.rest l.pool (string_bytes l.initial.out) (string_bytes l.out)

abbrev pub decreases-loop-name : goal.decreases-loop-name
decreases-loop-name l = length l.rest
