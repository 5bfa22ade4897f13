use Rattle.std.proofs.Common.{◌≡◌, List, length}
use Rattle.mdb_log.specs.History.{Item}
use Rattle.mdb_tallies.specs.Kept.{Stands}
use Rattle.mdb_judging.specs.Queueing.{QueuesStand}
use Rattle.mdb_judging.specs.Taking.{is_left}
use Rattle.mdb_judging.proofs.leftovers.is_left.Given as goal

abbrev pub invariant-loop-pool : goal.invariant-loop-pool
invariant-loop-pool l = (h : List Item) → Stands l.options h l.tables → QueuesStand h l.initial.queues → (is_left l.options h l.pools ≡ is_left l.options h l.rest) × QueuesStand h l.queues

abbrev pub decreases-loop-pool : goal.decreases-loop-pool
decreases-loop-pool l = length l.rest
