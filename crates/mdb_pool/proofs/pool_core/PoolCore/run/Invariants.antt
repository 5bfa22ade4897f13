use Rattle.std.proofs.Common.{List, take}
use Rattle.mdb_log.specs.History.{Item, of_pool}
use Rattle.mdb_log.specs.Legal.{NoneLeftWaiting}
use Rattle.mdb_pool.specs.Standing.{StandsFor, SameHome, Runs}
use Rattle.mdb_pool.proofs.pool_core.PoolCore.run.Given as goal

abbrev pub invariant-loop-step : goal.invariant-loop-step
invariant-loop-step l = record {
  home : SameHome l.initial.self l.self;
  runs : (h : List Item) → StandsFor l.initial.self h → NoneLeftWaiting l.initial.self.options (of_pool l.initial.self.pool h) → Runs l.initial.self l.self l.initial.log l.log l.seat (take l.step-index l.steps) h;
}
