use Rattle.std.proofs.Common.{◌≡◌}
use Rattle.mdb_shared.specs.Seats.{FoundBusy}
use Rattle.mdb_shared.proofs.Waited.{Waited}
use Rattle.mdb_shared.proofs.driver.SharedDriver.step.Given as goal

abbrev pub invariant-loop : goal.invariant-loop
invariant-loop g l = record { seat : Waited l.initial.seat l.seat; busy : FoundBusy l.initial.seat l.seat; step : l.step ≡ l.initial.step }
