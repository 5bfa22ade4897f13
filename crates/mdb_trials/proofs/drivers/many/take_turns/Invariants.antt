use Rattle.std.proofs.Common.{◌≡◌, All}
use Rattle.mdb_trials.proofs.drivers.many.take_turns.Given as goal

abbrev pub invariant-loop-seat : goal.invariant-loop-seat
invariant-loop-seat g l = All (λ s. s.driver ≡ l.fn.access.driver.now.id) l.done.items
