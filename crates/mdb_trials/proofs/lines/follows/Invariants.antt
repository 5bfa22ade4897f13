use Rattle.std.proofs.Common.{◌≡◌}
use Rattle.mdb_trials.proofs.lines.follows.Given as goal

abbrev pub invariant-loop-line : goal.invariant-loop-line
invariant-loop-line g l = record { first : l.first.driver ≡ l.initial.first.driver; second : l.second.driver ≡ l.initial.second.driver }
