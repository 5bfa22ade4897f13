-- Short scripts.
use Rattle.std.specs.Prelude.{List, [], ◌∷◌}
use Rattle.mdb_log.specs.declared.step.Step.{Step}
use Rattle.mdb_excluded.specs.Entries.{home, usual, lost}
use Rattle.mdb_excluded.specs.Steps.{normal, other_home, router, opens, greets, asks, made, plainly_made, names_hosts, errs}

-- The driver is opened, and no server was reached yet.
abbrev pub begun : List Step
begun = opens normal ∷ []

-- Party 1 holds a connection behind a load balancer.
abbrev pub holding : List Step
holding = opens usual ∷ asks 1 ∷ made 1 ∷ []

-- Parties 1 and 2 hold connections behind a load balancer, and party 2 met an error by which their service was cleared.
abbrev pub cleared_once : List Step
cleared_once = opens usual ∷ asks 1 ∷ made 1 ∷ asks 2 ∷ made 2 ∷ errs 2 lost ∷ []

-- Party 1 holds a connection of a router's pool; then the router went and came again, and has another pool, which is ready.
abbrev pub reopened : List Step
reopened = opens normal ∷ greets 0 router ∷ asks 1 ∷ plainly_made ∷ names_hosts (other_home ∷ []) ∷ names_hosts (home ∷ []) ∷ greets 2 router ∷ []
