use Rattle.std.proofs.Common.{◌≡◌, drop}
use Rattle.mdb_driver_rules.specs.Description.{with_balancers}
use Rattle.mdb_driver_pools.proofs.opening.add_balancers.Given as goal

abbrev pub invariant-loop-seed : goal.invariant-loop-seed
invariant-loop-seed l = with_balancers (drop l.seed-index l.seeds) l.description ≡ with_balancers l.seeds l.initial.description
