use Rattle.std.proofs.Common.{◌≡◌, ◌≤◌, ◌+◌, length}
use Rattle.mdb_driver_rules.specs.Naming.{new_hosts}
use Rattle.mdb_topology.proofs.known.naming.count_new.Given as goal

abbrev pub invariant-loop-rest : goal.invariant-loop-rest
invariant-loop-rest l = (new_hosts l.servers l.hosts ≡ l.count + new_hosts l.servers l.rest) × (l.count + length l.rest ≤ length l.hosts)

abbrev pub decreases-loop-rest : goal.decreases-loop-rest
decreases-loop-rest l = length l.rest
