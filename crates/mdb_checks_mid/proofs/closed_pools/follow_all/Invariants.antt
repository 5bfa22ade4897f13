use denote.Text.{Utf8}
use denote.Shadow.{shadow}
use Rattle.mdb_topology.specs.Logging.{IsDriverOf}
use Rattle.mdb_checks_mid.proofs.closed_pools.follow_all.Given as goal

abbrev pub invariant-loop-moment : goal.invariant-loop-moment
invariant-loop-moment l = shadow (Utf8 l.rest) × IsDriverOf l.core l.log
