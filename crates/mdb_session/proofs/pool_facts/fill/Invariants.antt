use Rattle.std.proofs.Common.{◌≡◌, map}
use lib.Seq.{paste}
use Rattle.mdb_session.specs.PoolFacts.{pool_fact_numbers}
use Rattle.mdb_session.proofs.pool_facts.fill.Given as goal

abbrev pub invariant-loop-index : goal.invariant-loop-index
invariant-loop-index l = l.out ≡ paste l.fn.out 0 (map pool_fact_numbers l.facts) l.index
