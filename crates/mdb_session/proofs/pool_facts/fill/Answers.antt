use Rattle.std.proofs.Common.{arith}
use Rattle.mdb_session.specs.PoolFacts.{pool_fact_numbers}
use Rattle.mdb_session.proofs.Filled.{fills}
use Rattle.mdb_session.proofs.pool_facts.fill.Goals as goal

pub loop-index-preserved : goal.loop-index-preserved
loop-index-preserved c =
    fills pool_fact_numbers c.args.facts.now c.args.out.now c.loop-index.out c.loop-index.index c.index-facts-index.result c.pool_fact_numbers.result
    (omega arith) (omega arith) c.loop-index.invariant c.index-facts-index.is c.pool_fact_numbers.ensures
