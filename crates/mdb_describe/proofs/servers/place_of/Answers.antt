use Rattle.std.proofs.Common.{sym, arith}
use Rattle.mdb_describe.proofs.Walks.{store_here, store_end, stores_on}
use Rattle.mdb_describe.proofs.servers.place_of.Goals as goal

pub loop-at-preserved : goal.loop-at-preserved
loop-at-preserved c = λ d e. stores_on d c.args.servers.now c.loop-at.at c.index-servers-at.result (c.loop-at.invariant d e) (omega arith) c.index-servers-at.is (cc)

pub returns-then-is-clause-found : goal.returns-then-is-clause-found
returns-then-is-clause-found c = λ d e. sym (store_here d c.args.servers.now c.loop-at.at c.index-servers-at.result (omega arith) c.index-servers-at.is (c.loop-at.invariant d e) (cc))

pub returns-clause-none : goal.returns-clause-none
returns-clause-none c = λ d e. sym (store_end d c.args.servers.now c.loop-at.at (c.loop-at.invariant d e) (omega arith))
