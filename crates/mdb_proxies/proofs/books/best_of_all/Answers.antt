use Rattle.std.proofs.Common.{take, arith}
use Rattle.mdb_proxies.proofs.Next.{best-more, best-all, best-within}
use Rattle.mdb_proxies.proofs.books.best_of_all.Goals as goal

pub better-best-requires-clause-best : goal.better-best-requires-clause-best
better-best-requires-clause-best c = best-within c.args.shares.now c.args.standing.now (take c.loop-at.at c.args.standing.now) c.loop-at.best c.loop-at.invariant

pub loop-at-preserved : goal.loop-at-preserved
loop-at-preserved c = best-more c.args.shares.now c.args.standing.now c.loop-at.at c.loop-at.best c.better-best.result (omega arith) c.better-best.ensures c.loop-at.invariant

pub returns : goal.returns
returns c = best-all c.args.shares.now c.args.standing.now c.loop-at.at c.loop-at.best (omega arith) c.loop-at.invariant
