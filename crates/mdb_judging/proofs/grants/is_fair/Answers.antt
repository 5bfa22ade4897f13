use Rattle.std.proofs.Common.{List, subst, sym, IfOk}
use Rattle.mdb_log.specs.History.{Item}
use Rattle.mdb_log.specs.declared.options.PoolOptions.{PoolOptions}
use Rattle.mdb_judging.specs.Fairness.{FairFact}
use Rattle.mdb_tallies.specs.Kept.{Stands}
use Rattle.mdb_judging.specs.Queueing.{QueuesStand}
use Rattle.mdb_judging.specs.Taking.{Tells}
use Rattle.mdb_judging.proofs.grants.is_fair.Goals as goal

pub returns-in-Granted-clause-answer : goal.returns-in-Granted-clause-answer
returns-in-Granted-clause-answer c = subst (λ f. IfOk c.is_first_come.result (λ b. (o : PoolOptions) (h : List Item) → Stands o h c.args.tables.now → QueuesStand h c.args.queues.now → Tells b (FairFact h f))) (sym c.in-Granted.is) c.is_first_come.ensures.answer
