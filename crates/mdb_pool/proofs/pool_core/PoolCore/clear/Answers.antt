use Rattle.std.proofs.Common.{rules}
use Rattle.mdb_log.specs.declared.step.Act.TheVariants.{Clear}
use Rattle.mdb_pool.specs.Now.{queries}
use Rattle.mdb_pool.proofs.Answered.Steps.{on-error, passes, refuses-now}
use Rattle.mdb_pool.proofs.pool_core.PoolCore.clear.Goals as goal

pub returns-in-Some-clause-answers : goal.returns-in-Some-clause-answers
unfolding queries
returns-in-Some-clause-answers c = refuses-now c.args.self.now c.args.facts.now.items (record { moment = c.args.moment; act = Clear c.args.self.now.pool c.args.service c.args.cause }) c.in-Some.why (search (rules, c.in-Some.ensures c.args.self.now.pool c.args.cause))

pub returns-in_err-cause-clause-passes : goal.returns-in_err-cause-clause-passes
unfolding queries
returns-in_err-cause-clause-passes c = on-error c.from_residual.result (passes c.args.self.now (record { moment = c.args.moment; act = Clear c.args.self.now.pool c.args.service c.args.cause }) (search (rules, c.in_default.ensures c.args.self.now.pool c.args.cause)))
