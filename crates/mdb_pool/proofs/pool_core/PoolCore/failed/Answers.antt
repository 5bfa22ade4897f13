use Rattle.std.proofs.Common.{rules}
use Rattle.mdb_log.specs.declared.step.Act.TheVariants.{Failed}
use Rattle.mdb_pool.specs.Now.{queries}
use Rattle.mdb_pool.proofs.Answered.Steps.{on-error, passes, refuses-now}
use Rattle.mdb_pool.proofs.pool_core.PoolCore.failed.Goals as goal

pub returns-in-Some-clause-answers : goal.returns-in-Some-clause-answers
unfolding queries
returns-in-Some-clause-answers c = refuses-now c.args.self.now c.args.facts.now.items (record { moment = c.args.moment; act = Failed c.args.self.now.pool c.args.id c.args.at c.args.error }) c.in-Some.why (search (rules, c.in-Some.ensures c.args.error))

pub returns-in_err-error-clause-passes : goal.returns-in_err-error-clause-passes
unfolding queries
returns-in_err-error-clause-passes c = on-error c.from_residual.result (passes c.args.self.now (record { moment = c.args.moment; act = Failed c.args.self.now.pool c.args.id c.args.at c.args.error }) (search (rules, c.in_default.ensures c.args.error)))
