use Rattle.std.proofs.Common.{sym, ◌∙◌}
use Rattle.mdb_pool.proofs.Answered.Steps.{refuses-now}
use Rattle.mdb_pool.proofs.pool_core.PoolCore.attempt.Goals as goal

pub returns-in-Some-clause-answers : goal.returns-in-Some-clause-answers
returns-in-Some-clause-answers c = refuses-now c.args.self.now c.args.facts.now.items c.args.step.now c.in-Some.why (sym c.refuses.ensures ∙ c.in-Some.is)
