use Rattle.std.proofs.Common.{◌∙◌}
use Rattle.mdb_pool.proofs.Answered.Refusal.{refused-now}
use Rattle.mdb_pool.proofs.pool_core.PoolCore.refusal_now.Goals as goal

pub returns-clause-history : goal.returns-clause-history
returns-clause-history c = λ h z. c.refuses.ensures ∙ refused-now c.args.self.now h z c.args.step.now
