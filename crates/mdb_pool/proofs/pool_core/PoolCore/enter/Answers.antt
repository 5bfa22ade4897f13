use Rattle.std.proofs.Common.{List, subst}
use Rattle.mdb_log.specs.History.{Item}
use Rattle.mdb_pool.specs.Core.{PoolCore}
use Rattle.mdb_pool.specs.Standing.{SameHome, StandsFor, Logs}
use Rattle.mdb_pool.proofs.SameAnswers.KeptTheSame.{home_same, logs_same, stands_same}
use Rattle.mdb_pool.proofs.pool_core.PoolCore.enter.Goals as goal

pub returns-in-Ok-clause-home : goal.returns-in-Ok-clause-home
returns-in-Ok-clause-home c =
    subst (λ (p : PoolCore). SameHome p c.commit.new.self) c.self.view_is (home_same c.self.inside.draft c.log_step.new.self c.commit.new.self c.commit.ensures.same c.in-Ok.ensures.home)

pub returns-in-Ok-clause-logs : goal.returns-in-Ok-clause-logs
returns-in-Ok-clause-logs c =
    let before = c.args.log.now in let after = c.log_step.new.log in let step = c.args.step.now in
    subst (λ (p : PoolCore). (h : List Item) → StandsFor p h → Logs p c.commit.new.self before after c.args.seat step h) c.self.view_is
    (λ h z. logs_same c.self.inside.draft c.log_step.new.self c.commit.new.self before after c.args.seat step h c.commit.ensures.same (c.in-Ok.ensures.logs h z))

pub invariant_of-self : goal.invariant_of-self
invariant_of-self c =
    let some = c.self.invariant.1 in
    (c.commit.ensures.now, (_, stands_same c.log_step.new.self c.commit.new.self _ c.commit.ensures.same (c.in-Ok.ensures.logs some.0 some.1).stands))
