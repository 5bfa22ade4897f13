use Rattle.std.proofs.Common.{List, subst}
use Rattle.mdb_log.specs.History.{Item}
use Rattle.mdb_pool.specs.Core.{PoolCore}
use Rattle.mdb_pool.specs.Standing.{SameHome, StandsFor, Answers}
use Rattle.mdb_pool.proofs.Answered.Steps.{passes}
use Rattle.mdb_pool.proofs.SameAnswers.KeptTheSame.{home_same, answers_same, stands_same}
use Rattle.mdb_pool.proofs.pool_core.PoolCore.done.Goals as goal

pub returns-in-Ok-clause-home : goal.returns-in-Ok-clause-home
returns-in-Ok-clause-home c =
    subst (λ (p : PoolCore). SameHome p c.commit.new.self) c.self.view_is (home_same c.self.inside.draft c.tell_step.new.self c.commit.new.self c.commit.ensures.same c.in-Ok.ensures.home)

pub returns-in-Ok-clause-answers : goal.returns-in-Ok-clause-answers
returns-in-Ok-clause-answers c =
    let before = c.args.facts.now.items in let after = c.tell_step.new.facts.items in let step = c.args.step.now in let reply = c.in-Ok.reply in
    subst (λ (p : PoolCore). (h : List Item) → StandsFor p h → Answers p c.commit.new.self before after step reply h) c.self.view_is
    (λ h z. answers_same c.self.inside.draft c.tell_step.new.self c.commit.new.self before after step reply h c.commit.ensures.same (c.in-Ok.ensures.answers h z))

pub returns-in-Err-clause-passes : goal.returns-in-Err-clause-passes
returns-in-Err-clause-passes c = passes c.args.self.now c.args.step.now c.requires.passes

pub invariant_of-self : goal.invariant_of-self
invariant_of-self c =
    let some = c.self.invariant.1 in
    (c.commit.ensures.now, (_, stands_same c.tell_step.new.self c.commit.new.self _ c.commit.ensures.same (c.in-Ok.ensures.answers some.0 some.1).stands))
