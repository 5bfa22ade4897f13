use Rattle.std.proofs.Common.{rules, subst, List, ◌∙◌}
use Rattle.std.specs.Prelude.{IfOk}
use Rattle.mdb_log.specs.declared.step.Act.TheVariants.{Maintain as MaintainAct}
use Rattle.mdb_log.specs.History.{Item}
use Rattle.mdb_pool.specs.Now.{queries}
use Rattle.mdb_pool.specs.Standing.{StandsFor, Answers}
use Rattle.mdb_pool.proofs.Answered.Steps.{refuses-now}
use Rattle.mdb_pool.proofs.pool_core.PoolCore.maintain.Goals as goal

pub returns-clause-answers : goal.returns-clause-answers
unfolding queries
returns-clause-answers c = subst (λ a. IfOk c.attempt-answer.result (λ reply. (h : List Item) → StandsFor c.args.self.now h → Answers c.args.self.now c.attempt-answer.new.self c.args.facts.now.items c.attempt-answer.new.facts.items (record { moment = c.args.moment; act = MaintainAct a }) reply h)) (c.in_ok-address.ensures.cases ∙ c.address.ensures) c.attempt-answer.ensures.answers

pub returns-in-Some-clause-answers : goal.returns-in-Some-clause-answers
unfolding queries
returns-in-Some-clause-answers c = refuses-now c.args.self.now c.args.facts.now.items (record { moment = c.args.moment; act = MaintainAct c.args.self.now.address }) c.in-Some.why (search rules)
