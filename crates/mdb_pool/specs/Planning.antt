-- What a step does in its two parts: the answers of the first, and the pool that the second leads to.
use Rattle.std.specs.Prelude.{ℕ, ◌≡◌, List, [], ◌∷◌, ◌++◌, Option, Some, None}
use Rattle.mdb_base.specs.declared.address.ServerAddress.{ServerAddress}
use Rattle.mdb_events.specs.declared.fact.Fact.{Fact}
use Rattle.mdb_log.specs.declared.log.Entry.{Entry}
use Rattle.mdb_log.specs.declared.options.PoolOptions.{PoolOptions}
use Rattle.mdb_log.specs.declared.step.Step.{Step}
use Rattle.mdb_log.specs.declared.step.Act.{Act}
use Rattle.mdb_log.specs.declared.reply.Reply.{Reply}
use Rattle.mdb_log.specs.declared.reply.Reply.TheVariants.{Refused as RefusedBy}
use Rattle.mdb_log.specs.declared.reply.Refused.{Refused}
use Rattle.mdb_log.specs.Answer.{Answer}
use Rattle.mdb_log.specs.History.{Item, PoolItem, after_act, after_facts, of_pool, with_answer}
use Rattle.mdb_log.specs.Legal.{NoneLeftWaiting}
use Rattle.mdb_pool.specs.Kept.Body.{PoolSteps, PoolFits, led}
use Rattle.mdb_pool.specs.Core.{PoolCore, SameKept}
use Rattle.mdb_pool.specs.declared.planning.Answered.{Answered}
use Rattle.mdb_pool_rules.specs.Answer.{answer}
use Rattle.mdb_pool_rules.specs.Refusal.{refusal_of}
use Rattle.mdb_pool.specs.Now.{last_now}
use Rattle.mdb_pool.specs.Refusing.{refusal_now}
use Rattle.mdb_pool.specs.Standing.{Fits, SameHome, StandsFor, StandsForSome, Accepts}

-- what the pool p knows with an act that it accepts at the moment m
abbrev pub with_item : ℕ → ℕ → Act → List PoolItem → List PoolItem
with_item p m act xs = after_act p (λ a. Some p) m act xs

-- what it knows with the answer to an act; a refused one adds nothing
abbrev pub with_reply : ℕ → Step → Reply → List Fact → List PoolItem → List PoolItem
with_reply p step (RefusedBy why) facts xs = xs
with_reply p step reply facts xs = after_facts p step.moment facts (with_item p step.moment step.act xs)

-- the pool does an act that it accepts, on all items that it fits
abbrev pub Does : PoolCore → PoolCore → List Fact → List Fact → Step → Reply → Type 0
Does s t before after step reply = (xs : List PoolItem) → Fits s xs → Accepts s t before after step.moment step.act reply xs (with_item s.pool step.moment step.act xs)

-- an accepted step: the pool stays at home, its last moment is that of the step, and it does the act
pub record IsDone (s t : PoolCore) (step : Step) (a : Answered) : Type 0 where
  pub home : SameHome s t
  pub last : last_now t ≡ step.moment
  pub does : Does s t [] a.facts step a.reply

-- no row refuses the step, on any history that the pool stands for
abbrev pub Passes : PoolCore → Step → Type 0
Passes s step = (h : List Item) → StandsFor s h → refusal_of s.pool s.options h step ≡ None

-- one step: refused by its cause, without facts and change, or done
abbrev pub DoesOne : PoolCore → PoolCore → Step → Answered → Option Refused → Type 0
DoesOne s t step a (Some why) = (a ≡ record { reply = RefusedBy why; facts = [] }) × (t ≡ s)
DoesOne s t step a None = IsDone s t step a

-- steps one after another, each after those before it
abbrev pub DoesAll : PoolCore → PoolCore → List Step → List Answered → Type 0
DoesAll s t [] told = (told ≡ []) × (t ≡ s)
DoesAll s t (step ∷ steps) told = (a : Answered) × (rest : List Answered) × (u : PoolCore) × (told ≡ a ∷ rest) × DoesOne s u step a (refusal_now s step) × DoesAll u t steps rest

-- steps one after another, after which the pool keeps what this one keeps
abbrev pub LeadsTo : PoolCore → PoolCore → List Step → List Answered → Type 0
LeadsTo s t steps told = (u : PoolCore) × SameKept u t × DoesAll s u steps told

-- the step is done and logged: the log has one entry more, with its reply and its facts
abbrev pub DoesLogged : PoolCore → PoolCore → List Entry → List Entry → ℕ → Step → Reply → Type 0
DoesLogged s t before after seat step reply = (facts : List Fact) × IsDone s t step (record { reply = reply; facts = facts })
    × (after ≡ before ++ record { seat = seat; step = step; reply = reply; facts = facts } ∷ [])

-- the answers to steps after a history, each after those before it
abbrev pub answered_as : Answer → Answered
answered_as a = record { reply = a.reply; facts = a.facts }

abbrev pub answers_for : ℕ → ServerAddress → PoolOptions → List Item → List Step → List Answered
answers_for p a o h [] = []
answers_for p a o h (step ∷ steps) = answered_as (answer p a o h step) ∷ answers_for p a o (with_answer step (answer p a o h step).reply (answer p a o h step).facts h) steps

-- the history with these steps and their answers
abbrev pub with_steps : ℕ → ServerAddress → PoolOptions → List Item → List Step → List Item
with_steps p a o h [] = h
with_steps p a o h (step ∷ steps) = with_steps p a o (with_answer step (answer p a o h step).reply (answer p a o h step).facts h) steps

-- the first part answers the steps as a history tells, and the pool that they lead to stands for it with their answers
pub record IsPrepared (s t : PoolCore) (steps : List Step) (told : List Answered) (h : List Item) : Type 0 where
  pub answers : told ≡ answers_for s.pool s.address s.options h steps
  pub stands : StandsFor t (with_steps s.pool s.address s.options h steps)
  pub none_left : NoneLeftWaiting s.options (of_pool s.pool h) → NoneLeftWaiting s.options (of_pool s.pool (with_steps s.pool s.address s.options h steps))

-- what a plan is to its callers: nothing but a change of its pool
abbrev pub Plan : Type 0
Plan = PoolSteps

-- the plan leads the pool to this one, which stands for some history too
unfoldable pub Plans : Plan → PoolCore → PoolCore → Type 0
Plans plan s t = PoolFits plan s.kept.inner × (led plan s ≡ t) × StandsForSome t

-- the plan was made on the pool, which no call changed since
abbrev pub IsPlanOf : Plan → PoolCore → Type 0
IsPlanOf plan s = (t : PoolCore) × Plans plan s t
