-- What a pool answers to a step after a history: the reply, and the facts that the step makes.
use Rattle.std.specs.Prelude.{ℕ, Bool, if◌then◌else◌, is_some, List, [], ◌∷◌, ◌++◌, Option, Some, None}
use Rattle.mdb_base.specs.declared.address.ServerAddress.{ServerAddress}
use Rattle.mdb_events.specs.declared.fact.Fact.{Fact}
use Rattle.mdb_log.specs.declared.options.PoolOptions.{PoolOptions}
use Rattle.mdb_log.specs.declared.step.Step.{Step}
use Rattle.mdb_log.specs.declared.step.Act.{Act}
use Rattle.mdb_log.specs.declared.step.Act.TheVariants.{Request, Warm, Collect, Claim, GiveUp, Take}
use Rattle.mdb_log.specs.declared.reply.Refused.{Refused}
use Rattle.mdb_log.specs.declared.reply.Reply.{Reply}
use Rattle.mdb_log.specs.declared.reply.Reply.TheVariants.{Pooled, Job, NoJob, Done, Refused as RefusedBy}
use Rattle.mdb_log.specs.declared.log.Entry.{Entry}
use Rattle.mdb_log.specs.Answer.{Answer}
use Rattle.mdb_log.specs.History.{Item, PoolItem, after_facts, of_pool, with_act, with_answer}
use Rattle.mdb_log.specs.Connections.{pending_list}
use Rattle.mdb_log.specs.Requests.{end_of, outcome_of, is_claimed}
use Rattle.mdb_pool_rules.specs.Refusal.{refusal_of}
use Rattle.mdb_pool_rules.specs.Facts.{act_facts}
use Rattle.mdb_pool_rules.specs.Serving.{serving}

-- the first of the connections that is not claimed
abbrev pub first_job : ℕ → (ℕ → Bool) → List ℕ → Reply
first_job p claimed [] = NoJob
first_job p claimed (c ∷ cs) = if claimed c then first_job p claimed cs else Job p c

-- the reply to an accepted act; xs is what the pool knew before it, and zs what it knows after the facts
abbrev pub reply_of : ℕ → (ℕ → Bool) → List PoolItem → List PoolItem → Act → Reply
reply_of p claimed xs zs (Request r a) = outcome_of p zs r
reply_of p claimed xs zs (Warm r a) = outcome_of p zs r
reply_of p claimed xs zs (Collect r) = outcome_of p zs r
reply_of p claimed xs zs Claim = first_job p claimed (pending_list xs)
reply_of p claimed xs zs (GiveUp r) = if is_some (end_of xs r) then outcome_of p xs r else Done
reply_of p claimed xs zs (Take r q c) = Pooled q c
reply_of p claimed xs zs _ = Done

-- all facts of an accepted act: its own, and then those of the serving
abbrev pub all_facts : ℕ → ServerAddress → PoolOptions → ℕ → List PoolItem → List PoolItem → Act → List Fact
all_facts p a o m xs ys act = let facts : List Fact = act_facts p a o m xs ys act in facts ++ serving p a o m (after_facts p m facts ys)

-- a refused step has its refusal and no facts
abbrev pub answered : ℕ → ServerAddress → PoolOptions → List Item → Step → Option Refused → Answer
answered p a o h step (Some why) = record { reply = RefusedBy why; facts = [] }
answered p a o h step None =
    let facts : List Fact = all_facts p a o step.moment (of_pool p h) (with_act p h step) step.act in
    record { reply = reply_of p (is_claimed h p) (of_pool p h) (after_facts p step.moment facts (with_act p h step)) step.act; facts = facts }

-- the answer of the pool p at the address a to the step after the history
abbrev pub answer : ℕ → ServerAddress → PoolOptions → List Item → Step → Answer
answer p a o h step = answered p a o h step (refusal_of p o h step)

-- the entry of the step, by the seat
abbrev pub entry_for : ℕ → ServerAddress → PoolOptions → ℕ → List Item → Step → Entry
entry_for p a o seat h step = record { seat = seat; step = step; reply = (answer p a o h step).reply; facts = (answer p a o h step).facts }

-- the entries of steps one after another, each the answer after those before it
abbrev pub entries_for : ℕ → ServerAddress → PoolOptions → ℕ → List Item → List Step → List Entry
entries_for p a o seat h [] = []
entries_for p a o seat h (step ∷ steps) = entry_for p a o seat h step ∷ entries_for p a o seat (with_answer step (answer p a o h step).reply (answer p a o h step).facts h) steps
