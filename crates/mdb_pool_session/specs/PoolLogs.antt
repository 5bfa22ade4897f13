-- A pool that stands alone and its log: its history, and what it answers.
use Rattle.std.specs.Prelude.{ℕ, List, [], ◌∷◌, ◌++◌, Option, Some, None}
use Rattle.mdb_base.specs.declared.address.ServerAddress.{ServerAddress}
use Rattle.mdb_events.specs.declared.fact.Fact.{Fact}
use Rattle.mdb_log.specs.declared.log.Entry.{Entry}
use Rattle.mdb_log.specs.declared.options.PoolOptions.{PoolOptions}
use Rattle.mdb_log.specs.declared.step.Step.{Step}
use Rattle.mdb_log.specs.Answer.{Answer}
use Rattle.mdb_log.specs.History.{Item, PoolItem, of_pool, opening, with_entries}
use Rattle.mdb_pool_rules.specs.Answer.{answer, entry_for}
use Rattle.mdb_pool_session.specs.declared.pool_act.PoolAct.{PoolAct}
use Rattle.mdb_pool_session.specs.PoolActs.{act_of}

-- a pool, by its number, its address and its options, and the entries of its log, oldest first
pub record PoolLog : Type 0 where
  pub number : ℕ
  pub address : ServerAddress
  pub options : PoolOptions
  pub entries : List Entry

-- a pool that was just made, of which no step was told
abbrev pub opened : ℕ → ServerAddress → PoolOptions → PoolLog
opened p a o = record { number = p; address = a; options = o; entries = [] }

-- its history: its making, and then its entries
abbrev pub history : PoolLog → List Item
history l = with_entries l.entries (opening l.number l.address l.options)

-- what the history says of the pool
abbrev pub items : PoolLog → List PoolItem
items l = of_pool l.number (history l)

-- the step at the moment that does this
abbrev pub step_of : PoolLog → ℕ → PoolAct → Step
step_of l m act = record { moment = m; act = act_of l.number l.address act }

-- the answer to the step after the log
abbrev pub answer_after : PoolLog → Step → Answer
answer_after l step = answer l.number l.address l.options (history l) step

-- the log with the entry of the step, by the seat
abbrev pub logged : ℕ → PoolLog → Step → PoolLog
logged seat l step = record l { entries = l.entries ++ entry_for l.number l.address l.options seat (history l) step ∷ [] }

-- the last entry
abbrev pub last_entry : List Entry → Option Entry
last_entry [] = None
last_entry (e ∷ []) = Some e
last_entry (e ∷ f ∷ entries) = last_entry (f ∷ entries)

-- the facts of an entry, and none where there is none
abbrev pub facts_in : Option Entry → List Fact
facts_in None = []
facts_in (Some e) = e.facts

-- the facts of the last entry
abbrev pub last_facts : PoolLog → List Fact
last_facts l = facts_in (last_entry l.entries)
