-- Which connections a step has to close: what each situation names is closed by the answer.
use Rattle.std.specs.Prelude.{ℕ, ◌≡◌, ◌⊎◌, true, List, [], ◌∷◌, ◌++◌, Option, Some, ⊤}
use Rattle.mdb_base.specs.declared.address.ServerAddress.{ServerAddress}
use Rattle.mdb_events.specs.declared.cmap.CmapEvent.TheVariants.{ConnectionClosed}
use Rattle.mdb_events.specs.declared.fact.Fact.{Fact}
use Rattle.mdb_events.specs.declared.fact.Fact.TheVariants.{Pool}
use Rattle.mdb_events.specs.declared.reasons.ConnectionClosedReason.{ConnectionClosedReason}
use Rattle.mdb_events.specs.declared.reasons.ConnectionClosedReason.TheVariants.{Error, PoolClosed as AsPoolClosed}
use Rattle.mdb_log.specs.declared.options.PoolOptions.{PoolOptions}
use Rattle.mdb_log.specs.declared.log.Entry.{Entry}
use Rattle.mdb_log.specs.declared.reply.Reply.{Reply}
use Rattle.mdb_log.specs.declared.reply.Reply.TheVariants.{Refused}
use Rattle.mdb_log.specs.declared.step.Step.{Step}
use Rattle.mdb_log.specs.declared.step.Act.{Act}
use Rattle.mdb_log.specs.declared.step.Act.TheVariants.{Failed, Return, GiveUp, Unpin, Maintain, Close}
use Rattle.mdb_log.specs.History.{Item, PoolItem, is_number, of_pool, open_pool, has_asked, with_answer}
use Rattle.mdb_log.specs.Connections.{has, available_list, pending_list, holding, pins, is_pinned}
use Rattle.mdb_log.specs.State.{is_closed, state_of}
use Rattle.mdb_pool_laws.specs.CloseCauses.{reason_found}

-- the fact closes the connection c of the pool p for the reason
abbrev pub IsCloseOf : ℕ → ℕ → ConnectionClosedReason → Fact → Type 0
IsCloseOf p c why (Pool q (ConnectionClosed e)) = (q ≡ p) × (e.connection_id ≡ c) × (e.reason ≡ why)
IsCloseOf p c why _ = ⊥

-- some of the facts does
abbrev pub Closes : ℕ → ℕ → ConnectionClosedReason → List Fact → Type 0
Closes p c why [] = ⊥
Closes p c why (f ∷ fs) = IsCloseOf p c why f ⊎ Closes p c why fs

-- a connection without pins that the party holds of a closed pool is closed
abbrev pub ClosesHeld : ℕ → PoolOptions → List PoolItem → ℕ → List Fact → Type 0
ClosesHeld p o xs r facts = (c : ℕ) → holding xs r ≡ Some c → state_of o xs ≡ is_closed → pins xs c ≡ 0 → Closes p c AsPoolClosed facts

-- What an accepted act closes of the pool p: xs are its items before the step, m is the moment, and here tells the pool that is open at an address.
abbrev pub Due : ℕ → PoolOptions → (ServerAddress → Option ℕ) → ℕ → List PoolItem → Act → List Fact → Type 0
-- the connection that failed
Due p o here m xs (Failed q c at error) facts = q ≡ p → Closes p c Error facts
-- what comes back to a closed pool, unless a pin stands
Due p o here m xs (Return r used) facts = ClosesHeld p o xs r facts
Due p o here m xs (GiveUp r) facts = has_asked xs r ≡ true → ClosesHeld p o xs r facts
Due p o here m xs (Unpin q c) facts = q ≡ p → is_pinned xs c ≡ true → pins xs c ≡ 1 → state_of o xs ≡ is_closed → Closes p c AsPoolClosed facts
-- each available connection that is stale or idle, where the pool of the address is maintained
Due p o here m xs (Maintain a) facts = is_number (here a) p ≡ true → (c : ℕ) (why : ConnectionClosedReason) → has c (available_list xs) ≡ true → reason_found o m xs c ≡ Some why → Closes p c why facts
Due p o here m xs _ facts = ⊤

-- so does an accepted act of a pool that stands alone; where the pool itself is closed, each available and each pending connection is
abbrev pub DueAlone : ℕ → PoolOptions → (ServerAddress → Option ℕ) → ℕ → List PoolItem → Act → List Fact → Type 0
DueAlone p o here m xs (Close q) facts = (c : ℕ) → has c (available_list xs ++ pending_list xs) ≡ true → Closes p c AsPoolClosed facts
DueAlone p o here m xs act facts = Due p o here m xs act facts

-- what an accepted step closes of the pool p, which stands alone
abbrev pub PoolDue : ℕ → PoolOptions → List Item → Step → Reply → List Fact → Type 0
PoolDue p o h step (Refused why) facts = ⊤
PoolDue p o h step _ facts = DueAlone p o (open_pool h) step.moment (of_pool p h) step.act facts

-- what an accepted step closes of each pool
abbrev pub AnswerDue : PoolOptions → List Item → Step → Reply → List Fact → Type 0
AnswerDue o h step (Refused why) facts = ⊤
AnswerDue o h step _ facts = (p : ℕ) → Due p o (open_pool h) step.moment (of_pool p h) step.act facts

-- and each of the entries, one after another
abbrev pub EntriesDue : PoolOptions → List Item → List Entry → Type 0
EntriesDue o h [] = ⊤
EntriesDue o h (entry ∷ entries) = AnswerDue o h entry.step entry.reply entry.facts × EntriesDue o (with_answer entry.step entry.reply entry.facts h) entries
