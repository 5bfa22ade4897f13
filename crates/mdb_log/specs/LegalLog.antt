-- When the log of a driver is legal: its first entry alone opens the seeds, and after each entry every pool is in order and every grant went to who came first.
use Rattle.std.specs.Prelude.{ℕ, ◌≡◌, ◌<◌, ◌+◌, true, false, List, [], ◌∷◌, length, All, IsPermutation, ⊤}
use Rattle.mdb_base.specs.AddressOrder.{in_order}
use Rattle.mdb_base.specs.declared.address.ServerAddress.{ServerAddress}
use Rattle.mdb_base.specs.declared.options.Options.{Options}
use Rattle.mdb_events.specs.declared.fact.Fact.{Fact}
use Rattle.mdb_events.specs.declared.fact.Fact.TheVariants.{Granted}
use Rattle.mdb_log.specs.declared.options.PoolOptions.{PoolOptions}
use Rattle.mdb_log.specs.declared.step.Step.{Step}
use Rattle.mdb_log.specs.declared.step.Act.{Act}
use Rattle.mdb_log.specs.declared.step.Act.TheVariants.{Open}
use Rattle.mdb_log.specs.declared.log.Entry.{Entry}
use Rattle.mdb_log.specs.declared.reply.Reply.{Reply}
use Rattle.mdb_log.specs.declared.reply.Reply.TheVariants.{Refused}
use Rattle.mdb_log.specs.History.{Item, did, made, of_pool, with_answer, history_of}
use Rattle.mdb_log.specs.State.{is_ready, state_of}
use Rattle.mdb_log.specs.Legal.{OnePlace, NoneLeftWaiting, IsNext}
use Rattle.mdb_log.specs.Homes.{Home, homes}
use Rattle.mdb_log.specs.Opening.{is_opening, pool_options}

-- A grant is of a connection of the pool that the party asked, to the caller that waits longest there or to a warm request that is queued there.
abbrev pub FirstCome : List Item → Fact → Type 0
FirstCome h (Granted r q c) = IsNext (of_pool q h) r
FirstCome h _ = ⊤

-- each of the facts, where those before it have come
abbrev pub AllFirstCome : ℕ → List Item → List Fact → Type 0
AllFirstCome m h [] = ⊤
AllFirstCome m h (fact ∷ facts) = FirstCome h fact × AllFirstCome m (made m fact ∷ h) facts

-- the grants of an answer are to those who come first; a refusal has no facts
abbrev pub IsFairAnswer : List Item → Step → Reply → List Fact → Type 0
IsFairAnswer h step (Refused why) facts = facts ≡ []
IsFairAnswer h step reply facts = AllFirstCome step.moment (did step reply ∷ h) facts

-- In every pool each connection has one place, and nobody waits who could be granted a connection.
abbrev pub IsOrderly : PoolOptions → List Item → Type 0
IsOrderly o h = (p : ℕ) → OnePlace (of_pool p h) × NoneLeftWaiting o (of_pool p h)

-- The entries are a legal continuation of the history: each grants to those who come first, and leaves the pools in order.
abbrev pub IsLegal : PoolOptions → List Item → List Entry → Type 0
IsLegal o h [] = ⊤
IsLegal o h (entry ∷ entries) =
    let k : List Item = with_answer entry.step entry.reply entry.facts h in
    IsFairAnswer h entry.step entry.reply entry.facts × IsOrderly o k × IsLegal o k entries

-- the addresses with their numbers, from n
abbrev pub numbered : ℕ → List ServerAddress → List Home
numbered n [] = []
numbered n (a ∷ more) = record { number = n; address = a } ∷ numbered (n + 1) more

-- One pool was opened for each seed, in the order of the addresses, with numbers from 0, and they are ready behind a load balancer. A refused entry is in no history, so it opens none.
pub record OpensSeeds (o : Options) (h : List Item) : Type 0 where
  pub list : List ServerAddress
  pub same : IsPermutation o.seeds list
  pub ordered : in_order list ≡ true
  pub opened : homes h ≡ numbered 0 list
  pub ready : o.load_balanced ≡ true → (p : ℕ) → p < length (homes h) → state_of (pool_options o) (of_pool p h) ≡ is_ready

-- the first entry opens the seeds, and the others are legal steps of the pools that it opened, which were in order
pub record BeginsLegal (o : Options) (first : Entry) (log : List Entry) : Type 0 where
  pub opens : OpensSeeds o (history_of (first ∷ []))
  pub alone : All (λ e. is_opening e.step.act ≡ false) log
  pub orderly : IsOrderly (pool_options o) (history_of (first ∷ []))
  pub legal : IsLegal (pool_options o) (history_of (first ∷ [])) log

abbrev pub BeginsWith : Act → Entry → List Entry → Type 0
BeginsWith (Open o) first log = BeginsLegal o first log
BeginsWith _ first log = ⊥

-- Legal: the log is empty, or its first entry is its only opening, and opens the seeds; each grant goes to who comes first; and after each entry each connection has one place, and nobody waits who could be granted one.
abbrev pub IsLegalLog : List Entry → Type 0
IsLegalLog [] = ⊤
IsLegalLog (first ∷ log) = BeginsWith first.step.act first log
