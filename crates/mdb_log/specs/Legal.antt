-- When the log of a pool is legal.
use Rattle.std.specs.Prelude.{ℕ, ◌≡◌, ◌+◌, ◌≤◌, ◌⊎◌, true, false, List, [], ◌∷◌, Option, Some, None, ⊤}
use Rattle.std.specs.Bool.{MatchBool}
use Rattle.mdb_events.specs.declared.fact.Fact.{Fact}
use Rattle.mdb_events.specs.declared.fact.Fact.TheVariants.{Granted}
use Rattle.mdb_log.specs.declared.options.PoolOptions.{PoolOptions}
use Rattle.mdb_log.specs.declared.step.Step.{Step}
use Rattle.mdb_log.specs.declared.log.Entry.{Entry}
use Rattle.mdb_log.specs.declared.reply.Reply.{Reply}
use Rattle.mdb_log.specs.declared.reply.Reply.TheVariants.{Refused}
use Rattle.mdb_log.specs.History.{Item, PoolItem, of_pool, after_fact, with_answer, with_act}
use Rattle.mdb_log.specs.Connections.{has, live, pending, available, held, pinned}
use Rattle.mdb_log.specs.Requests.{queued, waiting, is_warm}
use Rattle.mdb_log.specs.State.{could_be_granted}

-- Each connection has exactly one place while it lives, and none else.
abbrev pub OnePlace : List PoolItem → Type 0
OnePlace xs = (c : ℕ) → (pending xs c + available xs c + held xs c + pinned xs c ≡ live xs c) × (live xs c ≤ 1)

-- Nobody waits who could be granted a connection.
abbrev pub NoneLeftWaiting : PoolOptions → List PoolItem → Type 0
NoneLeftWaiting o xs = (waiting xs ≡ []) ⊎ (could_be_granted o xs ≡ false)

abbrev pub first : List ℕ → Option ℕ
first [] = None
first (n ∷ ns) = Some n

-- the request may be granted a connection next: a queued warm one, or the caller that waits longest
abbrev pub IsNext : List PoolItem → ℕ → Type 0
IsNext xs r = MatchBool (is_warm xs r) (has r (queued xs) ≡ true) (first (waiting xs) ≡ Some r)

-- A grant is of the pool's own connection, to the caller that waits longest or to a queued warm request.
abbrev pub FirstCome : ℕ → List PoolItem → Fact → Type 0
FirstCome p xs (Granted r q c) = (q ≡ p) × IsNext xs r
FirstCome p xs _ = ⊤

-- each of the facts, where those before it have come
abbrev pub AllFirstCome : ℕ → ℕ → List PoolItem → List Fact → Type 0
AllFirstCome p m xs [] = ⊤
AllFirstCome p m xs (fact ∷ facts) = FirstCome p xs fact × AllFirstCome p m (after_fact p m fact xs) facts

-- the grants of an answer are to those who come first; a refusal has no facts
abbrev pub IsFairAnswer : ℕ → List Item → Step → Reply → List Fact → Type 0
IsFairAnswer p h step (Refused why) facts = facts ≡ []
IsFairAnswer p h step _ facts = AllFirstCome p step.moment (with_act p h step) facts

-- The entries are a legal continuation of the history: each grants to those who come first, and after each of them every connection has one place and nobody waits who could be granted one.
abbrev pub IsLegal : ℕ → PoolOptions → List Item → List Entry → Type 0
IsLegal p o h [] = ⊤
IsLegal p o h (entry ∷ entries) =
    let k : List Item = with_answer entry.step entry.reply entry.facts h in
    IsFairAnswer p h entry.step entry.reply entry.facts × OnePlace (of_pool p k) × NoneLeftWaiting o (of_pool p k) × IsLegal p o k entries
