-- Whose facts are: those of one pool alone, and which of them close it; and what an accepted reply is.
use Rattle.std.specs.List.{list_any}
use Rattle.std.specs.Prelude.{ℕ, Bool, ◌≡◌, true, false, List, [], ◌∷◌, ⊤}
use Rattle.mdb_events.specs.declared.fact.Fact.{Fact}
use Rattle.mdb_events.specs.declared.fact.Fact.TheVariants.{Pool, Granted, Ended, Raised}
use Rattle.mdb_events.specs.declared.cmap.CmapEvent.TheVariants.{PoolCreated, PoolClosed}
use Rattle.mdb_log.specs.declared.reply.Reply.{Reply}
use Rattle.mdb_log.specs.declared.reply.Reply.TheVariants.{Refused}
use Rattle.mdb_log.specs.History.{PoolItem, after_fact, has_asked}

-- the fact closes a pool
abbrev pub is_closing : Fact → Bool
is_closing (Pool q (PoolClosed e)) = true
is_closing _ = false

-- some of the facts does
abbrev pub shuts : List Fact → Bool
shuts facts = list_any is_closing facts

-- the fact is of the pool p alone, and opens no pool
abbrev pub IsOwn : ℕ → List PoolItem → Fact → Type 0
IsOwn p xs (Pool q (PoolCreated e)) = ⊥
IsOwn p xs (Pool q event) = q ≡ p
IsOwn p xs (Granted r q c) = q ≡ p
IsOwn p xs (Ended r end) = has_asked xs r ≡ true
IsOwn p xs (Raised q service error) = q ≡ p
IsOwn p xs _ = ⊥

abbrev pub AllOwn : ℕ → ℕ → List PoolItem → List Fact → Type 0
AllOwn p m xs [] = ⊤
AllOwn p m xs (fact ∷ facts) = IsOwn p xs fact × AllOwn p m (after_fact p m fact xs) facts

-- a reply that is no refusal
abbrev pub IsAccepted : Reply → Type 0
IsAccepted (Refused why) = ⊥
IsAccepted _ = ⊤
