-- What the search for a caller's connection finds: the available connections, the one that came back last first, and a new one only where none is left. The items of a pool are newest first.
use Rattle.std.specs.Prelude.{ℕ, ◌≡◌, ◌⊎◌, false, List, [], ◌∷◌, Some, ⊤}
use Rattle.mdb_events.specs.declared.fact.Fact.{Fact}
use Rattle.mdb_events.specs.declared.fact.Fact.TheVariants.{Granted}
use Rattle.mdb_log.specs.History.{PoolItem, after_fact}
use Rattle.mdb_log.specs.Connections.{available_list}
use Rattle.mdb_log.specs.Requests.{is_warm}
use Rattle.mdb_pool_rules.specs.Serving.{last_of}

-- A caller gets the available connection that came back last, or another one where none is available.
abbrev pub GetsLast : List PoolItem → ℕ → ℕ → Type 0
GetsLast xs r c = is_warm xs r ≡ false → (last_of (available_list xs) ≡ Some c) ⊎ (available_list xs ≡ [])

-- so does the party of a grant
abbrev pub GrantsLast : List PoolItem → Fact → Type 0
GrantsLast xs (Granted r q c) = GetsLast xs r c
GrantsLast xs _ = ⊤

-- each of the facts, where those before it have come
abbrev pub AllGrantLast : ℕ → ℕ → List PoolItem → List Fact → Type 0
AllGrantLast p m xs [] = ⊤
AllGrantLast p m xs (fact ∷ facts) = GrantsLast xs fact × AllGrantLast p m (after_fact p m fact xs) facts
