-- What a pool grants is fresh: an available connection that is granted is neither stale nor idle before.
use Rattle.std.specs.Prelude.{ℕ, ◌≡◌, true, false, List, [], ◌∷◌, ⊤}
use Rattle.mdb_events.specs.declared.fact.Fact.{Fact}
use Rattle.mdb_events.specs.declared.fact.Fact.TheVariants.{Granted}
use Rattle.mdb_log.specs.declared.options.PoolOptions.{PoolOptions}
use Rattle.mdb_log.specs.declared.log.Entry.{Entry}
use Rattle.mdb_log.specs.History.{Item, PoolItem, after_fact, with_answer, with_act}
use Rattle.mdb_log.specs.Connections.{has, available_list}
use Rattle.mdb_log.specs.State.{is_stale, is_idle}

-- neither stale nor idle at the moment m
pub record IsFresh (o : PoolOptions) (m : ℕ) (xs : List PoolItem) (c : ℕ) : Type 0 where
  pub current : is_stale o xs c ≡ false
  pub recent : is_idle o m xs c ≡ false

-- where the fact grants an available connection, that is fresh
abbrev pub GrantsFresh : PoolOptions → ℕ → List PoolItem → Fact → Type 0
GrantsFresh o m xs (Granted r q c) = has c (available_list xs) ≡ true → IsFresh o m xs c
GrantsFresh o m xs _ = ⊤

-- each of the facts, where those before it have come
abbrev pub AllGrantFresh : ℕ → PoolOptions → ℕ → List PoolItem → List Fact → Type 0
AllGrantFresh p o m xs [] = ⊤
AllGrantFresh p o m xs (fact ∷ facts) = GrantsFresh o m xs fact × AllGrantFresh p o m (after_fact p m fact xs) facts

-- the facts of each entry, where the history, the entries before it and its own act have come
abbrev pub EntriesGrantFresh : ℕ → PoolOptions → List Item → List Entry → Type 0
EntriesGrantFresh p o h [] = ⊤
EntriesGrantFresh p o h (entry ∷ entries) = AllGrantFresh p o entry.step.moment (with_act p h entry.step) entry.facts × EntriesGrantFresh p o (with_answer entry.step entry.reply entry.facts h) entries
