-- What the log of a driver keeps beside its legality: the limits, and fresh grants.
use Rattle.std.specs.Prelude.{ℕ, List, [], ◌∷◌, ⊤}
use Rattle.mdb_events.specs.declared.fact.Fact.{Fact}
use Rattle.mdb_events.specs.declared.fact.Fact.TheVariants.{Granted}
use Rattle.mdb_log.specs.declared.options.PoolOptions.{PoolOptions}
use Rattle.mdb_log.specs.declared.step.Act.{Act}
use Rattle.mdb_log.specs.declared.step.Act.TheVariants.{Open}
use Rattle.mdb_log.specs.declared.log.Entry.{Entry}
use Rattle.mdb_log.specs.History.{Item, did, made, of_pool, with_answer, history_of}
use Rattle.mdb_log.specs.Limits.{WithinLimits}
use Rattle.mdb_log.specs.Fresh.{GrantsFresh}
use Rattle.mdb_log.specs.Opening.{pool_options}

-- in every pool, within the limits at each of its items
abbrev pub IsWithinLimits : PoolOptions → List Item → Type 0
IsWithinLimits o h = (p : ℕ) → WithinLimits o (of_pool p h)

abbrev pub LimitsOf : Act → List Item → Type 0
LimitsOf (Open o) h = IsWithinLimits (pool_options o) h
LimitsOf _ h = ⊤

-- Every pool was within the limits of the options that opened it, after every item.
abbrev pub KeepsLimits : List Entry → Type 0
KeepsLimits [] = ⊤
KeepsLimits (first ∷ log) = LimitsOf first.step.act (history_of (first ∷ log))

-- where the fact grants a connection that was available in its pool, that is neither stale nor idle
abbrev pub FreshGrant : PoolOptions → ℕ → List Item → Fact → Type 0
FreshGrant o m h (Granted r q c) = GrantsFresh o m (of_pool q h) (Granted r q c)
FreshGrant o m h _ = ⊤

-- each of the facts, where those before it have come
abbrev pub AllFreshGrants : PoolOptions → ℕ → List Item → List Fact → Type 0
AllFreshGrants o m h [] = ⊤
AllFreshGrants o m h (fact ∷ facts) = FreshGrant o m h fact × AllFreshGrants o m (made m fact ∷ h) facts

-- the facts of each entry after the history
abbrev pub EntriesGrantFresh : PoolOptions → List Item → List Entry → Type 0
EntriesGrantFresh o h [] = ⊤
EntriesGrantFresh o h (entry ∷ entries) = AllFreshGrants o entry.step.moment (did entry.step entry.reply ∷ h) entry.facts × EntriesGrantFresh o (with_answer entry.step entry.reply entry.facts h) entries

abbrev pub FreshOf : Act → List Item → List Entry → Type 0
FreshOf (Open o) h log = EntriesGrantFresh (pool_options o) h log
FreshOf _ h log = ⊤

-- No grant after the first entry gave an available connection that was stale or idle.
abbrev pub GrantsAllFresh : List Entry → Type 0
GrantsAllFresh [] = ⊤
GrantsAllFresh (first ∷ log) = FreshOf first.step.act (history_of (first ∷ [])) log
