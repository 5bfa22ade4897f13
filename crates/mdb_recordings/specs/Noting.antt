-- What one event changes in what is kept.
use Rattle.std.specs.Prelude.{◌≡◌, ℕ, ◌+◌, ◌==◌, Option, None, Some, if◌then◌else◌, []}
use Rattle.mdb_recordings.specs.Events.{id_of}
use Rattle.mdb_recordings.specs.Lives.{facts_of, turns_of}
use Rattle.mdb_recordings.specs.Steps.{caller_after, connection_after, facts_after, former_after_event, turns_after}
use Rattle.mdb_recordings.specs.Tables.{pool_at, connection_at, no_connection, caller_at, same_key}
use Rattle.mdb_recordings.specs.declared.caller.Caller.{Caller}
use Rattle.mdb_recordings.specs.declared.callers.Callers.{Callers}
use Rattle.mdb_recordings.specs.declared.connection.Connection.{Connection}
use Rattle.mdb_recordings.specs.declared.connections.Connections.{Connections}
use Rattle.mdb_recordings.specs.declared.facts.Facts.{Facts}
use Rattle.mdb_recordings.specs.declared.former.Former.{Former}
use Rattle.mdb_recordings.specs.declared.glance.Glance.{Glance}
use Rattle.mdb_recordings.specs.declared.event.Recorded.{Recorded}
use Rattle.mdb_recordings.specs.declared.pools.Pools.{Pools}
use Rattle.mdb_recordings.specs.declared.judge.Judge.{Judge}
use Rattle.mdb_recordings.specs.declared.turns.Turns.{Turns}

-- the pool at an address was replaced
abbrev pub SetsPool : ℕ → ℕ → Former → Facts → Turns → Pools → Pools → Type 0
SetsPool p n x f t old new = (q : ℕ) → pool_at new q ≡ if p == q then record { lives = n; former = x; facts = f; turns = t } else pool_at old q

-- the connection that is named was replaced, if one is named
abbrev pub SetsNamed : Option ℕ → ℕ → ℕ → Connection → Connections → Connections → Type 0
SetsNamed None p n c old new = new ≡ old
SetsNamed (Some id) p n c old new = (q m i : ℕ) → connection_at new q m i ≡ if same_key p n id q m i then c else connection_at old q m i

-- the check-out that is numbered was replaced, if one is
abbrev pub SetsNumbered : Option ℕ → ℕ → ℕ → Caller → Callers → Callers → Type 0
SetsNumbered None p n c old new = new ≡ old
SetsNumbered (Some id) p n c old new = (q m i : ℕ) → caller_at new q m i ≡ if same_key p n id q m i then c else caller_at old q m i

-- a pool began at an address at which so many began before, and of which so much was known
pub record Begins (r : Recorded) (g : Glance) (n : ℕ) (old new : Judge) : Type 0 where
  pub pools : SetsPool r.pool (1 + n) (former_after_event r.event.told g.connection g.facts g.former) (facts_after r.event.told r.line no_connection (facts_of [])) (turns_of []) old.pools new.pools
  pub connections : new.connections ≡ old.connections
  pub callers : new.callers ≡ old.callers

-- what an event changes of the connection and of the check-out that it names, where so much was known of them
pub record Names (r : Recorded) (g : Glance) (n : ℕ) (old new : Judge) : Type 0 where
  pub pools : new.pools ≡ old.pools
  pub connections : SetsNamed (id_of r.event.told) r.pool n (connection_after r.event.told r.event.at r.line g.facts g.connection) old.connections new.connections
  pub callers : SetsNumbered r.event.caller r.pool n (caller_after r.event.told r.line (1 + g.turns.started) g.caller) old.callers new.callers

-- an event of a pool came, of which so much was known
pub record GoesOn (r : Recorded) (g : Glance) (n : ℕ) (old new : Judge) : Type 0 where
  pub pools : SetsPool r.pool n (former_after_event r.event.told g.connection g.facts g.former) (facts_after r.event.told r.line g.connection g.facts) (turns_after r.event.told r.line r.event.caller g.caller g.turns) old.pools new.pools
  pub connections : SetsNamed (id_of r.event.told) r.pool n (connection_after r.event.told r.event.at r.line g.facts g.connection) old.connections new.connections
  pub callers : SetsNumbered r.event.caller r.pool n (caller_after r.event.told r.line (1 + g.turns.started) g.caller) old.callers new.callers
