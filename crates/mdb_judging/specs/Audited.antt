-- What an auditor keeps of the entries that it took, and what it says of the next one.
use Rattle.std.specs.Prelude.{◌≡◌, List, [], ◌∷◌, ◌++◌, Option, Some, None, Result, Ok, Err, ⊤}
use Rattle.mdb_base.specs.declared.out_of_memory.OutOfMemory.{OutOfMemory}
use Rattle.mdb_log.specs.declared.log.Entry.{Entry}
use Rattle.mdb_log.specs.declared.options.PoolOptions.{PoolOptions}
use Rattle.mdb_log.specs.History.{Item}
use Rattle.mdb_log.specs.PlainLegal.{LegalLog}
use Rattle.mdb_judging.specs.declared.auditor.Auditor.{Auditor}
use Rattle.mdb_judging.specs.declared.why.Why.{Why}
use Rattle.mdb_tallies.specs.Kept.{Stands}
use Rattle.mdb_pins.specs.Standing.{PinsStand}
use Rattle.mdb_pins.specs.Keeping.{KeepingsStand}
use Rattle.mdb_judging.specs.Queueing.{QueuesStand}
use Rattle.mdb_judging.specs.Opens.{HomesStand}
use Rattle.mdb_judging.specs.Faults.{after_entries, HasOptions, IsEntryFault}

-- its tables, pins, keepings, queues and homes are those of the history, in pools that were opened with these options
pub record Keeps (o : PoolOptions) (h : List Item) (a : Auditor) : Type 0 where
  pub tables : Stands o h a.tables
  pub pins : PinsStand h a.pins
  pub keepings : KeepingsStand a.tables a.pins a.keepings
  pub queues : QueuesStand h a.queues
  pub homes : HomesStand h a.homes

-- no options after no entry; else those that the first entry opens with
abbrev pub HasOpened : List Entry → Option PoolOptions → Type 0
HasOpened [] None = ⊤
HasOpened [] (Some o) = ⊥
HasOpened (e ∷ entries) None = ⊥
HasOpened (e ∷ entries) (Some o) = HasOptions (e ∷ entries) o

-- these options may be those of the entries
abbrev pub MayHave : List Entry → PoolOptions → Type 0
MayHave [] o = ⊤
MayHave (e ∷ entries) o = HasOptions (e ∷ entries) o

-- An auditor that took these entries, and found no fault: nothing is touched since the last of them.
pub record Audits (entries : List Entry) (a : Auditor) : Type 0 where
  pub options : HasOpened entries a.options
  pub kept : (o : PoolOptions) → MayHave entries o → Keeps o (after_entries [] entries) a
  pub places : a.touched.places.items ≡ []
  pub pools : a.touched.pools.items ≡ []

-- What the auditor answers to the next entry, and what it is then: after a fault nothing is claimed of it.
abbrev pub TakenFor : List Entry → Entry → Auditor → Result (Option Why) OutOfMemory → Type 0
TakenFor before e a (Ok None) = LegalLog (before ++ e ∷ []) × Audits (before ++ e ∷ []) a
TakenFor before e a (Ok (Some why)) = IsEntryFault why before e
TakenFor before e a (Err x) = ⊤
