-- What an auditor makes of an accepted entry.
use Rattle.std.specs.Prelude.{◌≡◌, Bool, false, if◌then◌else◌, List, [], Option, Some, None}
use Rattle.mdb_log.specs.declared.log.Entry.{Entry}
use Rattle.mdb_log.specs.declared.options.PoolOptions.{PoolOptions}
use Rattle.mdb_log.specs.History.{Item}
use Rattle.mdb_log.specs.PlainLegal.{with_entry, is_refused, IsFairAnswer, OnePlace, NoneLeftWaiting}
use Rattle.mdb_judging.specs.declared.auditor.Auditor.{Auditor}
use Rattle.mdb_judging.specs.declared.why.Why.{Why}
use Rattle.mdb_judging.specs.declared.why.Why.TheVariants.{Opening, Grant, Place, Waiting}
use Rattle.mdb_judging.specs.Audited.{Keeps}
use Rattle.mdb_tallies.specs.Kept.{Stands}
use Rattle.mdb_judging.specs.Taking.{Tells, Start, Reaches, JudgedAs}

-- the auditor stands for the history with the entry too, where each connection had its one place, and the truth value tells whether the entry's grants are fair
pub record TakesEntry (balanced is_fair : Bool) (e : Entry) (old new : Auditor) : Type 0 where
  pub options : new.options ≡ old.options
  pub reaches : (o : PoolOptions) (h : List Item) (start : Start) → o.load_balanced ≡ balanced → is_refused e.reply ≡ false → OnePlace h → Reaches o h start old → Reaches o (with_entry h e) start new
  pub fair : (o : PoolOptions) (h : List Item) → o.load_balanced ≡ balanced → is_refused e.reply ≡ false → OnePlace h → Keeps o h old → Tells is_fair (IsFairAnswer h e.step e.reply e.facts)

-- The auditor says what is wrong with its history k, where nothing was wrong with the history h of the tables since which it knows what was touched.
pub record Judges (is_fair : Bool) (o : PoolOptions) (why : Option Why) (old new : Auditor) : Type 0 where
  pub options : new.options ≡ old.options
  pub places : new.touched.places.items ≡ []
  pub pools : new.touched.pools.items ≡ []
  pub kept : (h : List Item) → Keeps o h old → Keeps o h new
  pub judged : (h k : List Item) (start : Start) → start.before ≡ h → Stands o h start.tables → OnePlace h → NoneLeftWaiting o h → Reaches o k start old → JudgedAs is_fair o k why

-- what is wrong with the entry after the history, if something is
abbrev pub FaultAs : PoolOptions → List Item → Entry → Option Why → Type 0
FaultAs o h e None = IsFairAnswer h e.step e.reply e.facts × OnePlace (with_entry h e) × NoneLeftWaiting o (with_entry h e)
FaultAs o h e (Some Grant) = IsFairAnswer h e.step e.reply e.facts → ⊥
FaultAs o h e (Some Place) = IsFairAnswer h e.step e.reply e.facts × (OnePlace (with_entry h e) → ⊥)
FaultAs o h e (Some Waiting) = IsFairAnswer h e.step e.reply e.facts × OnePlace (with_entry h e) × (NoneLeftWaiting o (with_entry h e) → ⊥)
FaultAs o h e _ = ⊥

-- The auditor takes the accepted entry and says what is wrong with it, where nothing is wrong with the history.
pub record FaultFor (o : PoolOptions) (e : Entry) (why : Option Why) (old new : Auditor) : Type 0 where
  pub options : new.options ≡ old.options
  pub places : new.touched.places.items ≡ []
  pub pools : new.touched.pools.items ≡ []
  pub kept : (h : List Item) → is_refused e.reply ≡ false → Keeps o h old → OnePlace h → Keeps o (with_entry h e) new
  pub judged : (h : List Item) → is_refused e.reply ≡ false → Keeps o h old → OnePlace h → NoneLeftWaiting o h → FaultAs o h e why

-- what is wrong with the first entry, where the truth value tells whether it opens exactly the seeds
abbrev pub first_why : Bool → Option Why → Option Why
first_why opens why = if opens then why else Some Opening
