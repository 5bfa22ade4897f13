-- How far a recorder is.
use Rattle.std.specs.Prelude.{◌≡◌, ◌≢◌, ℕ, List, ◌++◌, drop, length, ⊤}
use Rattle.mdb_log.specs.declared.log.Entry.{Entry}
use Rattle.mdb_log.specs.Driver.{StartsWith}
use Rattle.mdb_recorders.specs.declared.recorder.RecordError.{RecordError}
use Rattle.mdb_recorders.specs.declared.recorder.RecordError.TheVariants.{Handler, Missing}

-- how many entries were handed on, and those that were taken after them and are still to be handed on
pub record Recording : Type 0 where
  pub done : ℕ
  pub held : List Entry

-- The log begins with the entries that were handed on and those that are still to be.
abbrev pub Follows : Recording → List Entry → Type 0
Follows r log = (front : List Entry) × (length front ≡ r.done) × StartsWith log (front ++ r.held)

-- What was taken of the log does not come next: others took what stands between.
abbrev pub Misses : {E : Type 0} → RecordError E → Recording → List Entry → Type 0
Misses (Handler e) r log = ⊤
Misses (Missing taken) r log = (taken.from ≢ r.done) × (taken.entries ≡ drop taken.from log)
