-- What sources and sinks in memory hold, and what each call of theirs answers.
use Rattle.std.specs.Prelude.{◌≡◌, ℕ, zero, suc, ◌+◌, ◌-◌, ◌^◌, ◌==◌, min, List, [], ◌∷◌, ◌++◌, length, take, drop, Bool, true, false, Option, Some, Result, Ok, Err}
use Rattle.std.specs.List.{list_any}
use Rattle.mdb_base.specs.Outside.{Held}
use Rattle.mdb_base.specs.declared.outside.Failed.{Failed}
use Rattle.mdb_base.specs.declared.memory_source.MemSource.{MemSource}
use Rattle.mdb_base.specs.declared.plain.PlainSource.{PlainSource}
use Rattle.mdb_base.specs.declared.memory_sink.MemSink.{MemSink}

-- the number after this one, which ends at the greatest number of 64 bits
abbrev pub next : ℕ → ℕ
next n = min (n + 1) (2 ^ 64 - 1)

-- the call after so many calls stands among those that fail
abbrev pub fails_after : List ℕ → ℕ → Bool
fails_after fails calls = list_any (λ number. number == next calls) fails

-- A source in memory: the bytes that are left, how many of them a read gives at most, the numbers of the calls that fail, and how many calls were made and how many failed.
pub record SourceState : Type 0 where
  pub left : List ℕ
  pub piece : ℕ
  pub fails : List ℕ
  pub calls : ℕ
  pub faults : ℕ

abbrev pub source_state : MemSource → SourceState
source_state s = record { left = drop s.at s.held.items; piece = s.piece; fails = s.fails.items; calls = s.calls; faults = s.faults }

-- how many bytes a read gives
abbrev pub read_count : SourceState → ℕ → ℕ
read_count s room = min (min (length s.left) room) s.piece

-- a source after a read that failed
abbrev pub source_failed : SourceState → SourceState
source_failed s = record s { calls = next s.calls; faults = next s.faults }

-- a source after a read of so many bytes
abbrev pub source_read : SourceState → ℕ → SourceState
source_read s count = record s { left = drop count s.left; calls = next s.calls }

-- A read fails where its number is listed. Any other gives as many bytes as are left, as there is room for and as a read gives at most.
abbrev pub SourceReads : SourceState → SourceState → ℕ → Result ℕ Failed → Type 0
SourceReads old new room (Ok count) = (fails_after old.fails old.calls ≡ false) × (count ≡ read_count old room) × (new ≡ source_read old count)
SourceReads old new room (Err e) = (fails_after old.fails old.calls ≡ true) × (new ≡ source_failed old)

abbrev pub source_left : MemSource → Option (List ℕ)
source_left s = Some (source_state s).left

-- how often a source failed
abbrev pub source_faults : MemSource → ℕ
source_faults s = s.faults

-- how many reads of a source were made
abbrev pub source_calls : MemSource → Option ℕ
source_calls s = Some (source_state s).calls

-- A sink in memory: the bytes that it took and how many of them are flushed, the room that is left, how many bytes a write takes at most, the numbers of the calls that fail, and how many calls were made and how many faults there were.
pub record SinkState : Type 0 where
  pub taken : List ℕ
  pub flushed : ℕ
  pub room : ℕ
  pub piece : ℕ
  pub fails : List ℕ
  pub calls : ℕ
  pub faults : ℕ

abbrev pub sink_state : MemSink → SinkState
sink_state s = record { taken = s.bytes.items; flushed = s.flushed; room = s.room; piece = s.piece; fails = s.fails.items; calls = s.calls; faults = s.faults }

-- how many bytes a write takes
abbrev pub write_count : SinkState → List ℕ → ℕ
write_count s piece = min (min (length piece) s.piece) s.room

-- the count of faults after a write that took so many bytes of the piece: a write of a piece that isn't empty counts as a fault where it takes nothing
abbrev pub faults_after : ℕ → List ℕ → ℕ → ℕ
faults_after faults [] count = faults
faults_after faults (b ∷ bs) zero = next faults
faults_after faults (b ∷ bs) (suc n) = faults

-- a sink after a call that failed
abbrev pub sink_failed : SinkState → SinkState
sink_failed s = record s { calls = next s.calls; faults = next s.faults }

-- a sink after a write that took so many bytes of the piece
abbrev pub sink_took : SinkState → List ℕ → ℕ → SinkState
sink_took s piece count = record s { taken = s.taken ++ take count piece; room = s.room - count; calls = next s.calls; faults = faults_after s.faults piece count }

-- a sink after a flush
abbrev pub sink_flushed : SinkState → SinkState
sink_flushed s = record s { flushed = length s.taken; calls = next s.calls }

-- A write fails where its number is listed. Any other takes as many bytes as the piece has, as a write takes at most and as there is room for.
abbrev pub SinkWrites : SinkState → SinkState → List ℕ → Result ℕ Failed → Type 0
SinkWrites old new piece (Ok count) = (fails_after old.fails old.calls ≡ false) × (count ≡ write_count old piece) × (new ≡ sink_took old piece count)
SinkWrites old new piece (Err e) = (fails_after old.fails old.calls ≡ true) × (new ≡ sink_failed old)

-- A flush fails where its number is listed.
abbrev pub SinkFlushes : {T : Type 0} → SinkState → SinkState → Result T Failed → Type 0
SinkFlushes old new (Ok x) = (fails_after old.fails old.calls ≡ false) × (new ≡ sink_flushed old)
SinkFlushes old new (Err e) = (fails_after old.fails old.calls ≡ true) × (new ≡ sink_failed old)

abbrev pub sink_held : MemSink → Option Held
sink_held s = Some (record { taken = s.bytes.items; flushed = s.flushed })

-- how many faults a sink had
abbrev pub sink_faults : MemSink → ℕ
sink_faults s = s.faults

-- the bytes that a sink in memory took
abbrev pub sink_taken : MemSink → List ℕ
sink_taken s = s.bytes.items

-- the bytes that are left in a plain source
abbrev pub plain_rest : PlainSource → List ℕ
plain_rest s = drop s.at s.held.items

abbrev pub plain_left : PlainSource → Option (List ℕ)
plain_left s = Some (plain_rest s)

-- how many bytes a read of a plain source gives
abbrev pub plain_count : PlainSource → ℕ → ℕ
plain_count s room = min (length (plain_rest s)) room
