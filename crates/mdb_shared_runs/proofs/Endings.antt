-- How the run of a shared script ends.
use Rattle.std.proofs.Common.{◌≡◌, ℕ, List, [], length, Option, Err, sym, subst}
use Rattle.std.proofs.Math.Seq.{take-length}
use Rattle.mdb_base.specs.Outside.{Rose, Held, Took, IsFlushed}
use Rattle.mdb_log.specs.declared.log.Entry.{Entry}
use Rattle.mdb_lines.specs.declared.run_error.RunError.{RunError}
use Rattle.mdb_lines.specs.declared.run_error.RunError.TheVariants as errors
use Rattle.mdb_lines.specs.Script.{max_input}
use Rattle.mdb_lines.specs.Loops.{TookFront, ReadsAll, ReadEnds}
use Rattle.mdb_lines.proofs.Loops.{took_nothing, took_no_more}
use Rattle.mdb_runs.specs.Runs.{Seen}
use Rattle.mdb_shared_runs.specs.Reading.{NoScript}
use Rattle.mdb_shared_runs.specs.Runs.{IsShare, Writes, SharedFinished, SharedEnded}

pub read_ends : (k : ℕ) (old new : Seen) (e : RunError) → new.held ≡ old.held → new.writes ≡ old.writes → ReadEnds max_input old.left new.left old.reads new.reads e → SharedEnded k old new e
read_ends k old new errors.OutOfMemory held writes h = (h, writes, rw held (took_nothing old.held))
read_ends k old new errors.ReadFault held writes h = (h, writes, rw held (took_nothing old.held))
read_ends k old new errors.WriteFault held writes h = absurd h
read_ends k old new (errors.Malformed n) held writes h = absurd h
read_ends k old new errors.TooLong held writes (bytes, consumed, long, same) = (same, writes, rw held (took_nothing old.held), (bytes, consumed, long))

pub lines_end : (k : ℕ) (old new : Seen) (input : List ℕ) (e : RunError) → new.held ≡ old.held → new.writes ≡ old.writes → ReadsAll max_input old.left new.left old.reads new.reads input → NoScript input e → SharedEnded k old new e
lines_end k old new input errors.OutOfMemory held writes read h = (read.same, writes, rw held (took_nothing old.held))
lines_end k old new input errors.ReadFault held writes read h = absurd h
lines_end k old new input errors.WriteFault held writes read h = absurd h
lines_end k old new input (errors.Malformed n) held writes read h = (input, read, h, writes, rw held (took_nothing old.held))
lines_end k old new input errors.TooLong held writes read h = absurd h

pub written : (k : ℕ) (old new : Seen) (input : List ℕ) (log : List Entry) (text : List ℕ) → ReadsAll max_input old.left new.left old.reads new.reads input → IsShare k input log text
    → Took old.held new.held text × IsFlushed new.held × (new.writes ≡ old.writes) → SharedFinished k old new log
written k old new input log text read (steps, script, shared, is) (took, flushed, same) = record {
  input = input;
  steps = steps;
  read = read;
  script = script;
  shared = shared;
  taken = subst (Took old.held new.held) is took;
  flushed = flushed;
  same = same;
}

pub write_ends : (k : ℕ) (old new : Seen) (input : List ℕ) (log : List Entry) (text : List ℕ) (e : RunError) → ReadsAll max_input old.left new.left old.reads new.reads input → IsShare k input log text
    → Writes text old.held new.held old.writes new.writes (Err e) → SharedEnded k old new e
write_ends k old new input log text errors.OutOfMemory read share h = absurd h
write_ends k old new input log text errors.ReadFault read share h = absurd h
write_ends k old new input log text errors.WriteFault read (steps, script, shared, is) (took, rose) = record {
  input = input;
  steps = steps;
  log = log;
  read = read;
  script = script;
  shared = shared;
  taken = subst (TookFront old.held new.held) is took;
  rose = rose;
}
write_ends k old new input log text (errors.Malformed n) read share h = absurd h
write_ends k old new input log text errors.TooLong read share h = absurd h

-- a text that was written, and no more
pub whole_front : (a b c : Option Held) (text : List ℕ) → Took a b text → Took b c [] → TookFront a c text
whole_front a b c text h k = (length text, subst (Took a c) (sym (take-length text)) (took_no_more a b c text h k))

-- a count that rose behind a call that left it as it was
pub rose_past : (a b c : ℕ) → b ≡ a → Rose b c → Rose a c
rose_past a b c same rose = subst (λ (n : ℕ). Rose n c) same rose
