-- How a run of the tool ends.
use Rattle.std.proofs.Common.{◌≡◌, ℕ, ◌≤◌, inl, inr, List, [], ◌++◌, length, Option, Some, None, Result, Ok, Err, sym, ap, ◌∙◌, arith, subst, length-append}
use Rattle.std.proofs.Math.Seq.{take-length}
use Rattle.std.specs.Io.KnownBytes.{Consumes}
use Rattle.mdb_base.specs.Outside.{Rose, Held, Took, IsFlushed}
use Rattle.mdb_lines.specs.declared.run_error.RunError.{RunError}
use Rattle.mdb_lines.specs.declared.run_error.RunError.TheVariants as errors
use Rattle.mdb_lines.specs.Status.{Told}
use Rattle.mdb_lines.specs.Loops.{TookFront, ReadsAll}
use Rattle.mdb_lines.proofs.Loops.{took_no_more}
use Rattle.mdb_recordings.specs.declared.standard.Standard.{Standard}
use Rattle.mdb_recording_runs.specs.Report.{read_of, report, verdict_of}
use Rattle.mdb_recording_runs.specs.Runs.{max_recording, TextWritten, Seen, Runs, JudgeEnds, EndsWell, report_status}

-- the sink took the text, and what was flushed is no more
pub text-flushed : (a b c : Option Held) (text : List ℕ) (before now later : ℕ) → Took a b text → Took b c [] → IsFlushed c → now ≡ before → later ≡ now → TextWritten text a c before later (Ok tt)
text-flushed a b c text before now later p q f e g = (took_no_more a b c text p q, f, g ∙ e)

pub flush-failed : (a b c : Option Held) (text : List ℕ) (before now later : ℕ) → Took a b text → Took b c [] → now ≡ before → Rose now later → TextWritten text a c before later (Err errors.WriteFault)
flush-failed a b c text before now later p q e rose = ((length text, subst (Took a c) (sym (take-length text)) (took_no_more a b c text p q)), subst (λ n. Rose n later) e rose)

-- what a run comes to, by how its report was written
abbrev pub WrittenRun : Standard → Seen → Seen → ℕ → Result (Unit {0}) RunError → Type 0
WrittenRun standard old new answer (Ok u) = Runs standard old new (Ok answer)
WrittenRun standard old new answer (Err e) = Runs standard old new (Err e)

pub run-written : (standard : Standard) (old new : Seen) (text told : List ℕ) (answer : ℕ) (r : Result (Unit {0}) RunError) → ReadsAll max_recording old.left new.left old.reads new.reads text → told ≡ report standard text → answer ≡ report_status standard text
    → TextWritten told old.held new.held old.writes new.writes r → WrittenRun standard old new answer r
run-written standard old new text told answer (Ok u) read same right w = record { text = text; read = read; taken = subst (Took old.held new.held) same w.0; flushed = w.1; same = w.2; right = right }
run-written standard old new text told answer (Err errors.WriteFault) read same right w = record { text = text; read = read; taken = subst (TookFront old.held new.held) same w.0; rose = w.1 }
run-written standard old new text told answer (Err errors.OutOfMemory) read same right w = absurd w
run-written standard old new text told answer (Err errors.ReadFault) read same right w = absurd w
run-written standard old new text told answer (Err (errors.Malformed n)) read same right w = absurd w
run-written standard old new text told answer (Err errors.TooLong) read same right w = absurd w

some-same : (a b : List ℕ) → Some a ≡ Some b → a ≡ b
some-same a b h = cc

no-longer : (left new : Option (List ℕ)) (text found : List ℕ) → left ≡ Some text → Consumes left new found → length found ≤ length text
no-longer None new text found e h = absurd (cc)
no-longer (Some xs) None text found e h = absurd h
no-longer (Some xs) (Some ys) text found e h = let same = some-same xs text e in let size : length text ≡ length (found ++ ys) = ap length (sym same ∙ h) in omega (arith, size, length-append found ys)

-- a recording that is short enough is judged, where nothing fails
pub ends-well : (standard : Standard) (old new : Seen) (told new_told : Told) (text : List ℕ) (answer : ℕ) → JudgeEnds standard old new told new_told answer → old.left ≡ Some text → length text ≤ max_recording → (Rose old.reads new.reads → ⊥) → (Rose old.writes new.writes → ⊥) → EndsWell answer
ends-well standard old new told new_told text answer (inl (judged, same)) left short read write = inl (verdict_of (read_of standard judged.text), judged.right)
ends-well standard old new told new_told text answer (inr (errors.OutOfMemory, is, fails, tells)) left short read write = inr is
ends-well standard old new told new_told text answer (inr (errors.ReadFault, is, fails, tells)) left short read write = absurd (read fails.0)
ends-well standard old new told new_told text answer (inr (errors.WriteFault, is, fails, tells)) left short read write = absurd (write fails.rose)
ends-well standard old new told new_told text answer (inr (errors.Malformed n, is, fails, tells)) left short read write = absurd fails
ends-well standard old new told new_told text answer (inr (errors.TooLong, is, ((bytes, consumed, long), reads, writes, held), tells)) left short read write =
    let le = no-longer old.left new.left text bytes left consumed in
    absurd (omega (arith, le, long, short))
