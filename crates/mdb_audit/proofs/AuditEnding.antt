-- How a run of the tool ends.
use Rattle.std.proofs.Common.{◌≡◌, ℕ, ◌+◌, ◌≤◌, ◌<◌, ◌⊎◌, inl, inr, List, [], ◌∷◌, ◌++◌, length, map, Option, Some, None, Result, Ok, Err, refl, sym, ap, ◌∙◌, arith, subst, length-append}
use Rattle.std.proofs.lemmas.List.{append-nil}
use Rattle.std.proofs.Math.Seq.{take-length}
use Rattle.std.specs.Io.KnownBytes.{Consumes, IsAtEnd}
use Rattle.mdb_base.specs.Outside.{Rose, Held, Took, IsFlushed}
use Rattle.mdb_lines.specs.declared.run_error.RunError.{RunError}
use Rattle.mdb_lines.specs.declared.run_error.RunError.TheVariants as errors
use Rattle.mdb_lines.specs.Status.{Told, Tells, status, message}
use Rattle.mdb_lines.specs.Loops.{TookFront, ReadsAll}
use Rattle.mdb_lines.proofs.Loops.{took_no_more}
use Rattle.mdb_audit.specs.LegalText.{IsVerdict}
use Rattle.mdb_audit.specs.declared.verdict.Verdict.{Verdict}
use Rattle.mdb_audit.specs.declared.verdict.Verdict.TheVariants.{Legal, Bad}
use Rattle.mdb_audit.specs.AuditRuns.{max_log, LineWritten, Seen, Audited, NotWritten, AuditFails, RunsAudit, AuditEnds, EndsAudit, TellsTooLong, verdict_line, verdict_status}

-- the sink took the line, and what was flushed is no more
pub line-flushed : (a b c : Option Held) (line : List ℕ) (before now later : ℕ) → Took a b line → Took b c [] → IsFlushed c → now ≡ before → later ≡ now → LineWritten line a c before later (Ok tt)
line-flushed a b c line before now later p q f e g = (took_no_more a b c line p q, f, g ∙ e)

pub flush-failed : (a b c : Option Held) (line : List ℕ) (before now later : ℕ) → Took a b line → Took b c [] → now ≡ before → Rose now later → LineWritten line a c before later (Err errors.WriteFault)
flush-failed a b c line before now later p q e rose = ((length line, subst (Took a c) (sym (take-length line)) (took_no_more a b c line p q)), subst (λ n. Rose n later) e rose)

-- what a run with this verdict comes to, by how its line was written
abbrev pub WrittenRun : Seen → Seen → Verdict → Result (Unit {0}) RunError → Type 0
WrittenRun old new verdict (Ok u) = RunsAudit old new (Ok verdict)
WrittenRun old new verdict (Err e) = RunsAudit old new (Err e)

pub run-written : (old new : Seen) (verdict : Verdict) (text line : List ℕ) (r : Result (Unit {0}) RunError) → ReadsAll max_log old.left new.left old.reads new.reads text → IsVerdict text verdict → line ≡ verdict_line verdict
    → LineWritten line old.held new.held old.writes new.writes r → WrittenRun old new verdict r
run-written old new verdict text line (Ok u) read right same w = record { text = text; read = read; right = right; taken = subst (Took old.held new.held) same w.0; flushed = w.1; same = w.2 }
run-written old new verdict text line (Err errors.WriteFault) read right same w = record { text = text; verdict = verdict; read = read; right = right; taken = subst (TookFront old.held new.held) same w.0; rose = w.1 }
run-written old new verdict text line (Err errors.OutOfMemory) read right same w = absurd w
run-written old new verdict text line (Err errors.ReadFault) read right same w = absurd w
run-written old new verdict text line (Err (errors.Malformed n)) read right same w = absurd w
run-written old new verdict text line (Err errors.TooLong) read right same w = absurd w

some-same : (a b : List ℕ) → Some a ≡ Some b → a ≡ b
some-same a b h = cc

-- what was read to its end is all that was left
all-read : (left new : Option (List ℕ)) (text found : List ℕ) → left ≡ Some text → Consumes left new found → IsAtEnd new → found ≡ text
all-read None new text found e h ends = absurd (cc)
all-read (Some xs) None text found e h ends = absurd h
all-read (Some xs) (Some ys) text found e h ends = let all : xs ≡ found = h ∙ rw ends (append-nil found) in let same = some-same xs text e in sym all ∙ same

no-longer : (left new : Option (List ℕ)) (text found : List ℕ) → left ≡ Some text → Consumes left new found → length found ≤ length text
no-longer None new text found e h = absurd (cc)
no-longer (Some xs) None text found e h = absurd h
no-longer (Some xs) (Some ys) text found e h = let same = some-same xs text e in let size : length text ≡ length (found ++ ys) = ap length (sym same ∙ h) in omega (arith, size, length-append found ys)

verdict-ends : (verdict : Verdict) (answer : ℕ) → answer ≡ verdict_status verdict → EndsAudit answer
verdict-ends (Legal n) answer e = inl e
verdict-ends (Bad n why) answer e = inr (inl e)

-- a log that is short enough gets its verdict, where nothing fails
pub ends-well : (old new : Seen) (told new_told : Told) (text : List ℕ) (answer : ℕ) → AuditEnds [] old new told new_told answer → old.left ≡ Some text → length text ≤ max_log → (Rose old.reads new.reads → ⊥) → (Rose old.writes new.writes → ⊥) → EndsAudit answer
ends-well old new told new_told text answer (inl (verdict, is, audited, same)) left short read write = verdict-ends verdict answer is
ends-well old new told new_told text answer (inr (errors.OutOfMemory, is, fails, tells)) left short read write = inr (inr is)
ends-well old new told new_told text answer (inr (errors.ReadFault, is, fails, tells)) left short read write = absurd (read fails.0)
ends-well old new told new_told text answer (inr (errors.WriteFault, is, fails, tells)) left short read write = absurd (write fails.rose)
ends-well old new told new_told text answer (inr (errors.Malformed n, is, fails, tells)) left short read write = absurd fails
ends-well old new told new_told text answer (inr (errors.TooLong, is, ((bytes, consumed, long), reads, writes, held), tells)) left short read write =
    let le = no-longer old.left new.left text bytes left consumed in
    absurd (omega (arith, le, long, short))

-- a log that is too long is told to be, where nothing fails
pub ends-long : (old new : Seen) (told new_told : Told) (text : List ℕ) (answer : ℕ) → AuditEnds [] old new told new_told answer → old.left ≡ Some text → max_log < length text → (Rose old.reads new.reads → ⊥) → TellsTooLong told new_told answer
ends-long old new told new_told text answer (inl (verdict, is, audited, same)) left long read =
    let size = ap length (all-read old.left new.left text audited.text left audited.read.consumed audited.read.ended) in
    absurd (omega (arith, size, long, audited.read.short))
ends-long old new told new_told text answer (inr (errors.OutOfMemory, is, fails, tells)) left long read = inr is
ends-long old new told new_told text answer (inr (errors.ReadFault, is, fails, tells)) left long read = absurd (read fails.0)
ends-long old new told new_told text answer (inr (errors.WriteFault, is, fails, tells)) left long read =
    let size = ap length (all-read old.left new.left text fails.text left fails.read.consumed fails.read.ended) in
    absurd (omega (arith, size, long, fails.read.short))
ends-long old new told new_told text answer (inr (errors.Malformed n, is, fails, tells)) left long read = absurd fails
ends-long old new told new_told text answer (inr (errors.TooLong, is, fails, tells)) left long read = inl (is, tells)

-- there is no word
no-words : {A : Type 0} (f : A → List ℕ) (words : List A) → length words ≡ 0 → map f words ≡ []
no-words f [] e = refl
no-words f (w ∷ words) e = absurd (omega (arith, e))

pub ends-without : {A : Type 0} (f : A → List ℕ) (words : List A) (old new : Seen) (told new_told : Told) (answer : ℕ) → length words ≡ 0 → AuditEnds [] old new told new_told answer → AuditEnds (map f words) old new told new_told answer
ends-without f words old new told new_told answer e ends = subst (λ ws. AuditEnds ws old new told new_told answer) (sym (no-words f words e)) ends
