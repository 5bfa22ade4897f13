-- A script is run to its end, unless memory runs out or a call of the outside fails.
use Rattle.std.proofs.Common.{◌≡◌, ℕ, ◌+◌, ◌≤◌, ◌<◌, inl, inr, List, [], ◌∷◌, ◌++◌, length, map, Some, Result, Ok, Err, MatchResult, IfOk, IfErr, refl, sym, ap, ◌∙◌, arith, subst}
use Rattle.std.proofs.lemmas.Bool.{cases_order}
use Rattle.std.proofs.lemmas.List.{append-nil}
use Rattle.mdb_base.specs.Outside.{Rose}
use Rattle.mdb_log.specs.declared.step.Step.{Step}
use Rattle.mdb_log.specs.declared.log.Entry.{Entry}
use Rattle.mdb_lines.specs.declared.run_error.RunError.{RunError}
use Rattle.mdb_lines.specs.declared.run_error.RunError.TheVariants as errors
use Rattle.mdb_lines.specs.Status.{Told, Tells, status, message}
use Rattle.mdb_lines.specs.Script.{lines_of, line_of, max_input}
use Rattle.mdb_driver_rules.specs.Lines.{steps_of}
use Rattle.mdb_runs.specs.Runs.{IsBad, IsBadAt, IsScript, Seen, Finished, Ended, EndsWith}
use Rattle.mdb_runs.specs.Tool.{ToolTells}
use Rattle.mdb_runs.proofs.ScriptLaws.{all_same, bad_not, fewer_lines, one_place, told, no_longer}

pub completes : (old new : Seen) (r : Result (List Entry) RunError) (input : List ℕ) (steps : List Step) → old.left ≡ Some input → length input ≤ max_input → IsScript input steps
    → (Rose old.reads new.reads → ⊥) → (Rose old.writes new.writes → ⊥) → IfOk r (Finished old new) → IfErr r (Ended old new) → MatchResult r (λ log. steps_of log ≡ steps) (λ e. e ≡ errors.OutOfMemory)
completes old new (Ok log) input steps left short script read write finished ended =
    let same = told old.left new.left input finished.input left finished.read.consumed finished.read.ended in
    let cut : map line_of (steps_of log) ≡ map line_of steps = sym (append-nil (map line_of (steps_of log))) ∙ sym finished.ran.begins.cut ∙ ap lines_of same ∙ script.lines in
    all_same 1 (steps_of log) steps finished.ran.begins.allowed script.allowed cut
completes old new (Err errors.OutOfMemory) input steps left short script read write finished ended = refl
completes old new (Err errors.ReadFault) input steps left short script read write finished ended = absurd (read ended.0)
completes old new (Err errors.WriteFault) input steps left short script read write finished (found, all, (done, more, begins, legal, front, rose)) = absurd (write rose)
completes old new (Err (errors.Malformed n)) input steps left short script read write finished (found, all, (done, bad, more, begins, legal, at, never, took, same)) =
    let whole = told old.left new.left input found left all.consumed all.ended in
    let cut : map line_of done ++ bad ∷ more ≡ map line_of steps = sym begins.cut ∙ ap lines_of whole ∙ script.lines in
    absurd (bad_not done steps bad more [] (fewer_lines done steps bad more cut) (cut ∙ sym (append-nil (map line_of steps))) begins.allowed script.allowed script.within (subst (λ (k : ℕ). IsBad k done bad) at never))
completes old new (Err errors.TooLong) input steps left short script read write finished (reads, writes, took, (bytes, consumed, long)) =
    let le = no_longer old.left new.left input bytes left consumed in
    absurd (omega arith)

pub names : (old new : Seen) (r : Result (List Entry) RunError) (input : List ℕ) (number : ℕ) → old.left ≡ Some input → length input ≤ max_input → IsBadAt input number → (Rose old.reads new.reads → ⊥)
    → (Rose old.writes new.writes → ⊥) → IfOk r (Finished old new) → IfErr r (Ended old new) → EndsWith (errors.Malformed number) r
names old new (Ok log) input number left short found read write finished ended =
    let whole = told old.left new.left input finished.input left finished.read.consumed finished.read.ended in
    let cut : map line_of found.steps ++ found.bad ∷ found.more ≡ map line_of (steps_of log) = sym found.begins.cut ∙ ap lines_of (sym whole) ∙ finished.ran.begins.cut ∙ append-nil (map line_of (steps_of log)) in
    let never = subst (λ (k : ℕ). IsBad k found.steps found.bad) found.at found.never in
    bad_not found.steps (steps_of log) found.bad found.more [] (fewer_lines found.steps (steps_of log) found.bad found.more cut) (cut ∙ sym (append-nil (map line_of (steps_of log)))) found.begins.allowed finished.ran.begins.allowed
    finished.ran.begins.within never
names old new (Err errors.OutOfMemory) input number left short found read write finished ended = inr refl
names old new (Err errors.ReadFault) input number left short found read write finished ended = absurd (read ended.0)
names old new (Err errors.WriteFault) input number left short found read write finished (given, all, (done, more, begins, legal, front, rose)) = absurd (write rose)
names old new (Err (errors.Malformed n)) input number left short found read write finished (given, all, (done, bad, more, begins, legal, at, never, took, same)) =
    let whole = told old.left new.left input given left all.consumed all.ended in
    let cut : map line_of done ++ bad ∷ more ≡ map line_of found.steps ++ found.bad ∷ found.more = sym begins.cut ∙ ap lines_of whole ∙ found.begins.cut in
    let one = one_place done found.steps bad found.bad more found.more cut begins.allowed begins.within found.begins.allowed found.begins.within (subst (λ (k : ℕ). IsBad k done bad) at never)
    (subst (λ (k : ℕ). IsBad k found.steps found.bad) found.at found.never) (cases_order (length done) (length found.steps)) in
    let number_is : n ≡ number = at ∙ ap (λ k. 1 + k) one ∙ sym found.at in
    inl (ap errors.Malformed number_is)
names old new (Err errors.TooLong) input number left short found read write finished (reads, writes, took, (bytes, consumed, long)) =
    let le = no_longer old.left new.left input bytes left consumed in
    absurd (omega arith)

-- what was read to its end is no longer than the greatest length
pub lengthy : (old new : Seen) (r : Result (List Entry) RunError) (input : List ℕ) → old.left ≡ Some input → max_input < length input → (Rose old.reads new.reads → ⊥) → IfOk r (Finished old new) → IfErr r (Ended old new)
    → EndsWith errors.TooLong r
lengthy old new (Ok log) input left long read finished ended =
    let size = ap length (told old.left new.left input finished.input left finished.read.consumed finished.read.ended) in
    absurd (omega (arith, size, long, finished.read.short))
lengthy old new (Err errors.OutOfMemory) input left long read finished ended = inr refl
lengthy old new (Err errors.ReadFault) input left long read finished ended = absurd (read ended.0)
lengthy old new (Err errors.WriteFault) input left long read finished (given, all, rest) = let size = ap length (told old.left new.left input given left all.consumed all.ended) in absurd (omega (arith, size, long, all.short))
lengthy old new (Err (errors.Malformed n)) input left long read finished (given, all, rest) = let size = ap length (told old.left new.left input given left all.consumed all.ended) in absurd (omega (arith, size, long, all.short))
lengthy old new (Err errors.TooLong) input left long read finished ended = inl refl

-- what is told of an error, where it is this one or out of memory
pub tells_so : (e f : RunError) (old new : Told) (answer : ℕ) → answer ≡ status f → Tells old new (message f) → EndsWith e (Err f) → ToolTells e old new answer
tells_so e f old new answer is told (inl same) = inl (subst (λ (x : RunError). answer ≡ status x) same is, subst (λ (x : RunError). Tells old new (message x)) same told)
tells_so e f old new answer is told (inr none) = inr (subst (λ (x : RunError). answer ≡ status x) none is)
