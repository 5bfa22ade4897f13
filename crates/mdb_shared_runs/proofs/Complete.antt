-- A script is shared to its end, unless memory runs out or a call of the outside fails.
use Rattle.std.proofs.Common.{◌≡◌, ℕ, ◌+◌, ◌≤◌, ◌<◌, inl, inr, List, [], ◌∷◌, ◌++◌, length, map, Some, Result, Ok, Err, MatchResult, IfOk, IfErr, refl, sym, ap, ◌∙◌, arith, subst}
use Rattle.std.proofs.lemmas.Bool.{cases_order}
use Rattle.std.proofs.lemmas.List.{append-nil}
use Rattle.mdb_base.specs.Outside.{Rose}
use Rattle.mdb_log.specs.declared.step.Step.{Step}
use Rattle.mdb_log.specs.declared.log.Entry.{Entry}
use Rattle.mdb_lines.specs.declared.run_error.RunError.{RunError}
use Rattle.mdb_lines.specs.declared.run_error.RunError.TheVariants as errors
use Rattle.mdb_lines.specs.Script.{line_of, max_input}
use Rattle.mdb_runs.specs.Runs.{IsBad, IsBadAt, IsScript, Seen, EndsWith}
use Rattle.mdb_runs.proofs.ScriptLaws.{all_same, bad_not, fewer_lines, one_place, told, no_longer}
use Rattle.mdb_shared_runs.specs.Scripts.{Shared}
use Rattle.mdb_shared_runs.specs.Runs.{SharedFinished, SharedEnded}

one_script : (input : List ℕ) (ss ts : List Step) → IsScript input ss → IsScript input ts → ss ≡ ts
one_script input ss ts one other = all_same 1 ss ts one.allowed other.allowed (sym one.lines ∙ other.lines)

script_not_bad : (input : List ℕ) (ss : List Step) (n : ℕ) → IsScript input ss → IsBadAt input n → ⊥
script_not_bad input ss n script found =
    let cut : map line_of found.steps ++ found.bad ∷ found.more ≡ map line_of ss = sym found.begins.cut ∙ script.lines in
    bad_not found.steps ss found.bad found.more [] (fewer_lines found.steps ss found.bad found.more cut) (cut ∙ sym (append-nil (map line_of ss))) found.begins.allowed script.allowed script.within
    (subst (λ (k : ℕ). IsBad k found.steps found.bad) found.at found.never)

one_bad : (input : List ℕ) (n m : ℕ) → IsBadAt input n → IsBadAt input m → n ≡ m
one_bad input n m one other =
    let cut : map line_of one.steps ++ one.bad ∷ one.more ≡ map line_of other.steps ++ other.bad ∷ other.more = sym one.begins.cut ∙ other.begins.cut in
    let same = one_place one.steps other.steps one.bad other.bad one.more other.more cut one.begins.allowed one.begins.within other.begins.allowed other.begins.within
    (subst (λ (k : ℕ). IsBad k one.steps one.bad) one.at one.never) (subst (λ (k : ℕ). IsBad k other.steps other.bad) other.at other.never) (cases_order (length one.steps) (length other.steps)) in
    one.at ∙ ap (λ (k : ℕ). 1 + k) same ∙ sym other.at

pub completes : (k : ℕ) (old new : Seen) (r : Result (List Entry) RunError) (input : List ℕ) (steps : List Step) → old.left ≡ Some input → length input ≤ max_input → IsScript input steps
    → (Rose old.reads new.reads → ⊥) → (Rose old.writes new.writes → ⊥) → IfOk r (SharedFinished k old new) → IfErr r (SharedEnded k old new) → MatchResult r (Shared k steps) (λ e. e ≡ errors.OutOfMemory)
completes k old new (Ok log) input steps left short script read write finished ended =
    let whole = told old.left new.left input finished.input left finished.read.consumed finished.read.ended in
    let same = one_script input finished.steps steps (subst (λ (xs : List ℕ). IsScript xs finished.steps) whole finished.script) script in
    subst (λ (ss : List Step). Shared k ss log) same finished.shared
completes k old new (Err errors.OutOfMemory) input steps left short script read write finished ended = refl
completes k old new (Err errors.ReadFault) input steps left short script read write finished ended = absurd (read ended.0)
completes k old new (Err errors.WriteFault) input steps left short script read write finished ended = absurd (write ended.rose)
completes k old new (Err (errors.Malformed n)) input steps left short script read write finished (found, all, bad, writes, took) =
    let whole = told old.left new.left input found left all.consumed all.ended in
    absurd (script_not_bad input steps n script (subst (λ (xs : List ℕ). IsBadAt xs n) whole bad))
completes k old new (Err errors.TooLong) input steps left short script read write finished (reads, writes, took, (bytes, consumed, long)) =
    let le = no_longer old.left new.left input bytes left consumed in
    absurd (omega arith)

pub names : (k : ℕ) (old new : Seen) (r : Result (List Entry) RunError) (input : List ℕ) (number : ℕ) → old.left ≡ Some input → length input ≤ max_input → IsBadAt input number → (Rose old.reads new.reads → ⊥)
    → (Rose old.writes new.writes → ⊥) → IfOk r (SharedFinished k old new) → IfErr r (SharedEnded k old new) → EndsWith (errors.Malformed number) r
names k old new (Ok log) input number left short found read write finished ended =
    let whole = told old.left new.left input finished.input left finished.read.consumed finished.read.ended in
    script_not_bad input finished.steps number (subst (λ (xs : List ℕ). IsScript xs finished.steps) whole finished.script) found
names k old new (Err errors.OutOfMemory) input number left short found read write finished ended = inr refl
names k old new (Err errors.ReadFault) input number left short found read write finished ended = absurd (read ended.0)
names k old new (Err errors.WriteFault) input number left short found read write finished ended = absurd (write ended.rose)
names k old new (Err (errors.Malformed n)) input number left short found read write finished (given, all, bad, writes, took) =
    let whole = told old.left new.left input given left all.consumed all.ended in
    inl (ap errors.Malformed (one_bad input n number (subst (λ (xs : List ℕ). IsBadAt xs n) whole bad) found))
names k old new (Err errors.TooLong) input number left short found read write finished (reads, writes, took, (bytes, consumed, long)) =
    let le = no_longer old.left new.left input bytes left consumed in
    absurd (omega arith)

-- what was read to its end is no longer than the greatest length
pub lengthy : (k : ℕ) (old new : Seen) (r : Result (List Entry) RunError) (input : List ℕ) → old.left ≡ Some input → max_input < length input → (Rose old.reads new.reads → ⊥) → IfOk r (SharedFinished k old new)
    → IfErr r (SharedEnded k old new) → EndsWith errors.TooLong r
lengthy k old new (Ok log) input left long read finished ended =
    let size = ap length (told old.left new.left input finished.input left finished.read.consumed finished.read.ended) in
    absurd (omega (arith, size, long, finished.read.short))
lengthy k old new (Err errors.OutOfMemory) input left long read finished ended = inr refl
lengthy k old new (Err errors.ReadFault) input left long read finished ended = absurd (read ended.0)
lengthy k old new (Err errors.WriteFault) input left long read finished ended =
    let size = ap length (told old.left new.left input ended.input left ended.read.consumed ended.read.ended) in
    absurd (omega (arith, size, long, ended.read.short))
lengthy k old new (Err (errors.Malformed n)) input left long read finished (given, all, bad, writes, took) = let size = ap length (told old.left new.left input given left all.consumed all.ended) in absurd (omega (arith, size, long, all.short))
lengthy k old new (Err errors.TooLong) input left long read finished ended = inl refl
