-- A run is run to its end, unless memory runs out or a call of the outside fails; and the line that it names is the first that has no place.
use Rattle.std.proofs.Common.{◌≡◌, ℕ, ◌+◌, ◌<◌, ◌≤◌, ◌⊎◌, inl, inr, List, [], ◌∷◌, ◌++◌, length, map, Option, Some, None, Result, Ok, Err, IfOk, IfErr, MatchResult, refl, sym, ap, ◌∙◌, subst, arith, length-append}
use Rattle.std.specs.Prelude.{⊤}
use Rattle.std.specs.Io.KnownBytes.{Consumes, IsAtEnd}
use Rattle.std.proofs.lemmas.Bool.{cases_order}
use Rattle.std.proofs.lemmas.List.{append-nil}
use Rattle.mdb_base.specs.Outside.{Rose, Held}
use Rattle.mdb_log.specs.declared.log.Entry.{Entry}
use Rattle.mdb_lines.specs.declared.run_error.RunError.{RunError}
use Rattle.mdb_lines.specs.declared.run_error.RunError.TheVariants as errors
use Rattle.mdb_lines.specs.Script.{lines_of, max_input}
use Rattle.mdb_proxies.specs.View.{ProxyView}
use Rattle.mdb_proxy_runs.specs.ProxyScripts.{whole, IsFirst, IsSecond, IsLater, AreLater, AreLines, IsNext, IsBadAt}
use Rattle.mdb_proxy_runs.specs.ProxyRuns.{Seen, AnswersAll, Ran, Finished}
use Rattle.mdb_proxy_runs.specs.ProxyEnds.{Ended, EndsWith}

-- ---- the lines of an input that was run to its end

answers-later : (old new : ProxyView) (lines : List (List ℕ)) (text : List ℕ) → AnswersAll old new lines text → AreLater (map whole lines)
answers-later old new [] text a = tt
answers-later old new (line ∷ lines) text (mid, own, rest, one, more, is) = ((line, one.step, refl, one.spelled), answers-later mid new lines rest more)

no-input : (input : List ℕ) → input ≡ [] → lines_of input ≡ []
unfolding lines_of
no-input input e = ap lines_of e

ran-lines : (input : List ℕ) (log : List Entry) (held new_held : Option Held) (faults new_faults : ℕ) → Ran input log held new_held faults new_faults → AreLines (lines_of input)
ran-lines input log held new_held faults new_faults (inl n) = subst AreLines (sym (no-input input n.empty)) tt
ran-lines input log held new_held faults new_faults (inr (line, shares, rest, cut, names, inl n)) =
    subst AreLines (sym (cut ∙ ap (λ (ls : List (List ℕ)). whole line ∷ ls) (no-input rest n.empty))) (line, shares, refl, names)
ran-lines input log held new_held faults new_faults (inr (line, shares, rest, cut, names, inr p)) =
    let first : IsFirst (whole line) = (line, shares, refl, names) in
    let second : IsSecond (whole line) (whole p.line) = (line, p.line, shares, p.options, refl, names, refl, p.opens) in
    subst AreLines (sym (cut ∙ ap (λ (ls : List (List ℕ)). whole line ∷ ls) p.cut)) (first, second, answers-later _ p.last p.lines p.text p.answers)

-- ---- lines that have a place

cons-head : {A : Type 0} (x y : A) (xs ys : List A) → x ∷ xs ≡ y ∷ ys → x ≡ y
cons-head x y xs ys h = cc

cons-tail : {A : Type 0} (x y : A) (xs ys : List A) → x ∷ xs ≡ y ∷ ys → xs ≡ ys
cons-tail x y xs ys h = cc

later-at : (before : List (List ℕ)) (line : List ℕ) (more : List (List ℕ)) → AreLater (before ++ line ∷ more) → IsLater line
later-at [] line more a = a.0
later-at (l ∷ before) line more a = later-at before line more a.1

next-of : (before : List (List ℕ)) (line : List ℕ) (more : List (List ℕ)) → AreLines (before ++ line ∷ more) → IsNext before line
next-of [] line [] a = a
next-of [] line (m ∷ more) a = a.0
next-of (f ∷ []) line more a = a.1
next-of (f ∷ (s ∷ before)) line more a = later-at before line more a.2

-- a longer front has the line
longer : (xs ys : List (List ℕ)) (x : List ℕ) (xt zs : List (List ℕ)) → xs ++ x ∷ xt ≡ ys ++ zs → length xs < length ys → (rest : List (List ℕ)) × (ys ≡ xs ++ x ∷ rest)
longer [] [] x xt zs e l = absurd (omega (arith, l))
longer [] (y ∷ ys) x xt zs e l = (ys, ap (λ (h : List ℕ). h ∷ ys) (sym (cons-head x y xt (ys ++ zs) e)))
longer (a ∷ xs) [] x xt zs e l = absurd (omega (arith, l))
longer (a ∷ xs) (y ∷ ys) x xt zs e l =
    let more = longer xs ys x xt zs (cons-tail a y (xs ++ x ∷ xt) (ys ++ zs) e) (omega (arith, l)) in
    (more.0, ap (λ (h : List ℕ). h ∷ ys) (sym (cons-head a y (xs ++ x ∷ xt) (ys ++ zs) e)) ∙ ap (λ (t : List (List ℕ)). a ∷ t) more.1)

no-longer-front : (xs ys : List (List ℕ)) (x : List ℕ) (xt zs : List (List ℕ)) → xs ++ x ∷ xt ≡ ys ++ zs → AreLines ys → (IsNext xs x → ⊥) → length xs < length ys → ⊥
no-longer-front xs ys x xt zs e all bad l =
    let w = longer xs ys x xt zs e l in
    bad (next-of xs x w.0 (subst AreLines w.1 all))

-- the first line that has no place is at one number
one-place : (input : List ℕ) (n m : ℕ) → IsBadAt input n → IsBadAt input m → n ≡ m
one-place input n m a b = on (cases_order (length a.before) (length b.before))
  where
    both : a.before ++ a.line ∷ a.more ≡ b.before ++ b.line ∷ b.more
    both = sym a.cut ∙ b.cut

    on : (length a.before ≡ length b.before) ⊎ ((length a.before < length b.before) ⊎ (length b.before < length a.before)) → n ≡ m
    on (inr (inl l)) = absurd (no-longer-front a.before b.before a.line a.more (b.line ∷ b.more) both b.lines a.bad l)
    on (inl e) = omega (arith, a.at, b.at, e)
    on (inr (inr l)) = absurd (no-longer-front b.before a.before b.line b.more (a.line ∷ a.more) (sym both) a.lines b.bad l)

not-bad : (input : List ℕ) (n : ℕ) → AreLines (lines_of input) → IsBadAt input n → ⊥
not-bad input n all b = b.bad (next-of b.before b.line b.more (subst AreLines b.cut all))

-- ---- what was read

some-same : {A : Type 0} (a b : A) → Some a ≡ Some b → a ≡ b
some-same a b h = cc

told : (left new : Option (List ℕ)) (input found : List ℕ) → left ≡ Some input → Consumes left new found → IsAtEnd new → found ≡ input
told None new input found e h ends = absurd (cc)
told (Some xs) None input found e h ends = absurd h
told (Some xs) (Some ys) input found e h ends = let all : xs ≡ found = h ∙ rw ends (append-nil found) in let same = some-same xs input e in sym all ∙ same

no-longer : (left new : Option (List ℕ)) (input found : List ℕ) → left ≡ Some input → Consumes left new found → length found ≤ length input
no-longer None new input found e h = absurd (cc)
no-longer (Some xs) None input found e h = absurd h
no-longer (Some xs) (Some ys) input found e h = let same = some-same xs input e in let size : length input ≡ length (found ++ ys) = ap length (sym same ∙ h) in omega (arith, size, length-append found ys)

-- ---- whole runs

pub completes : (old new : Seen) (r : Result (List Entry) RunError) (input : List ℕ) → old.left ≡ Some input → length input ≤ max_input → AreLines (lines_of input) → (Rose old.reads new.reads → ⊥) → (Rose old.writes new.writes → ⊥)
    → IfErr r (Ended old new) → MatchResult r (λ log. ⊤) (λ e. e ≡ errors.OutOfMemory)
completes old new (Ok log) input left short all read write ended = tt
completes old new (Err errors.OutOfMemory) input left short all read write ended = refl
completes old new (Err errors.ReadFault) input left short all read write ended = absurd (read ended.0)
completes old new (Err errors.WriteFault) input left short all read write (found, whole, rose) = absurd (write rose)
completes old new (Err (errors.Malformed n)) input left short all read write (found, read-all, bad, same) =
    let is = told old.left new.left input found left read-all.consumed read-all.ended in
    absurd (not-bad found n (subst (λ (x : List ℕ). AreLines (lines_of x)) (sym is) all) bad)
completes old new (Err errors.TooLong) input left short all read write (reads, writes, (bytes, consumed, long)) =
    let le = no-longer old.left new.left input bytes left consumed in
    absurd (omega (arith, le, long, short))

pub names : (old new : Seen) (r : Result (List Entry) RunError) (input : List ℕ) (number : ℕ) → old.left ≡ Some input → length input ≤ max_input → IsBadAt input number → (Rose old.reads new.reads → ⊥) → (Rose old.writes new.writes → ⊥)
    → IfOk r (Finished old new) → IfErr r (Ended old new) → EndsWith (errors.Malformed number) r
names old new (Ok log) input number left short bad read write finished ended =
    let is = told old.left new.left input finished.input left finished.read.consumed finished.read.ended in
    not-bad input number (subst (λ (x : List ℕ). AreLines (lines_of x)) is (ran-lines finished.input log old.held new.held old.writes new.writes finished.ran)) bad
names old new (Err errors.OutOfMemory) input number left short bad read write finished ended = inr refl
names old new (Err errors.ReadFault) input number left short bad read write finished ended = absurd (read ended.0)
names old new (Err errors.WriteFault) input number left short bad read write finished (found, whole, rose) = absurd (write rose)
names old new (Err (errors.Malformed n)) input number left short bad read write finished (found, read-all, own, same) =
    let is = told old.left new.left input found left read-all.consumed read-all.ended in
    inl (ap (λ (k : ℕ). errors.Malformed k) (one-place input n number (subst (λ (x : List ℕ). IsBadAt x n) is own) bad))
names old new (Err errors.TooLong) input number left short bad read write finished (reads, writes, (bytes, consumed, long)) =
    let le = no-longer old.left new.left input bytes left consumed in
    absurd (omega (arith, le, long, short))

-- what was read to its end is no longer than the greatest length
pub lengthy : (old new : Seen) (r : Result (List Entry) RunError) (input : List ℕ) → old.left ≡ Some input → max_input < length input → (Rose old.reads new.reads → ⊥) → IfOk r (Finished old new) → IfErr r (Ended old new)
    → EndsWith errors.TooLong r
lengthy old new (Ok log) input left long read finished ended =
    let size = ap length (told old.left new.left input finished.input left finished.read.consumed finished.read.ended) in
    absurd (omega (arith, size, long, finished.read.short))
lengthy old new (Err errors.OutOfMemory) input left long read finished ended = inr refl
lengthy old new (Err errors.ReadFault) input left long read finished ended = absurd (read ended.0)
lengthy old new (Err errors.WriteFault) input left long read finished (found, all, rose) =
    let size = ap length (told old.left new.left input found left all.consumed all.ended) in
    absurd (omega (arith, size, long, all.short))
lengthy old new (Err (errors.Malformed n)) input left long read finished (found, all, bad, same) =
    let size = ap length (told old.left new.left input found left all.consumed all.ended) in
    absurd (omega (arith, size, long, all.short))
lengthy old new (Err errors.TooLong) input left long read finished ended = inl refl
