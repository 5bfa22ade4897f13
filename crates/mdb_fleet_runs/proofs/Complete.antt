-- A run is run to its end, unless memory runs out or a call of the outside fails.
use Rattle.std.proofs.Common.{◌≡◌, ℕ, ◌+◌, ◌≤◌, ◌<◌, ◌⊎◌, inl, inr, List, [], ◌∷◌, ◌++◌, length, map, codes, Option, Some, None, Result, Ok, Err, MatchResult, IfOk, IfErr, refl, sym, ap, ◌∙◌, arith, subst, length-append}
use Rattle.std.specs.Io.KnownBytes.{Consumes, IsAtEnd}
use Rattle.std.proofs.lemmas.Bool.{cases_order}
use Rattle.std.proofs.lemmas.List.{append-nil, length-map, append_cancel_right}
use Rattle.mdb_base.specs.Outside.{Rose}
use Rattle.mdb_log.specs.declared.log.Entry.{Entry}
use Rattle.mdb_lines.specs.declared.run_error.RunError.{RunError}
use Rattle.mdb_lines.specs.declared.run_error.RunError.TheVariants as errors
use Rattle.mdb_lines.specs.Script.{lines_of, max_input}
use Rattle.mdb_fleet_runs.specs.declared.event.Event.{Event}
use Rattle.mdb_fleet_runs.specs.Events.{SpellsEvent, SpellsCount, event_text, count_text}
use Rattle.mdb_fleet_runs.specs.FleetRuns.{line_of, AreEvents, Begins, IsBadCount, IsBad, IsBadAt, Seen, Finished, Ended, EndsWith}
use Rattle.mdb_fleet_runs.specs.Trials.{log_in, trial_of}
use Rattle.mdb_fleet_runs.proofs.Spelled.{one-event, one-count}

some-same : {A : Type 0} (a b : A) → Some a ≡ Some b → a ≡ b
some-same a b h = cc

cons-head : {A : Type 0} (x y : A) (xs ys : List A) → x ∷ xs ≡ y ∷ ys → x ≡ y
cons-head x y xs ys h = cc

cons-tail : {A : Type 0} (x y : A) (xs ys : List A) → x ∷ xs ≡ y ∷ ys → xs ≡ ys
cons-tail x y xs ys h = cc

abbrev first_line : ℕ → List ℕ
first_line n = count_text n ++ codes "\n"

-- events with the same lines are the same

same-event : (e f : Event) → SpellsEvent (event_text e) e → SpellsEvent (event_text f) f → line_of e ≡ line_of f → e ≡ f
same-event e f s t same =
    let text : event_text e ≡ event_text f = append_cancel_right (event_text e) (event_text f) (codes "\n") same in
    one-event (event_text f) e f (subst (λ (l : List ℕ). SpellsEvent l e) text s) t

same-events : (es fs : List Event) → AreEvents es → AreEvents fs → map line_of es ≡ map line_of fs → es ≡ fs
same-events [] [] s t h = refl
same-events [] (f ∷ fs) s t h = absurd (cc)
same-events (e ∷ es) [] s t h = absurd (cc)
same-events (e ∷ es) (f ∷ fs) s t h =
    let first = same-event e f s.0 t.0 (cons-head (line_of e) (line_of f) (map line_of es) (map line_of fs) h) in
    let others = same-events es fs s.1 t.1 (cons-tail (line_of e) (line_of f) (map line_of es) (map line_of fs) h) in
    cc

same-count : (n m : ℕ) → SpellsCount (count_text n) n → SpellsCount (count_text m) m → first_line n ≡ first_line m → n ≡ m
same-count n m s t same =
    let text : count_text n ≡ count_text m = append_cancel_right (count_text n) (count_text m) (codes "\n") same in
    one-count (count_text m) n m (subst (λ (l : List ℕ). SpellsCount l n) text s) t

module _ (input : List ℕ) (n m : ℕ) (es fs : List Event) (more rest : List (List ℕ)) (b : Begins input n es more) (c : Begins input m fs rest) where
  both : first_line n ∷ (map line_of es ++ more) ≡ first_line m ∷ (map line_of fs ++ rest)
  both = sym b.cut ∙ c.cut

  behind-first : map line_of es ++ more ≡ map line_of fs ++ rest
  behind-first = cons-tail (first_line n) (first_line m) (map line_of es ++ more) (map line_of fs ++ rest) both

-- an input is one run
one-run : (input : List ℕ) (n m : ℕ) (es fs : List Event) → Begins input n es [] → Begins input m fs [] → (n ≡ m) × (es ≡ fs)
one-run input n m es fs b c =
    let cut : map line_of es ≡ map line_of fs = sym (append-nil (map line_of es)) ∙ behind-first input n m es fs [] [] b c ∙ append-nil (map line_of fs) in
    (same-count n m b.count c.count (cons-head (first_line n) (first_line m) (map line_of es ++ []) (map line_of fs ++ []) (both input n m es fs [] [] b c)), same-events es fs b.each c.each cut)

no-lines : (input : List ℕ) (l : List ℕ) (ls : List (List ℕ)) → input ≡ [] → lines_of input ≡ l ∷ ls → ⊥
unfolding lines_of
no-lines input l ls none e = let nothing : lines_of input ≡ [] = ap lines_of none in cc

-- no line is bad where a longer run has one
bad-not : (done es : List Event) (bad : List ℕ) (more rest : List (List ℕ)) → length done < length es → map line_of done ++ bad ∷ more ≡ map line_of es ++ rest → AreEvents es → IsBad bad → ⊥
bad-not [] [] bad more rest fewer h all never = absurd (omega (arith, fewer))
bad-not [] (e ∷ es) bad more rest fewer h all never = never e all.0 (cons-head bad (line_of e) more (map line_of es ++ rest) h)
bad-not (d ∷ done) [] bad more rest fewer h all never = absurd (omega (arith, fewer))
bad-not (d ∷ done) (e ∷ es) bad more rest fewer h all never =
    bad-not done es bad more rest (omega (arith, fewer)) (cons-tail (line_of d) (line_of e) (map line_of done ++ bad ∷ more) (map line_of es ++ rest) h) all.1 never

fewer-lines : (done es : List Event) (bad : List ℕ) (more : List (List ℕ)) → map line_of done ++ bad ∷ more ≡ map line_of es ++ [] → length done < length es
fewer-lines done es bad more h =
    let size : length (map line_of done ++ bad ∷ more) ≡ length (map line_of es) = ap length (h ∙ append-nil (map line_of es)) in
    omega (arith, size, length-append (map line_of done) (bad ∷ more), length-map done line_of, length-map es line_of)

-- the first bad line is at one place
one-place : (done es : List Event) (bad worse : List ℕ) (more rest : List (List ℕ)) → map line_of done ++ bad ∷ more ≡ map line_of es ++ worse ∷ rest → AreEvents done → AreEvents es → IsBad bad → IsBad worse
    → (length done ≡ length es) ⊎ ((length done < length es) ⊎ (length es < length done)) → length done ≡ length es
one-place done es bad worse more rest h before all never neither (inl same) = same
one-place done es bad worse more rest h before all never neither (inr (inl fewer)) = absurd (bad-not done es bad more (worse ∷ rest) fewer h all never)
one-place done es bad worse more rest h before all never neither (inr (inr longer)) = absurd (bad-not es done worse rest (bad ∷ more) longer (sym h) before neither)

-- a first line that spells no number begins no run
bad-first : (input : List ℕ) (n : ℕ) (es : List Event) (rest : List (List ℕ)) (bad : List ℕ) (more : List (List ℕ)) → Begins input n es rest → lines_of input ≡ bad ∷ more → IsBadCount bad → ⊥
bad-first input n es rest bad more b cut never = never n b.count (cons-head bad (first_line n) more (map line_of es ++ rest) (sym cut ∙ b.cut))

-- a source that is read to its end gave what it told
told : (left new : Option (List ℕ)) (input found : List ℕ) → left ≡ Some input → Consumes left new found → IsAtEnd new → found ≡ input
told None new input found e h ends = absurd (cc)
told (Some xs) None input found e h ends = absurd h
told (Some xs) (Some ys) input found e h ends = let all : xs ≡ found = h ∙ rw ends (append-nil found) in let same = some-same xs input e in sym all ∙ same

-- what a source gave is no longer than what it told
no-longer : (left new : Option (List ℕ)) (input found : List ℕ) → left ≡ Some input → Consumes left new found → length found ≤ length input
no-longer None new input found e h = absurd (cc)
no-longer (Some xs) None input found e h = absurd h
no-longer (Some xs) (Some ys) input found e h = let same = some-same xs input e in let size : length input ≡ length (found ++ ys) = ap length (sym same ∙ h) in omega (arith, size, length-append found ys)

begins-at : (a b : List ℕ) (n : ℕ) (es : List Event) (more : List (List ℕ)) → a ≡ b → Begins a n es more → Begins b n es more
begins-at a b n es more same = subst (λ (x : List ℕ). Begins x n es more) same

pub completes : (old new : Seen) (r : Result (List Entry) RunError) (input : List ℕ) (n : ℕ) (events : List Event) → old.left ≡ Some input → length input ≤ max_input → Begins input n events []
    → (Rose old.reads new.reads → ⊥) → (Rose old.writes new.writes → ⊥) → IfOk r (Finished old new) → IfErr r (Ended old new) → MatchResult r (λ log. log ≡ log_in n (trial_of n events)) (λ e. e ≡ errors.OutOfMemory)
completes old new (Ok log) input n events left short b read write finished ended =
    let same = told old.left new.left input finished.input left finished.read.consumed finished.read.ended in
    elim finished.ran [
      | inl nothing ↦ absurd (no-lines input (first_line n) (map line_of events ++ []) (sym same ∙ nothing.0) b.cut)
      | inr played ↦
          let one = one-run input played.0 n played.1 events (begins-at finished.input input played.0 played.1 [] same played.2.begins) b in
          played.2.answers ∙ ap (λ (m : ℕ). log_in m (trial_of m played.1)) one.0 ∙ ap (λ (es : List Event). log_in n (trial_of n es)) one.1
    ]
completes old new (Err errors.OutOfMemory) input n events left short b read write finished ended = refl
completes old new (Err errors.ReadFault) input n events left short b read write finished ended = absurd (read ended.0)
completes old new (Err errors.WriteFault) input n events left short b read write finished (found, all, inl (inl h)) = absurd h
completes old new (Err errors.WriteFault) input n events left short b read write finished (found, all, inl (inr (m, es, more, (begins, front, rose)))) = absurd (write rose)
completes old new (Err errors.WriteFault) input n events left short b read write finished (found, all, inr (none, took, rose)) = absurd (write rose)
completes old new (Err (errors.Malformed k)) input n events left short b read write finished (found, all, inl (at, (bad, more, cut, never), took, same)) =
    let whole = told old.left new.left input found left all.consumed all.ended in
    absurd (bad-first input n events [] bad more b (ap lines_of (sym whole) ∙ cut) never)
completes old new (Err (errors.Malformed k)) input n events left short b read write finished (found, all, inr (m, es, more, (bad, begins, at, never, took, same))) =
    let whole = told old.left new.left input found left all.consumed all.ended in
    let cut = behind-first input m n es events (bad ∷ more) [] (begins-at found input m es (bad ∷ more) whole begins) b in
    absurd (bad-not es events bad more [] (fewer-lines es events bad more cut) cut b.each never)
completes old new (Err errors.TooLong) input n events left short b read write finished (reads, writes, took, (bytes, consumed, long)) =
    let le = no-longer old.left new.left input bytes left consumed in
    absurd (omega arith)

-- a bad line is no line of a whole run
not-whole : (input : List ℕ) (number : ℕ) (m : ℕ) (es : List Event) → IsBadAt input number → Begins input m es [] → ⊥
not-whole input number m es (inl (at, (bad, more, cut, never))) b = bad-first input m es [] bad more b cut never
not-whole input number m es (inr (n, done, bad, more, begins, at, never)) b =
    let cut = behind-first input n m done es (bad ∷ more) [] begins b in
    bad-not done es bad more [] (fewer-lines done es bad more cut) cut b.each never

pub names : (old new : Seen) (r : Result (List Entry) RunError) (input : List ℕ) (number : ℕ) → old.left ≡ Some input → length input ≤ max_input → IsBadAt input number → (Rose old.reads new.reads → ⊥)
    → (Rose old.writes new.writes → ⊥) → IfOk r (Finished old new) → IfErr r (Ended old new) → EndsWith (errors.Malformed number) r
names old new (Ok log) input number left short found read write finished ended =
    let whole = told old.left new.left input finished.input left finished.read.consumed finished.read.ended in
    elim finished.ran [
      | inl nothing ↦ some-line found (sym whole ∙ nothing.0)
      | inr played ↦ not-whole input number played.0 played.1 found (begins-at finished.input input played.0 played.1 [] whole played.2.begins)
    ]
  where
    some-line : IsBadAt input number → input ≡ [] → ⊥
    some-line (inl (at, (bad, more, cut, never))) none = no-lines input bad more none cut
    some-line (inr (n, es, bad, more, begins, at, never)) none = no-lines input (first_line n) (map line_of es ++ bad ∷ more) none begins.cut
names old new (Err errors.OutOfMemory) input number left short found read write finished ended = inr refl
names old new (Err errors.ReadFault) input number left short found read write finished ended = absurd (read ended.0)
names old new (Err errors.WriteFault) input number left short found read write finished (given, all, inl (inl h)) = absurd h
names old new (Err errors.WriteFault) input number left short found read write finished (given, all, inl (inr (m, es, more, (begins, front, rose)))) = absurd (write rose)
names old new (Err errors.WriteFault) input number left short found read write finished (given, all, inr (none, took, rose)) = absurd (write rose)
names old new (Err (errors.Malformed k)) input number left short (inl (at, (worse, rest, cut, neither))) read write finished (given, all, inl (is, (bad, more, own, never), took, same)) =
    inl (ap errors.Malformed (is ∙ sym at))
names old new (Err (errors.Malformed k)) input number left short (inl (at, (worse, rest, cut, neither))) read write finished (given, all, inr (m, es, more, (bad, begins, is, never, took, same))) =
    let whole = told old.left new.left input given left all.consumed all.ended in
    absurd (bad-first input m es (bad ∷ more) worse rest (begins-at given input m es (bad ∷ more) whole begins) cut neither)
names old new (Err (errors.Malformed k)) input number left short (inr (n, done, worse, rest, first, at, neither)) read write finished (given, all, inl (is, (bad, more, own, never), took, same)) =
    let whole = told old.left new.left input given left all.consumed all.ended in
    absurd (bad-first input n done (worse ∷ rest) bad more first (ap lines_of (sym whole) ∙ own) never)
names old new (Err (errors.Malformed k)) input number left short (inr (n, done, worse, rest, first, at, neither)) read write finished (given, all, inr (m, es, more, (bad, begins, is, never, took, same))) =
    let whole = told old.left new.left input given left all.consumed all.ended in
    let cut = behind-first input m n es done (bad ∷ more) (worse ∷ rest) (begins-at given input m es (bad ∷ more) whole begins) first in
    let one = one-place es done bad worse more rest cut begins.each first.each never neither (cases_order (length es) (length done)) in
    inl (ap errors.Malformed (is ∙ ap (λ k. 2 + k) one ∙ sym at))
names old new (Err errors.TooLong) input number left short found read write finished (reads, writes, took, (bytes, consumed, long)) =
    let le = no-longer old.left new.left input bytes left consumed in
    absurd (omega arith)

-- what was read to its end is no longer than the greatest length
pub lengthy : (old new : Seen) (r : Result (List Entry) RunError) (input : List ℕ) → old.left ≡ Some input → max_input < length input → (Rose old.reads new.reads → ⊥) → IfOk r (Finished old new) → IfErr r (Ended old new)
    → EndsWith errors.TooLong r
lengthy old new (Ok log) input left long read finished ended =
    let size = ap length (told old.left new.left input finished.input left finished.read.consumed finished.read.ended) in
    absurd (omega (arith, size, long, finished.read.short))
lengthy old new (Err errors.OutOfMemory) input left long read finished ended = inr refl
lengthy old new (Err errors.ReadFault) input left long read finished ended = absurd (read ended.0)
lengthy old new (Err errors.WriteFault) input left long read finished ended =
    let size = ap length (told old.left new.left input ended.0 left ended.1.consumed ended.1.ended) in
    absurd (omega (arith, size, long, ended.1.short))
lengthy old new (Err (errors.Malformed n)) input left long read finished ended =
    let size = ap length (told old.left new.left input ended.0 left ended.1.consumed ended.1.ended) in
    absurd (omega (arith, size, long, ended.1.short))
lengthy old new (Err errors.TooLong) input left long read finished ended = inl refl
