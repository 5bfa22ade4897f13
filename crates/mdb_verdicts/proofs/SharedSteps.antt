-- The steps of a log that parts share are spelled, as those of their script are.
use Rattle.std.proofs.Common.{◌≡◌, ℕ, ◌+◌, ◌==◌, ◌<◌, ◌^◌, ◌%◌, Bool, true, false, if◌then◌else◌, List, [], ◌∷◌, ◌++◌, map, All, refl, sym, ◌∙◌, subst, arith, eq-eqb, ne_eqb}
use Rattle.std.specs.List.{AllByRecursion}
use Rattle.std.proofs.lemmas.List.Elements.{All-head, All-tail}
use Rattle.mdb_log.specs.declared.log.Entry.{Entry}
use Rattle.mdb_log.specs.declared.step.Step.{Step}
use Rattle.mdb_lines.specs.Script.{Spells, AreAllowed}
use Rattle.mdb_lines.specs.Spelling.{spelling}
use Rattle.mdb_laws.specs.Answers.{AreAnswers}
use Rattle.mdb_driver_rules.specs.Lines.{entry_after, steps_of}
use Rattle.mdb_turns.specs.Turning.{own}
use Rattle.mdb_turns.specs.Stepping.{raised, last_in}
use Rattle.mdb_shared_runs.specs.Shares.{lines_of_player_from, lines_of_player, raised_along, IsShared}
use Rattle.mdb_shared_runs.specs.Scripts.{Shared}
use Rattle.mdb_verdicts.proofs.Raised.{raised-spells}

-- a line after the first spells the step
abbrev IsLater : Step → Type 0
IsLater s = Spells 2 (spelling s) s

abbrev HasMoment : Entry → Type 0
HasMoment e = e.step.moment < 2 ^ 64

above-one : (n : ℕ) → 1 < n → (n == 1) ≡ false
above-one n more = ne_eqb n 1 (λ e. omega (arith, e, more))

later-lines : (n : ℕ) (ss : List Step) → 1 < n → AreAllowed n ss → AllByRecursion IsLater ss
later-lines n [] more h = tt
later-lines n (s ∷ ss) more h =
    let first : Spells n (spelling s) s = h.0 in
    let place : IsLater s = record { types = first.types; rules = first.rules; place = first.place ∙ above-one n more; printable = first.printable; text = refl } in
    (place, later-lines (n + 1) ss (omega (arith, more)) h.1)

-- those of one part
part-lines : (k j n : ℕ) (ss : List Step) → AllByRecursion IsLater ss → AllByRecursion IsLater (lines_of_player_from k j n ss)
part-lines k j n [] h = tt
part-lines k j n (s ∷ ss) h = on (n % k == j) (part-lines k j (n + 1) ss h.1)
  where
    on : (b : Bool) → AllByRecursion IsLater (lines_of_player_from k j (n + 1) ss) → AllByRecursion IsLater (if b then s ∷ lines_of_player_from k j (n + 1) ss else lines_of_player_from k j (n + 1) ss)
    on true rest = (h.0, rest)
    on false rest = rest

abbrev steps_in : List Entry → List Step
steps_in es = map (λ e. e.step) es

-- The entries of the part j after a log are of these steps, each of a later line.
record Does (j : ℕ) (before es : List Entry) : Type 0 where
  steps : List Step
  lines : AllByRecursion IsLater steps
  same : steps_in (own j es) ≡ raised_along j before es steps

no-more : (j : ℕ) (before es : List Entry) → raised_along j before es [] ≡ []
no-more j before [] = refl
no-more j before (e ∷ es) = refl

head-same : (x y : Step) (xs ys : List Step) → x ∷ xs ≡ y ∷ ys → x ≡ y
head-same x y xs ys h = cc

tail-same : (x y : Step) (xs ys : List Step) → x ∷ xs ≡ y ∷ ys → xs ≡ ys
tail-same x y xs ys h = cc

module _ (j : ℕ) (before : List Entry) (e : Entry) (es : List Entry) where
  abbrev longer : List Entry
  longer = before ++ e ∷ []

  -- what the part does after one entry
  does-next : Does j before (e ∷ es) → Does j longer es
  does-next d = on (e.seat == j) refl d.steps d.lines d.same
    where
      on : (b : Bool) → (e.seat == j) ≡ b → (ss : List Step) → AllByRecursion IsLater ss → steps_in (own j (e ∷ es)) ≡ raised_along j before (e ∷ es) ss → Does j longer es
      on true f [] lines same = let w : steps_in (own j (e ∷ es)) ≡ e.step ∷ steps_in (own j es) = rw f refl in let t : e.step ∷ steps_in (own j es) ≡ [] = sym w ∙ same in absurd (cc)
      on true f (s ∷ ss) lines same =
          let w : steps_in (own j (e ∷ es)) ≡ e.step ∷ steps_in (own j es) = rw f refl in
          let v : raised_along j before (e ∷ es) (s ∷ ss) ≡ raised (last_in before) s ∷ raised_along j longer es ss = rw f refl in
          record { steps = ss; lines = lines.1; same = tail-same e.step (raised (last_in before) s) (steps_in (own j es)) (raised_along j longer es ss) (sym w ∙ (same ∙ v)) }
      on false f [] lines same =
          let w : steps_in (own j (e ∷ es)) ≡ steps_in (own j es) = rw f refl in
          record { steps = []; lines = tt; same = sym w ∙ (same ∙ sym (no-more j longer es)) }
      on false f (s ∷ ss) lines same =
          let w : steps_in (own j (e ∷ es)) ≡ steps_in (own j es) = rw f refl in
          let v : raised_along j before (e ∷ es) (s ∷ ss) ≡ raised_along j longer es (s ∷ ss) = rw f refl in
          record { steps = s ∷ ss; lines = lines; same = sym w ∙ (same ∙ v) }

  -- its own entry is of a step of a later line
  does-first : (n : ℕ) → 1 < n → e.seat ≡ j → HasMoment e → Does j before (e ∷ es) → Spells n (spelling e.step) e.step
  does-first n more mine moment d = on d.steps d.lines d.same
    where
      f : (e.seat == j) ≡ true
      f = eq-eqb e.seat j mine

      on : (ss : List Step) → AllByRecursion IsLater ss → steps_in (own j (e ∷ es)) ≡ raised_along j before (e ∷ es) ss → Spells n (spelling e.step) e.step
      on [] lines same = let w : steps_in (own j (e ∷ es)) ≡ e.step ∷ steps_in (own j es) = rw f refl in let t : e.step ∷ steps_in (own j es) ≡ [] = sym w ∙ same in absurd (cc)
      on (s ∷ ss) lines same =
          let w : steps_in (own j (e ∷ es)) ≡ e.step ∷ steps_in (own j es) = rw f refl in
          let v : raised_along j before (e ∷ es) (s ∷ ss) ≡ raised (last_in before) s ∷ raised_along j longer es ss = rw f refl in
          raised-spells 2 n (last_in before) s e.step lines.0 refl (above-one n more) (head-same e.step (raised (last_in before) s) (steps_in (own j es)) (raised_along j longer es ss) (sym w ∙ (same ∙ v))) moment

shared-lines : (k n : ℕ) (before es : List Entry) → 1 < n → All (λ e. e.seat < k) es → AllByRecursion HasMoment es → ((j : ℕ) → j < k → Does j before es) → AreAllowed n (steps_of es)
shared-lines k n before [] more seats moments does = tt
shared-lines k n before (e ∷ es) more seats moments does = (
  does-first e.seat before e es n more refl moments.0 (does e.seat (All-head (λ (x : Entry). x.seat < k) e es seats)),
  shared-lines k (n + 1) (before ++ e ∷ []) es (omega (arith, more)) (All-tail (λ (x : Entry). x.seat < k) e es seats) moments.1 (λ j under. does-next j before e es (does j under)),
)

shared-some : (k : ℕ) (first : Step) (later : List Step) (entries : List Entry) → AreAllowed 1 (first ∷ later) → IsShared k (entry_after 0 [] first ∷ []) later entries → AllByRecursion HasMoment entries → AreAllowed 2 (steps_of entries)
shared-some k first later entries allowed shared moments =
    let lines : AllByRecursion IsLater later = later-lines 2 later (omega arith) allowed.1 in
    shared-lines k 2 (entry_after 0 [] first ∷ []) entries (omega arith) shared.seats moments
    (λ j under. record { steps = lines_of_player k j later; lines = part-lines k j 1 later lines; same = shared.players j under })

-- what a shared log needs for its text to show it
pub shared-answers : (k : ℕ) (steps : List Step) (log : List Entry) → Shared k steps log → AreAnswers [] log
shared-answers k [] log s = subst (AreAnswers []) (sym s.shares) tt
shared-answers k (first ∷ later) log s = subst (AreAnswers []) (sym s.shares.1) (refl, s.shares.3)

pub shared-allowed : (k : ℕ) (steps : List Step) (log : List Entry) → AreAllowed 1 steps → Shared k steps log → AllByRecursion HasMoment log → AreAllowed 1 (steps_of log)
shared-allowed k [] log allowed s moments = subst (λ (l : List Entry). AreAllowed 1 (steps_of l)) (sym s.shares) tt
shared-allowed k (first ∷ later) log allowed s moments =
    let entries : List Entry = s.shares.0 in
    let all : AllByRecursion HasMoment (entry_after 0 [] first ∷ entries) = subst (AllByRecursion HasMoment) s.shares.1 moments in
    subst (λ (l : List Entry). AreAllowed 1 (steps_of l)) (sym s.shares.1) (allowed.0, shared-some k first later entries allowed s.shares.2 all.1)
