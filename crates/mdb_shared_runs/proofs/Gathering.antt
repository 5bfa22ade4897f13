-- A script is read, line by line.
use Rattle.std.proofs.Common.{◌≡◌, ℕ, ◌+◌, ◌<◌, ◌≤◌, true, List, [], ◌∷◌, ◌++◌, length, map, codes, refl, sym, ap, ◌∙◌, arith, append_assoc, subst, length-append, Bool, if◌then◌else◌, eq-eqb, ne_eqb}
use Rattle.std.proofs.lemmas.List.{append-nil, append_cancel_right}
use Rattle.mdb_log.specs.declared.step.Step.{Step}
use Rattle.mdb_base.specs.AddressReading.{beyond}
use Rattle.mdb_lines.specs.declared.run_error.RunError.{RunError}
use Rattle.mdb_lines.specs.declared.run_error.RunError.TheVariants as errors
use Rattle.mdb_lines.specs.Spelling.{spelling}
use Rattle.mdb_lines.specs.Script.{Spells, lines_of, line_of, max_input}
use Rattle.mdb_lines.proofs.Loops.{line_not_last}
use Rattle.mdb_topology.specs.Driving.{opens_seeds, may_come}
use Rattle.mdb_driver_rules.specs.Acts.{is_driver_act}
use Rattle.mdb_runs.specs.Runs.{Begins, IsBadAt, IsScript}
use Rattle.mdb_runs.proofs.Between.{lines_push, allowed_push, within_push}
use Rattle.mdb_shared_runs.specs.Reading.{may_stand, IsLine, NoLine, NoScript}

-- what holds between two lines
pub record Gathered (input rest : List ℕ) (n : ℕ) (steps : List Step) : Type 0 where
  pub begins : Begins input steps (lines_of rest)
  pub number : n ≡ 1 + length steps
  pub room : n + length rest ≤ 1 + max_input

-- what may stand on the next line may come
stands_next : (n : ℕ) (ss : List Step) (s : Step) → n ≡ 1 + length ss → may_stand n s ≡ may_come ss s
stands_next n [] s at = ap (λ (b : Bool). if b then opens_seeds s.act else is_driver_act s.act) (eq-eqb n 1 at)
stands_next n (u ∷ ss) s at = ap (λ (b : Bool). if b then opens_seeds s.act else is_driver_act s.act) (ne_eqb n 1 (λ e. omega (arith, at, e)))

pub gathered_none : (input : List ℕ) (steps : List Step) → length input ≤ max_input → steps ≡ [] → Gathered input input 1 steps
gathered_none input steps fits none = subst (Gathered input input 1) (sym none) record { begins = record { cut = refl; allowed = tt; within = tt }; number = refl; room = omega (arith, fits) }

-- the next line is one
pub gathered_more : (input rest line behind : List ℕ) (n : ℕ) (steps longer : List Step) → lines_of rest ≡ (line ++ codes "\n") ∷ lines_of behind → length behind < length rest
    → Gathered input rest n steps → (s : Step) × IsLine n line s × (longer ≡ steps ++ s ∷ []) → Gathered input behind (n + 1) longer
gathered_more input rest line behind n steps longer cut shorter g (s, (spells, may), is) =
    let whole : line ++ codes "\n" ≡ line_of s = ap (λ (xs : List ℕ). xs ++ codes "\n") spells.text in
    let spelled : Spells n (spelling s) s = subst (λ (xs : List ℕ). Spells n xs s) spells.text spells in
    let come : may_come steps s ≡ true = sym (stands_next n steps s g.number) ∙ may in
    let begins : Begins input (steps ++ s ∷ []) (lines_of behind) = record {
      cut = g.begins.cut ∙ rw (cut, lines_push steps s, whole, append_assoc (map line_of steps) (line_of s ∷ []) (lines_of behind)) refl;
      allowed = allowed_push 1 steps s g.begins.allowed (subst (λ (k : ℕ). Spells k (spelling s) s) g.number spelled);
      within = within_push steps s g.begins.within come;
    } in
    let size : length longer ≡ length steps + 1 = ap length is ∙ length-append steps (s ∷ []) in
    record {
      begins = subst (λ (ss : List Step). Begins input ss (lines_of behind)) (sym is) begins;
      number = omega (arith, size, g.number);
      room = omega (arith, g.room, shorter);
    }

-- the next line is none
pub next_none : (input rest line behind : List ℕ) (n : ℕ) (steps : List Step) (e : RunError) → lines_of rest ≡ (line ++ codes "\n") ∷ lines_of behind
    → Gathered input rest n steps → NoLine n line e → NoScript input e
next_none input rest line behind n steps errors.OutOfMemory cut g none = tt
next_none input rest line behind n steps errors.ReadFault cut g none = none
next_none input rest line behind n steps errors.WriteFault cut g none = none
next_none input rest line behind n steps (errors.Malformed m) cut g (at, never) = record {
  steps = steps;
  bad = line ++ codes "\n";
  more = lines_of behind;
  begins = record { cut = g.begins.cut ∙ ap (λ (ls : List (List ℕ)). map line_of steps ++ ls) cut; allowed = g.begins.allowed; within = g.begins.within };
  at = at ∙ g.number;
  never = λ s next eq.
      let text : line ≡ spelling s = append_cancel_right line (spelling s) (codes "\n") eq in
      let here : Spells n line s = subst (λ (xs : List ℕ). Spells n xs s) (sym text) (subst (λ (k : ℕ). Spells k (spelling s) s) at next.0) in
      never s (here, stands_next n steps s g.number ∙ next.1);
}
next_none input rest line behind n steps errors.TooLong cut g none = none

-- the last line has no newline
pub last_none : (input rest : List ℕ) (n : ℕ) (steps : List Step) → (lines_of rest ≡ rest ∷ []) × (beyond 10 rest ≡ []) → Gathered input rest n steps → IsBadAt input n
last_none input rest n steps cut g = record {
  steps = steps;
  bad = rest;
  more = [];
  begins = record { cut = g.begins.cut ∙ ap (λ (ls : List (List ℕ)). map line_of steps ++ ls) cut.0; allowed = g.begins.allowed; within = g.begins.within };
  at = g.number;
  never = λ s next eq. line_not_last (spelling s) (rw eq at cut.1);
}

pub gathered_all : (input : List ℕ) (n : ℕ) (steps : List Step) (rest : List ℕ) → length rest ≡ 0 → Gathered input rest n steps → IsScript input steps × (length steps ≤ max_input)
unfolding lines_of
gathered_all input n steps [] none g = (record { lines = g.begins.cut ∙ append-nil (map line_of steps); allowed = g.begins.allowed; within = g.begins.within }, omega (arith, g.number, g.room))
gathered_all input n steps (b ∷ bs) none g = absurd (omega (arith, none))
