-- Generated scripts are scripts that the tool takes.
use Rattle.std.proofs.Common.{◌≡◌, ℕ, zero, suc, ◌≤◌, Bool, true, false, eqb, leb, ◌%◌, [], All, refl}
use Rattle.std.proofs.lemmas.List.Elements.{All-nil, All-cons, All-append}
use Rattle.mdb_log.specs.declared.step.Step.{Step}
use Rattle.mdb_generator.specs.Generated.{requested, returned, replaced, rest, round, rounds, generated, script}
use Rattle.mdb_generator.proofs.Scripts.{script_lines, generated_allowed}
use Rattle.mdb_driver_rules.specs.Acts.{is_driver_act}
use Rattle.mdb_runs.specs.Runs.{IsScript}

-- the step may come behind the first line
abbrev May : Step → Type 0
May s = is_driver_act s.act ≡ true

replaced_may : (i : ℕ) → All May (replaced i)
replaced_may i = on (eqb (i % 10) 0) refl
  where
    on : (b : Bool) → eqb (i % 10) 0 ≡ b → All May (replaced i)
    on true e = rw e (All-cons May _ [] refl (All-nil May))
    on false e = rw e (All-nil May)

rest_may : (i : ℕ) → All May (rest i)
rest_may i = on (leb i 3) refl
  where
    on : (b : Bool) → leb i 3 ≡ b → All May (rest i)
    on true e = rw e (All-cons May _ [] refl (All-nil May))
    on false e = rw e (All-cons May (returned i) (replaced i) refl (replaced_may i))

rounds_may : (n : ℕ) → All May (rounds n)
rounds_may zero = All-nil May
rounds_may (suc n) = All-append May (rounds n) (round (suc n)) (rounds_may n) (All-cons May (requested (suc n)) (rest (suc n)) refl (rest_may (suc n)))

pub generated_script : (n : ℕ) → n ≤ 2000 → IsScript (script n) (generated n)
generated_script n few = record { lines = script_lines n few; allowed = generated_allowed n few; within = (refl, rounds_may n) }
