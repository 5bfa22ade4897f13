-- The last entry of a log has a step that a line spells.
use Rattle.std.proofs.Common.{arith, ◌≡◌, ◌-◌, true, List, [], ◌∷◌, ◌++◌, Some, length, slice_get, refl, sym, ◌∙◌, ap, subst}
use Rattle.std.proofs.lemmas.List.{length-append}
use Rattle.std.specs.Prelude.{IsTrue}
use Rattle.mdb_log.specs.declared.log.Entry.{Entry}
use Rattle.mdb_log.specs.declared.step.Step.{Step}
use Rattle.mdb_log.specs.declared.step.Act.{Act}
use Rattle.mdb_log.specs.declared.step.Act.TheVariants as act
use Rattle.mdb_lines.specs.Spelling.{is_spelled, HasSpelling}
use Rattle.mdb_topology.specs.Driving.{IsTaken}
use Rattle.mdb_driver_rules.specs.Acts.{is_driver_act}

built-spelled : (a : Act) → is_driver_act a ≡ true → IsTrue (is_spelled a)
built-spelled (act.Ready p) e = absurd (cc)
built-spelled (act.Clear p s w) e = absurd (cc)
built-spelled (act.Close p) e = absurd (cc)
built-spelled _ e = refl

taken-spelled : (log : List Entry) (s : Step) → IsTaken log s → HasSpelling s
taken-spelled [] s z = subst HasSpelling (sym z.step_is) refl
taken-spelled (first ∷ log) s z = built-spelled s.act z

last-is : (log : List Entry) (d : Entry) → slice_get (log ++ d ∷ []) (length log) ≡ Some d
last-is [] d = refl
last-is (first ∷ log) d = last-is log d

some-inside : (d e : Entry) → Some e ≡ Some d → e ≡ d
some-inside d e h = cc

pub last-spelled : (log after : List Entry) (d e : Entry) → after ≡ log ++ d ∷ [] → Some e ≡ slice_get after (length after - 1) → IsTaken log d.step → HasSpelling e.step
last-spelled log after d e added is z =
    let at : length after - 1 ≡ length log = omega (arith, ap length added, length-append log (d ∷ [])) in
    let found : Some e ≡ Some d = is ∙ (ap (λ xs. slice_get xs (length after - 1)) added ∙ (ap (slice_get (log ++ d ∷ [])) at ∙ last-is log d)) in
    subst (λ (x : Entry). HasSpelling x.step) (sym (some-inside d e found)) (taken-spelled log d.step z)
