-- What a line spells, and what may come, may be taken after the log of the lines before it.
use Rattle.std.proofs.Common.{◌≡◌, ℕ, true, eqb, List, [], ◌∷◌, Option, Some, None, is_none, refl, sym, subst}
use Rattle.std.proofs.lemmas.Bool.{eqb-true, and_parts}
use Rattle.mdb_base.specs.OptionRules.{broken_rule}
use Rattle.mdb_base.specs.declared.options.BadOption.{BadOption}
use Rattle.mdb_base.specs.declared.options.Options.{Options}
use Rattle.mdb_log.specs.declared.step.Step.{Step}
use Rattle.mdb_log.specs.declared.step.Act.{Act}
use Rattle.mdb_log.specs.declared.step.Act.TheVariants as act
use Rattle.mdb_log.specs.declared.log.Entry.{Entry}
use Rattle.mdb_lines.specs.Grammar.{is_act, are_options}
use Rattle.mdb_lines.specs.Script.{Spells}
use Rattle.mdb_topology.specs.Driving.{opens_seeds, may_come, IsFirstStep, IsTaken}
use Rattle.mdb_driver_rules.specs.Lines.{steps_of}
use Rattle.mdb_topology.specs.Logging.{opening_step}

no-rule : (x : Option BadOption) → is_none x ≡ true → x ≡ None
no-rule None h = refl
no-rule (Some bad) h = cc

opens-options : (o : Options) → is_none (broken_rule o) ≡ true → IsFirstStep (opening_step o)
opens-options o kept = record { options = o; step_is = refl; fits = no-rule (broken_rule o) kept }

first-taken : (m : ℕ) (a : Act) → is_act m a ≡ true → opens_seeds a ≡ true → IsFirstStep (record { moment = m; act = a })
unfolding are_options
first-taken m (act.Open o) h e =
    let p = and_parts (eqb m 0) (are_options o) h in
    let q = and_parts (is_none (broken_rule o)) _ p.1 in
    subst (λ (n : ℕ). IsFirstStep (record { moment = n; act = act.Open o })) (sym (eqb-true m 0 p.0)) (opens-options o q.0)
first-taken m _ h e = absurd (cc)

pub taken : (number : ℕ) (line : List ℕ) (log : List Entry) (s : Step) → Spells number line s → may_come (steps_of log) s ≡ true → IsTaken log s
taken number line [] s h may = first-taken s.moment s.act h.rules may
taken number line (first ∷ log) s h may = may
