use Rattle.std.proofs.Common.{◌≡◌, refl, sym, ap, ◌∙◌, subst}
use Rattle.mdb_base.specs.OptionRules.{broken_rule}
use Rattle.mdb_log.specs.declared.step.Step.{Step}
use Rattle.mdb_log.specs.declared.step.Act.TheVariants as act
use Rattle.mdb_lines.specs.Script.{Spells}
use Rattle.mdb_topology.specs.Logging.{opening_step}
use Rattle.mdb_proxy_runs.proofs.Ending.{options-end, opening-is, same-options, rules-kept}
use Rattle.mdb_proxy_runs.proofs.run.read_options.Goals as goal

pub returns-in-Err-clause-ends : goal.returns-in-Err-clause-ends
returns-in-Err-clause-ends c = rw c.malformed.ensures (options-end c.args.line.now c.in-Err.e (λ s h. c.in-Err.ensures.only s (rw c.as_bytes.ensures.value h)))

pub returns-in-None-clause-opens : goal.returns-in-None-clause-opens
returns-in-None-clause-opens c =
    let found : Spells 1 c.args.line.now c.in-Ok.step = rw c.as_bytes.ensures.value at c.in-Ok.ensures.found in
    let is : c.in-Ok.step ≡ opening_step c.in-Open.options = opening-is c.args.line.now c.in-Ok.step c.in-Open.options found c.in-Open.is in
    rw c.into_inner-options.ensures (subst (λ (s : Step). Spells 1 c.args.line.now s) is found)

pub returns-in-None-clause-alone : goal.returns-in-None-clause-alone
returns-in-None-clause-alone c = λ o h.
    let is : c.in-Ok.step ≡ opening_step o = c.in-Ok.ensures.only (opening_step o) (rw c.as_bytes.ensures.value h) in
    c.into_inner-options.ensures ∙ same-options c.in-Open.options o (sym c.in-Open.is ∙ ap (λ (s : Step). s.act) is)

pub returns-in-Some-clause-ends : goal.returns-in-Some-clause-ends
returns-in-Some-clause-ends c = (
  refl,
  λ o h.
      let is : c.in-Ok.step ≡ opening_step o = c.in-Ok.ensures.only (opening_step o) (rw c.as_bytes.ensures.value h) in
      let same : c.into_inner-options.result ≡ o = c.into_inner-options.ensures ∙ same-options c.in-Open.options o (sym c.in-Open.is ∙ ap (λ (s : Step). s.act) is) in
      let kept = ap broken_rule same ∙ rules-kept c.args.line.now o h in
      let no = c.in-Some.ensures ∙ kept in
      cc,
)
