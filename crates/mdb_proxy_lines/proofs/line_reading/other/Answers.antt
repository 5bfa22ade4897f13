use Rattle.std.proofs.Common.{◌≡◌, ℕ, true, false, sym, ap, ◌∙◌, subst, codes, ◌++◌, refl}
use Rattle.mdb_base.specs.declared.address.ServerAddress.{ServerAddress}
use Rattle.mdb_log.specs.declared.step.Step.{Step}
use Rattle.mdb_log.specs.declared.step.Act.TheVariants as act
use Rattle.mdb_log.specs.declared.step.Use.{Use}
use Rattle.mdb_lines.specs.Script.{Spells}
use Rattle.mdb_parts.proofs.Wanting.{handed_on}
use Rattle.mdb_proxies.specs.declared.step.ProxyAct.TheVariants.{Ask, Collect, Finish, Pass}
use Rattle.mdb_proxies.specs.declared.step.ProxyStep.{ProxyStep}
use Rattle.mdb_proxy_lines.specs.ProxyLines.{SpellsStep}
use Rattle.mdb_proxy_lines.specs.ProxyForms.{word_of}
use Rattle.mdb_proxy_lines.proofs.Reading.{collect-spells, pass-spells, other-found, other-reads}
use Rattle.mdb_proxy_lines.proofs.line_reading.other.Goals as goal

pub returns-in_err-moment-clause-only : goal.returns-in_err-moment-clause-only
returns-in_err-moment-clause-only c = record {
  collects = λ m n s. handed_on (record { moment = m; act = Collect n }) c.from_residual.result c.in_err-moment.field-0.0 (c.in_err-moment.ensures.only (record { moment = m; act = act.Collect n }) (rw c.as_bytes.ensures.value (collect-spells c.args.line.now m n s))) c.from_residual.ensures.1;
  passes = λ m a s. handed_on (record { moment = m; act = Pass a }) c.from_residual.result c.in_err-moment.field-0.0 (c.in_err-moment.ensures.only (record { moment = m; act = a }) (rw c.as_bytes.ensures.value (pass-spells c.args.line.now m a s))) c.from_residual.ensures.1;
}

pub returns-clause-found : goal.returns-clause-found
returns-clause-found c =
    let found : Spells 2 c.args.line.now c.in_ok-moment.field-0 = rw c.as_bytes.ensures.value at c.in_ok-moment.ensures.found in
    other-found c.args.line.now c.in_ok-moment.field-0 c.other_step.result found c.other_step.ensures

pub returns-clause-only : goal.returns-clause-only
returns-clause-only c = other-reads c.args.line.now c.in_ok-moment.field-0 c.other_step.result (λ s h. c.in_ok-moment.ensures.only s (rw c.as_bytes.ensures.value h)) c.other_step.ensures
