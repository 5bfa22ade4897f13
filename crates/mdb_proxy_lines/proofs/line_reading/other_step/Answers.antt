use Rattle.std.proofs.Common.{◌≡◌, ℕ, true, false, sym, ap, ◌∙◌, subst, codes, ◌++◌, refl}
use Rattle.mdb_base.specs.declared.address.ServerAddress.{ServerAddress}
use Rattle.mdb_log.specs.declared.step.Step.{Step}
use Rattle.mdb_log.specs.declared.step.Act.TheVariants as act
use Rattle.mdb_log.specs.declared.step.Use.{Use}
use Rattle.mdb_lines.specs.Script.{Spells}
use Rattle.mdb_parts.proofs.Wanting.{handed_on}
use Rattle.mdb_proxies.specs.declared.step.ProxyAct.TheVariants.{Ask, Collect, Finish, Pass}
use Rattle.mdb_proxies.specs.declared.step.ProxyStep.{ProxyStep}
use Rattle.mdb_proxy_lines.specs.ProxyLines.{SpellsStep}
use Rattle.mdb_proxy_lines.specs.ProxyForms.{word_of}
use Rattle.mdb_proxy_lines.proofs.Reading.{other-refused, other-passed}
use Rattle.mdb_proxy_lines.proofs.line_reading.other_step.Goals as goal

pub returns-then-not-is_passed : goal.returns-then-not-is_passed
returns-then-not-is_passed c = other-refused c.args.moment c.args.act c.in_default.not-Collect (sym c.is_passed.ensures ∙ c.if-not-is_passed.true)

pub returns-in-Collect : goal.returns-in-Collect
returns-in-Collect c = rw c.in-Collect.is refl

pub returns-else-not-is_passed : goal.returns-else-not-is_passed
returns-else-not-is_passed c = other-passed c.args.moment c.args.act c.in_default.not-Collect (sym c.is_passed.ensures ∙ c.if-not-is_passed.false)
