use Rattle.std.proofs.Common.{◌≡◌, ℕ, true, false, sym, ap, ◌∙◌, subst, codes, ◌++◌, refl}
use Rattle.mdb_base.specs.declared.address.ServerAddress.{ServerAddress}
use Rattle.mdb_log.specs.declared.step.Step.{Step}
use Rattle.mdb_log.specs.declared.step.Act.TheVariants as act
use Rattle.mdb_log.specs.declared.step.Use.{Use}
use Rattle.mdb_lines.specs.Script.{Spells}
use Rattle.mdb_parts.proofs.Wanting.{handed_on}
use Rattle.mdb_proxies.specs.declared.step.ProxyAct.TheVariants.{Ask, Collect, Finish, Pass}
use Rattle.mdb_proxies.specs.declared.step.ProxyStep.{ProxyStep}
use Rattle.mdb_proxy_lines.specs.ProxyLines.{SpellsStep}
use Rattle.mdb_proxy_lines.specs.ProxyForms.{word_of}
use Rattle.mdb_proxy_lines.proofs.Reading.{read-ask, read-finish, read-other}
use Rattle.mdb_proxy_lines.proofs.line_reading.read_proxy_line.Goals as goal

pub returns-in-Ask-clause-only : goal.returns-in-Ask-clause-only
returns-in-Ask-clause-only c = read-ask c.args.line.now c.ask.result (ap word_of (sym c.cut.ensures.front) ∙ (sym c.word_of.ensures ∙ c.in-Ask.is)) c.ask.ensures.only

pub returns-in-Finish-clause-only : goal.returns-in-Finish-clause-only
returns-in-Finish-clause-only c = read-finish c.args.line.now c.finish.result (ap word_of (sym c.cut.ensures.front) ∙ (sym c.word_of.ensures ∙ c.in-Finish.is)) c.finish.ensures.only

pub returns-in-Other-clause-only : goal.returns-in-Other-clause-only
returns-in-Other-clause-only c = read-other c.args.line.now c.other.result (ap word_of (sym c.cut.ensures.front) ∙ (sym c.word_of.ensures ∙ c.in-Other.is)) c.other.ensures.only
