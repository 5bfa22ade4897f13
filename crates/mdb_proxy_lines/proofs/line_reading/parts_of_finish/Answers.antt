use Rattle.std.proofs.Common.{◌≡◌, ℕ, true, false, sym, ap, ◌∙◌, subst, codes, ◌++◌, refl}
use Rattle.mdb_base.specs.declared.address.ServerAddress.{ServerAddress}
use Rattle.mdb_log.specs.declared.step.Step.{Step}
use Rattle.mdb_log.specs.declared.step.Act.TheVariants as act
use Rattle.mdb_log.specs.declared.step.Use.{Use}
use Rattle.mdb_lines.specs.Script.{Spells}
use Rattle.mdb_parts.proofs.Wanting.{handed_on}
use Rattle.mdb_proxies.specs.declared.step.ProxyAct.TheVariants.{Ask, Collect, Finish, Pass}
use Rattle.mdb_proxies.specs.declared.step.ProxyStep.{ProxyStep}
use Rattle.mdb_proxy_lines.specs.ProxyLines.{SpellsStep}
use Rattle.mdb_proxy_lines.specs.ProxyForms.{word_of}
use Rattle.mdb_proxy_lines.proofs.Reading.{return-spells, return-is}
use Rattle.mdb_proxy_lines.proofs.line_reading.parts_of_finish.Goals as goal

pub returns-in_err-moment : goal.returns-in_err-moment
returns-in_err-moment c = λ m n used lm ln e.
    let same = c.as_bytes.ensures.value ∙ c.in_ok-line.ensures.ok in
    let spells : Spells 2 c.as_bytes.result.now (record { moment = m; act = act.Return n used }) = rw same (return-spells c.args.text.now m n used c.requires lm ln e) in
    handed_on (m, n, used) c.from_residual-in_err-moment.result c.in_err-moment.field-0.0 (c.in_err-moment.ensures.only (record { moment = m; act = act.Return n used }) spells) c.from_residual-in_err-moment.ensures.1

pub returns-in-Return : goal.returns-in-Return
returns-in-Return c = λ m n used lm ln e.
    let same = c.as_bytes.ensures.value ∙ c.in_ok-line.ensures.ok in
    let spells : Spells 2 c.as_bytes.result.now (record { moment = m; act = act.Return n used }) = rw same (return-spells c.args.text.now m n used c.requires lm ln e) in
    let is : c.in_ok-moment.field-0 ≡ record { moment = m; act = act.Return n used } = c.in_ok-moment.ensures.only (record { moment = m; act = act.Return n used }) spells in
    return-is c.in_ok-moment.field-0 m n c.in-Return.request used c.in-Return.used is c.in-Return.is
