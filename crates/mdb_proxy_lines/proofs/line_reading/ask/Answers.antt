use Rattle.std.proofs.Common.{◌≡◌, ℕ, true, false, sym, ap, ◌∙◌, subst, codes, ◌++◌, refl}
use Rattle.mdb_base.specs.declared.address.ServerAddress.{ServerAddress}
use Rattle.mdb_log.specs.declared.step.Step.{Step}
use Rattle.mdb_log.specs.declared.step.Act.TheVariants as act
use Rattle.mdb_log.specs.declared.step.Use.{Use}
use Rattle.mdb_lines.specs.Script.{Spells}
use Rattle.mdb_parts.proofs.Wanting.{handed_on}
use Rattle.mdb_proxies.specs.declared.step.ProxyAct.TheVariants.{Ask, Collect, Finish, Pass}
use Rattle.mdb_proxies.specs.declared.step.ProxyStep.{ProxyStep}
use Rattle.mdb_proxy_lines.specs.ProxyLines.{SpellsStep}
use Rattle.mdb_proxy_lines.specs.ProxyForms.{word_of}
use Rattle.mdb_proxy_lines.proofs.Reading.{ask-behind}
use Rattle.mdb_proxy_lines.proofs.line_reading.ask.Goals as goal

pub returns-in_err-moment-clause-only : goal.returns-in_err-moment-clause-only
returns-in_err-moment-clause-only c = λ m t n a s.
    handed_on (record { moment = m; act = Ask t n a }) c.from_residual.result c.in_err-moment.field-0.0 (c.in_err-moment.ensures m t n a s.moment s.types.0 s.types.1 s.rules (c.requires.text ∙ ask-behind c.args.line.now m t n a s)) c.from_residual.ensures.1

pub returns-then-not-branch-clause-only : goal.returns-then-not-branch-clause-only
returns-then-not-branch-clause-only c = λ m t n a s.
    let p = c.in_ok-moment in
    let is : ◌≡◌ {A = ℕ × ℕ × ℕ × ServerAddress} (p.moment, p.tenant, p.request, p.address) (m, t, n, a) = p.ensures m t n a s.moment s.types.0 s.types.1 s.rules (c.requires.text ∙ ask-behind c.args.line.now m t n a s) in
    let own : SpellsStep c.args.line.now (record { moment = p.moment; act = Ask p.tenant p.request p.address }) = subst (λ (x : ℕ × ℕ × ℕ × ServerAddress). SpellsStep c.args.line.now (record { moment = x.0; act = Ask x.1 x.2 x.3 })) (sym is) s in
    let no : true ≡ false = sym (c.in_ok-is_ask.ensures.no own) ∙ c.if-not-branch.true in
    cc

pub returns-clause-only : goal.returns-clause-only
returns-clause-only c = λ m t n a s.
    let p = c.in_ok-moment in
    let is : ◌≡◌ {A = ℕ × ℕ × ℕ × ServerAddress} (p.moment, p.tenant, p.request, p.address) (m, t, n, a) = p.ensures m t n a s.moment s.types.0 s.types.1 s.rules (c.requires.text ∙ ask-behind c.args.line.now m t n a s) in
    let made : ℕ × ℕ × ℕ × ServerAddress → ProxyStep = λ x. record { moment = x.0; act = Ask x.1 x.2 x.3 } in
    ap made is
