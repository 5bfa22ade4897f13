use Rattle.std.proofs.Common.{◌≡◌, ℕ, true, false, sym, ap, ◌∙◌, subst, codes, ◌++◌, refl}
use Rattle.mdb_base.specs.declared.address.ServerAddress.{ServerAddress}
use Rattle.mdb_log.specs.declared.step.Step.{Step}
use Rattle.mdb_log.specs.declared.step.Act.TheVariants as act
use Rattle.mdb_log.specs.declared.step.Use.{Use}
use Rattle.mdb_lines.specs.Script.{Spells}
use Rattle.mdb_parts.proofs.Wanting.{handed_on}
use Rattle.mdb_proxies.specs.declared.step.ProxyAct.TheVariants.{Ask, Collect, Finish, Pass}
use Rattle.mdb_proxies.specs.declared.step.ProxyStep.{ProxyStep}
use Rattle.mdb_proxy_lines.specs.ProxyLines.{SpellsStep}
use Rattle.mdb_proxy_lines.specs.ProxyForms.{word_of}
use Rattle.mdb_proxy_lines.proofs.Reading.{finish-behind, rest-printable}
use Rattle.mdb_proxy_lines.proofs.line_reading.finish.Goals as goal

pub parts_of_finish-requires : goal.parts_of_finish-requires
parts_of_finish-requires c = rw c.requires.text (rest-printable c.args.line.now c.requires.printable)

pub returns-in_err-moment-clause-only : goal.returns-in_err-moment-clause-only
returns-in_err-moment-clause-only c = λ m n used s.
    handed_on (record { moment = m; act = Finish n used }) c.from_residual.result c.in_err-moment.field-0.0 (c.in_err-moment.ensures m n used s.moment s.types (c.requires.text ∙ finish-behind c.args.line.now m n used s)) c.from_residual.ensures.1

pub returns-then-not-branch-clause-only : goal.returns-then-not-branch-clause-only
returns-then-not-branch-clause-only c = λ m n used s.
    let p = c.in_ok-moment in
    let is : ◌≡◌ {A = ℕ × ℕ × Use} (p.moment, p.request, p.used) (m, n, used) = p.ensures m n used s.moment s.types (c.requires.text ∙ finish-behind c.args.line.now m n used s) in
    let own : SpellsStep c.args.line.now (record { moment = p.moment; act = Finish p.request p.used }) = subst (λ (x : ℕ × ℕ × Use). SpellsStep c.args.line.now (record { moment = x.0; act = Finish x.1 x.2 })) (sym is) s in
    let no : true ≡ false = sym (c.in_ok-is_finish.ensures.no own) ∙ c.if-not-branch.true in
    cc

pub returns-clause-only : goal.returns-clause-only
returns-clause-only c = λ m n used s.
    let p = c.in_ok-moment in
    let is : ◌≡◌ {A = ℕ × ℕ × Use} (p.moment, p.request, p.used) (m, n, used) = p.ensures m n used s.moment s.types (c.requires.text ∙ finish-behind c.args.line.now m n used s) in
    let made : ℕ × ℕ × Use → ProxyStep = λ x. record { moment = x.0; act = Finish x.1 x.2 } in
    ap made is
