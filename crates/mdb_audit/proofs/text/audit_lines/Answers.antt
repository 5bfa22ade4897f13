use Rattle.std.proofs.Common.{◌≡◌, length, arith}
use Rattle.std.proofs.lemmas.Grind.{common_steps}
use Rattle.mdb_audit.proofs.Texts.{between-start, line-good, line-cut, between-end}
use Rattle.mdb_audit.proofs.text.audit_lines.Goals as goal

pub loop-rest-init : goal.loop-rest-init
loop-rest-init c = between-start c.args.text.now c.args.auditor.now c.requires

pub returns-in-None : goal.returns-in-None
returns-in-None c =
    let l = c.loop-rest in
    line-cut c.args.text.now l.rest.now l.read c.in_ok-number.number l.auditor c.in_ok-number.ensures c.in-None.ensures.0 c.in-None.ensures.1 l.invariant

pub loop-rest-preserved : goal.loop-rest-preserved
loop-rest-preserved c =
    let l = c.loop-rest in
    line-good c.args.text.now l.rest.now c.in-Some.line.now c.in-Some.behind.now l.read c.in_ok-number.number c.in_ok-found-in-Some.found l.auditor c.fault.new.auditor c.in_ok-number.ensures c.in-Some.ensures.0 l.invariant c.in_default.is
    c.in_ok-found-in-Some.ensures

pub returns : goal.returns
returns c =
    let l = c.loop-rest in
    let none : length l.rest.now ≡ 0 = grind (arith, common_steps) in
    between-end c.args.text.now l.rest.now l.read l.auditor none l.invariant
