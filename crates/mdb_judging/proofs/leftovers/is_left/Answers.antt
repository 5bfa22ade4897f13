use Rattle.std.proofs.Common.{sym, ◌∙◌, ◌≡◌, length, rules}
use Rattle.mdb_judging.proofs.Left.{left-on, left-found, left-none}
use Rattle.mdb_judging.proofs.leftovers.is_left.Goals as goal

pub loop-pool-preserved : goal.loop-pool-preserved
loop-pool-preserved c = λ h s q.
    let l = c.loop-pool in
    let i = l.invariant h s q in
    (i.0 ∙ left-on c.args.options.now h l.rest.now c.in-Some.pool.now c.in-Some.more.now c.in_ok-left.left c.in-Some.ensures.cases.0 (c.in_ok-left.ensures.answer h s i.1) c.if-left.false, c.in_ok-left.ensures.kept h s i.1)

pub returns-then-left-clause-answer : goal.returns-then-left-clause-answer
returns-then-left-clause-answer c = λ h s q.
    let l = c.loop-pool in
    let i = l.invariant h s q in
    sym (i.0 ∙ left-found c.args.options.now h l.rest.now c.in-Some.pool.now c.in-Some.more.now c.in_ok-left.left c.in-Some.ensures.cases.0 (c.in_ok-left.ensures.answer h s i.1) c.if-left.true)

pub returns-then-left-clause-kept : goal.returns-then-left-clause-kept
returns-then-left-clause-kept c = λ h s q. c.in_ok-left.ensures.kept h s (c.loop-pool.invariant h s q).1

pub returns-clause-answer : goal.returns-clause-answer
returns-clause-answer c = λ h s q.
    let none : length c.loop-pool.rest.now ≡ 0 = search rules in sym ((c.loop-pool.invariant h s q).0 ∙ left-none c.args.options.now h c.loop-pool.rest.now none)

pub returns-clause-kept : goal.returns-clause-kept
returns-clause-kept c = λ h s q. (c.loop-pool.invariant h s q).1
