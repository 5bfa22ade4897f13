use Rattle.std.proofs.Common.{arith, rules, length, ◌≡◌}
use Rattle.std.proofs.lemmas.Grind.{common_steps}
use Rattle.mdb_shared_runs.proofs.Gathering.{gathered_none, gathered_more, gathered_all, next_none, last_none}
use Rattle.mdb_shared_runs.proofs.lines.read_steps.Goals as goal

pub loop-rest-init : goal.loop-rest-init
loop-rest-init c = gathered_none c.args.input.now c.new-steps.result.items c.requires (search rules)

pub loop-rest-preserved : goal.loop-rest-preserved
loop-rest-preserved c =
    let l = c.loop-rest in
    gathered_more c.args.input.now l.rest.now c.in-Some.line.now c.in-Some.behind.now l.number l.steps.items c.add_step.new.steps.items c.in-Some.ensures.0 c.in-Some.ensures.1 l.invariant c.in-Ok.ensures.found

pub returns-in-Err-clause-none : goal.returns-in-Err-clause-none
returns-in-Err-clause-none c = let l = c.loop-rest in next_none c.args.input.now l.rest.now c.in-Some.line.now c.in-Some.behind.now l.number l.steps.items c.in-Err.e c.in-Some.ensures.0 l.invariant c.in-Err.ensures.none

pub returns-in-None-clause-none : goal.returns-in-None-clause-none
returns-in-None-clause-none c = let l = c.loop-rest in last_none c.args.input.now l.rest.now l.number l.steps.items c.in-None.ensures l.invariant

pub returns : goal.returns
returns c =
    let l = c.loop-rest in
    let none : length l.rest.now ≡ 0 = grind (arith, common_steps) in
    let all = gathered_all c.args.input.now l.number l.steps.items l.rest.now none l.invariant in
    record { steps = all.0; few = all.1; none = tt }
