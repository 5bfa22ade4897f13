use Rattle.std.proofs.Common.{rules, length, ◌≡◌}
use Rattle.mdb_judging.proofs.TakenFacts.{took-none, took-on, took-end}
use Rattle.mdb_judging.proofs.auditor.Auditor.take_facts.Goals as goal

pub loop-fact-init : goal.loop-fact-init
loop-fact-init c = took-none c.args.is_balanced c.args.facts.now c.args.self.now

pub loop-fact-preserved : goal.loop-fact-preserved
loop-fact-preserved c =
    let l = c.loop-fact in
    took-on c.args.is_balanced l.are_fair c.in_ok-is_fair.is_fair c.both-are_fair.result c.args.facts.now l.rest.now c.in-Some.fact.now c.in-Some.more.now c.args.self.now l.self c.take_fact.new.self c.in-Some.ensures.cases.0 c.both-are_fair.ensures l.invariant c.in_ok-is_fair.ensures

pub returns : goal.returns
returns c =
    let none : length c.loop-fact.rest.now ≡ 0 = search rules in
    took-end c.args.is_balanced c.loop-fact.are_fair c.args.facts.now c.loop-fact.rest.now c.args.self.now c.loop-fact.self none c.loop-fact.invariant
