use Rattle.std.proofs.Common.{◌≡◌, length, arith}
use Rattle.std.proofs.lemmas.Grind.{common_steps}
use Rattle.mdb_proxy_runs.proofs.Answered.{starts, goes-on, done}
use Rattle.mdb_proxy_runs.proofs.Ending.{last-ends, line-ends}
use Rattle.mdb_proxy_runs.proofs.Writing.{last-wrote, line-wrote}
use Rattle.mdb_proxy_runs.proofs.run.more_lines.Goals as goal

pub loop-rest-init : goal.loop-rest-init
loop-rest-init g c = starts c.args.input.now c.args.proxy.now (g.K.Sink.held c.args.sink.now) (g.K.Sink.faults c.args.sink.now) c.requires

pub loop-rest-preserved : goal.loop-rest-preserved
loop-rest-preserved g c =
    let l = c.loop-rest in
    let new = c.one_line.new in
    goes-on c.args.input.now l.rest.now c.in-Some.line.now c.in-Some.behind.now l.number c.args.proxy.now l.proxy new.proxy (g.K.Sink.held c.args.sink.now) (g.K.Sink.held l.sink) (g.K.Sink.held new.sink) (g.K.Sink.faults c.args.sink.now) (g.K.Sink.faults l.sink) (g.K.Sink.faults new.sink)
    c.in-Some.ensures.0 c.in-Some.ensures.1 l.invariant c.in-Ok.ensures.runs

pub returns-in-None-clause-ends : goal.returns-in-None-clause-ends
returns-in-None-clause-ends g c =
    let l = c.loop-rest in
    last-ends c.args.input.now l.rest.now l.number c.args.proxy.now l.proxy (g.K.Sink.held c.args.sink.now) (g.K.Sink.held l.sink) (g.K.Sink.faults c.args.sink.now) (g.K.Sink.faults l.sink) l.invariant c.in-None.ensures

pub returns-in-Err-clause-ends : goal.returns-in-Err-clause-ends
returns-in-Err-clause-ends g c =
    let l = c.loop-rest in
    line-ends c.args.input.now l.rest.now l.number c.args.proxy.now l.proxy (g.K.Sink.held c.args.sink.now) (g.K.Sink.held l.sink) (g.K.Sink.faults c.args.sink.now) (g.K.Sink.faults l.sink) l.invariant c.in-Some.line.now c.in-Some.behind.now (g.K.Sink.faults c.one_line.new.sink) c.in-Err.e c.in-Some.ensures.0 c.in-Err.ensures.ends

pub returns-clause-run : goal.returns-clause-run
returns-clause-run g c =
    let l = c.loop-rest in
    let none : length l.rest.now ≡ 0 = grind (arith, common_steps) in
    done c.args.input.now l.rest.now l.number c.args.proxy.now l.proxy (g.K.Sink.held c.args.sink.now) (g.K.Sink.held l.sink) (g.K.Sink.faults c.args.sink.now) (g.K.Sink.faults l.sink) none l.invariant

pub returns-in-None-clause-wrote : goal.returns-in-None-clause-wrote
returns-in-None-clause-wrote g c =
    let l = c.loop-rest in
    last-wrote c.args.input.now l.rest.now l.number c.args.proxy.now l.proxy (g.K.Sink.held c.args.sink.now) (g.K.Sink.held l.sink) (g.K.Sink.faults c.args.sink.now) (g.K.Sink.faults l.sink) l.invariant

pub returns-in-Err-clause-wrote : goal.returns-in-Err-clause-wrote
returns-in-Err-clause-wrote g c =
    let l = c.loop-rest in
    line-wrote c.args.input.now l.rest.now l.number c.args.proxy.now l.proxy (g.K.Sink.held c.args.sink.now) (g.K.Sink.held l.sink) (g.K.Sink.faults c.args.sink.now) (g.K.Sink.faults l.sink) l.invariant c.in-Some.line.now c.in-Some.behind.now
    (g.K.Sink.held c.one_line.new.sink) (g.K.Sink.faults c.one_line.new.sink) c.in-Err.e c.in-Some.ensures.0 c.in-Err.ensures.ends c.in-Err.ensures.wrote
