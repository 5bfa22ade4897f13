use Rattle.std.proofs.Common.{Some, inr}
use Rattle.mdb_topology.proofs.DriverOpened.ScriptsLog.{legal-log}
use Rattle.mdb_proxy_runs.proofs.Answered.{played}
use Rattle.mdb_proxy_runs.proofs.Ending.{second-last, second-ends, later-ends}
use Rattle.mdb_proxy_runs.proofs.Writing.{second-missing, second-wrote, later-wrote}
use denote.Param.Send.{sendable}
use Rattle.std.proofs.Crossing.{crosses}
use Rattle.mdb_topology.proofs.Crossing.{driver_crosses}
use Rattle.mdb_proxy_runs.proofs.run.with_shares.Goals as goal

pub close-core-requires-send-C : goal.close-core-requires-send-C
close-core-requires-send-C g c κs = search (driver_crosses, crosses, sendable) depth 20

pub returns-in_default-clause-ends : goal.returns-in_default-clause-ends
returns-in_default-clause-ends g c = second-last c.args.shares.items c.args.input.now (g.K.Sink.faults c.args.sink.now) c.in_default.ensures

pub returns-in-Err-clause-ends : goal.returns-in-Err-clause-ends
returns-in-Err-clause-ends g c =
    second-ends c.args.shares.items c.args.input.now c.in-Some.line.now c.in-Some.behind.now (g.K.Sink.faults c.args.sink.now) (g.K.Sink.faults c.begin.new.sink) c.in-Err.e c.in-Some.ensures.0 c.in-Err.ensures.ends

pub returns-in-Ok-more_lines-clause-ran : goal.returns-in-Ok-more_lines-clause-ran
returns-in-Ok-more_lines-clause-ran g c =
    inr (played c.args.shares.items c.args.input.now c.in-Some.line.now c.in-Some.behind.now c.in-Ok.proxy c.more_lines.new.proxy c.close-core.result.1 (g.K.Sink.held c.args.sink.now) (g.K.Sink.held c.begin.new.sink) (g.K.Sink.held c.more_lines.new.sink)
    (g.K.Sink.faults c.args.sink.now) (g.K.Sink.faults c.begin.new.sink) (g.K.Sink.faults c.more_lines.new.sink) c.in-Some.ensures.0 c.in-Ok.ensures.begins c.in-Ok-more_lines.ensures.run c.close-core.ensures.log
    (c.close-core.result.0, c.close-core.ensures.stands) (legal-log (Some c.close-core.result.0) c.close-core.result.1 c.close-core.ensures.stands))

pub returns-in-Err-more_lines-clause-ends : goal.returns-in-Err-more_lines-clause-ends
returns-in-Err-more_lines-clause-ends g c =
    let begins = c.in-Ok.ensures.begins in
    later-ends c.args.shares.items c.args.input.now c.in-Some.line.now c.in-Some.behind.now begins.0 (g.K.Sink.faults c.args.sink.now) (g.K.Sink.faults c.begin.new.sink) (g.K.Sink.faults c.more_lines.new.sink) c.in-Err-more_lines.e c.in-Some.ensures.0 begins.1 begins.4
    c.in-Err-more_lines.ensures.ends

pub returns-in_default-clause-wrote : goal.returns-in_default-clause-wrote
returns-in_default-clause-wrote g c = second-missing c.args.shares.items c.args.input.now (g.K.Sink.held c.args.sink.now)

pub returns-in-Err-clause-wrote : goal.returns-in-Err-clause-wrote
returns-in-Err-clause-wrote g c =
    second-wrote c.args.shares.items c.args.input.now c.in-Some.line.now c.in-Some.behind.now (g.K.Sink.held c.args.sink.now) (g.K.Sink.held c.begin.new.sink) (g.K.Sink.faults c.args.sink.now) (g.K.Sink.faults c.begin.new.sink) c.in-Err.e c.in-Some.ensures.0
    c.in-Err.ensures.ends c.in-Err.ensures.wrote

pub returns-in-Err-more_lines-clause-wrote : goal.returns-in-Err-more_lines-clause-wrote
returns-in-Err-more_lines-clause-wrote g c =
    later-wrote c.args.shares.items c.args.input.now c.in-Some.line.now c.in-Some.behind.now c.in-Ok.proxy (g.K.Sink.held c.args.sink.now) (g.K.Sink.held c.begin.new.sink) (g.K.Sink.held c.more_lines.new.sink) (g.K.Sink.faults c.args.sink.now) (g.K.Sink.faults c.begin.new.sink)
    c.in-Err-more_lines.e c.in-Some.ensures.0 c.in-Ok.ensures.begins c.in-Err-more_lines.ensures.wrote
