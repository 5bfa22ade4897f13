use Rattle.std.proofs.Common.{length}
use Rattle.mdb_proxy_runs.proofs.Answered.{Between}
use Rattle.mdb_proxy_runs.proofs.run.more_lines.Given as goal

abbrev pub invariant-loop-rest : goal.invariant-loop-rest
invariant-loop-rest g l = Between l.input l.rest l.number l.initial.proxy l.proxy (g.K.Sink.held l.initial.sink) (g.K.Sink.held l.sink) (g.K.Sink.faults l.initial.sink) (g.K.Sink.faults l.sink)

abbrev pub decreases-loop-rest : goal.decreases-loop-rest
decreases-loop-rest g l = length l.rest
