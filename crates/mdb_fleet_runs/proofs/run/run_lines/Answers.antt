use Rattle.std.proofs.Common.{◌≡◌, length, Some, [], ◌∷◌, arith}
use Rattle.std.proofs.lemmas.Grind.{common_steps}
use Rattle.mdb_base.specs.AddressReading.{beyond}
use Rattle.mdb_lines.specs.Script.{lines_of}
use Rattle.mdb_topology.proofs.DriverOpened.ScriptsLog.{legal-log}
use Rattle.mdb_fleet_runs.proofs.Between.{starts, goes-on, done, line-ends, last-ends, first-last, first-ends}
use Rattle.mdb_fleet_runs.proofs.run.run_lines.Goals as goal

pub returns-in_default-clause-ends : goal.returns-in_default-clause-ends
returns-in_default-clause-ends g c =
    let cut : (lines_of c.args.input.now ≡ c.args.input.now ∷ []) × (beyond 10 c.args.input.now ≡ []) = c.in_default.ensures in
    first-last c.args.input.now (g.K.Sink.held c.args.sink.now) (g.K.Sink.faults c.args.sink.now) cut

pub returns-in-Err-clause-ends : goal.returns-in-Err-clause-ends
returns-in-Err-clause-ends g c =
    first-ends c.args.input.now c.in-Some.first.now c.in-Some.behind.now c.open.new.log (g.K.Sink.held c.args.sink.now) (g.K.Sink.faults c.args.sink.now) c.in-Err.e c.in-Some.ensures.0 c.in-Err.ensures

pub loop-rest-init : goal.loop-rest-init
loop-rest-init g c =
    starts c.args.input.now c.in-Some.first.now c.in-Some.behind.now c.in-Ok.harness c.open.new.log (g.K.Sink.held c.args.sink.now) (g.K.Sink.faults c.args.sink.now) c.in-Some.ensures.0 c.in-Some.ensures.1 c.requires.few c.in-Ok.ensures

pub returns-in-None-clause-ends : goal.returns-in-None-clause-ends
returns-in-None-clause-ends g c =
    let l = c.loop-rest in
    last-ends c.args.input.now l.rest.now l.number l.harness l.log (g.K.Sink.held c.args.sink.now) (g.K.Sink.held l.sink) (g.K.Sink.faults c.args.sink.now) (g.K.Sink.faults l.sink) c.in-None.ensures l.invariant

pub returns-in-Err-one_line-clause-ends : goal.returns-in-Err-one_line-clause-ends
returns-in-Err-one_line-clause-ends g c =
    let l = c.loop-rest in
    let new = c.one_line.new in
    line-ends c.args.input.now l.rest.now c.in-Some-cut_line.line.now c.in-Some-cut_line.behind.now l.number l.harness new.harness l.log new.log (g.K.Sink.held c.args.sink.now) (g.K.Sink.held l.sink) (g.K.Sink.held new.sink) (g.K.Sink.faults c.args.sink.now) (g.K.Sink.faults l.sink) (g.K.Sink.faults new.sink)
    c.in-Err-one_line.e c.in-Some-cut_line.ensures.0 l.invariant (c.in-Err-one_line.ensures.runs l.invariant.n l.invariant.watches)

pub loop-rest-preserved : goal.loop-rest-preserved
loop-rest-preserved g c =
    let l = c.loop-rest in
    let new = c.one_line.new in
    goes-on c.args.input.now l.rest.now c.in-Some-cut_line.line.now c.in-Some-cut_line.behind.now l.number l.harness new.harness l.log new.log (g.K.Sink.held c.args.sink.now) (g.K.Sink.held l.sink) (g.K.Sink.held new.sink) (g.K.Sink.faults c.args.sink.now) (g.K.Sink.faults l.sink) (g.K.Sink.faults new.sink)
    c.in-Ok-one_line.field-0 c.in-Some-cut_line.ensures.0 c.in-Some-cut_line.ensures.1 l.invariant (c.in-Ok-one_line.ensures.runs l.invariant.n l.invariant.watches) (c.in-Ok-one_line.ensures.watches l.invariant.n l.invariant.watches)

pub returns-clause-ran : goal.returns-clause-ran
returns-clause-ran g c =
    let l = c.loop-rest in
    let none : length l.rest.now ≡ 0 = grind (arith, common_steps) in
    done c.args.input.now l.rest.now l.number l.harness l.log (g.K.Sink.held c.args.sink.now) (g.K.Sink.held l.sink) (g.K.Sink.faults c.args.sink.now) (g.K.Sink.faults l.sink) none l.invariant (legal-log (Some l.harness.core) l.log l.invariant.watches.stands)
