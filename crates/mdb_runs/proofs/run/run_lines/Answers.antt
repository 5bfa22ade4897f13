use Rattle.std.proofs.Common.{arith, length, ◌≡◌}
use Rattle.std.proofs.lemmas.Grind.{common_steps}
use Rattle.mdb_runs.proofs.Between.{goes_on, has-driver, driver-log, done, line_ends, last_ends}
use Rattle.mdb_topology.proofs.DriverOpened.ScriptsLog.{legal-log, kept-log}
use Rattle.mdb_histories.proofs.Logs.{sound-log}
use Rattle.mdb_histories.proofs.OfPlain.Drivers.{plain-log}
use Rattle.mdb_runs.proofs.run.run_lines.Goals as goal

pub returns-in-None-clause-ends : goal.returns-in-None-clause-ends
returns-in-None-clause-ends g c =
    let l = c.loop-rest in
    last_ends c.args.input.now l.rest.now l.number l.log (g.K.Sink.held c.args.sink.now) (g.K.Sink.held l.sink) (g.K.Sink.faults c.args.sink.now) (g.K.Sink.faults l.sink)
    c.in-None.ensures l.invariant.between (driver-log l.driver.core l.log l.invariant.stands)

pub returns-in-Err-clause-ends : goal.returns-in-Err-clause-ends
returns-in-Err-clause-ends g c =
    let l = c.loop-rest in
    let new = c.one_line.new in
    line_ends c.args.input.now l.rest.now c.in-Some.line.now c.in-Some.behind.now l.number l.log new.log
    (g.K.Sink.held c.args.sink.now) (g.K.Sink.held l.sink) (g.K.Sink.held new.sink) (g.K.Sink.faults c.args.sink.now) (g.K.Sink.faults l.sink) (g.K.Sink.faults new.sink) c.in-Err.e
    c.in-Some.ensures.0 l.invariant.between (driver-log l.driver.core l.log l.invariant.stands) (driver-log new.driver.core new.log c.in-Err.ensures.stands) c.in-Err.ensures.runs

pub loop-rest-preserved : goal.loop-rest-preserved
loop-rest-preserved g c =
    let l = c.loop-rest in
    let new = c.one_line.new in
    record {
      stands = c.in-Ok.ensures.stands;
      between = goes_on c.args.input.now l.rest.now c.in-Some.line.now c.in-Some.behind.now l.number l.log new.log
          (g.K.Sink.held c.args.sink.now) (g.K.Sink.held l.sink) (g.K.Sink.held new.sink) (g.K.Sink.faults c.args.sink.now) (g.K.Sink.faults l.sink) (g.K.Sink.faults new.sink) c.in-Ok.field-0
          c.in-Some.ensures.0 c.in-Some.ensures.1 l.invariant.between c.in-Ok.ensures.runs;
    }

pub returns-clause-ran : goal.returns-clause-ran
returns-clause-ran g c =
    let l = c.loop-rest in
    let none : length l.rest.now ≡ 0 = grind (arith, common_steps) in
    done c.args.input.now l.number l.log (g.K.Sink.held c.args.sink.now) (g.K.Sink.held l.sink) (g.K.Sink.faults c.args.sink.now) (g.K.Sink.faults l.sink) l.rest.now none l.invariant.between
    (has-driver l.driver.core l.log l.invariant.stands) (legal-log l.driver.core l.log l.invariant.stands) (plain-log l.driver.core l.log l.invariant.stands) (kept-log l.driver.core l.log l.invariant.stands) (sound-log l.driver.core l.log l.invariant.stands)
