use Rattle.std.proofs.Common.{◌-◌, ◌≤◌, length, take}
use Rattle.mdb_base.specs.Outside.{Took}
use Rattle.mdb_recorders.proofs.log_writer.write_on.Given as goal

abbrev pub invariant-loop-done : goal.invariant-loop-done
invariant-loop-done g l = record {
  taken : Took (g.K.Sink.held l.initial.sink) (g.K.Sink.held l.sink) (take l.done l.text);
  within : l.done ≤ length l.text;
}

abbrev pub decreases-loop-done : goal.decreases-loop-done
decreases-loop-done g l = length l.text - l.done
