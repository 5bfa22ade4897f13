use Rattle.std.proofs.Common.{arith}
use Rattle.mdb_fleet_runs.proofs.Early.{early-room}
use Rattle.mdb_fleet_runs.proofs.run.line_of.Goals as goal

pub step-requires-clause-room : goal.step-requires-clause-room
step-requires-clause-room c = early-room c.args.number c.args.harness.now.fleet c.requires.number c.requires.early

pub step-requires-clause-few : goal.step-requires-clause-few
step-requires-clause-few c = omega (arith, c.requires.early.wire, c.requires.number)
