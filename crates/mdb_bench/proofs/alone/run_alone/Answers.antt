use Rattle.mdb_topology.proofs.Crossing.{drivers}
use Rattle.mdb_bench.proofs.alone.run_alone.Goals as goal

pub run_over-requires-send-C : goal.run_over-requires-send-C
run_over-requires-send-C c κs = search drivers depth 20
