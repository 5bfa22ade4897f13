use Rattle.mdb_topology.proofs.Crossing.{drivers}
use Rattle.mdb_pool_demo.proofs.running.run.Goals as goal

pub run_over-requires-send-C : goal.run_over-requires-send-C
run_over-requires-send-C g c κs within = search drivers depth 20
