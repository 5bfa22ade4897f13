use Rattle.mdb_topology.proofs.Crossing.{drivers}
use Rattle.mdb_trials.proofs.drivers.goes_well.Goals as goal

pub play-requires-send-C : goal.play-requires-send-C
play-requires-send-C g c κs = search drivers depth 20
