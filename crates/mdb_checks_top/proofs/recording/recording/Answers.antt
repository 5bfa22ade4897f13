use Rattle.mdb_topology.proofs.Crossing.{drivers}
use Rattle.mdb_checks_top.proofs.recording.recording.Goals as goal

pub share-requires-send-C : goal.share-requires-send-C
share-requires-send-C g c κs within = search drivers depth 20
