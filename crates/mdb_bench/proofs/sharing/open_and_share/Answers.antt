use Rattle.mdb_topology.proofs.Crossing.{drivers}
use Rattle.mdb_bench.proofs.sharing.open_and_share.Goals as goal

pub greet_and_share-requires-send-C : goal.greet_and_share-requires-send-C
greet_and_share-requires-send-C g c κs within = search drivers depth 20
