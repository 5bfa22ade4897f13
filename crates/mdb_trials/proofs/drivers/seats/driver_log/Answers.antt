use Rattle.mdb_topology.proofs.Crossing.{drivers}
use Rattle.mdb_trials.proofs.drivers.seats.driver_log.Goals as goal

pub log_of-requires-send-C : goal.log_of-requires-send-C
log_of-requires-send-C g c κs = search drivers depth 20
