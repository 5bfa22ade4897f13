use Rattle.mdb_histories.proofs.Logs.{driver-sound}
use Rattle.mdb_histories.proofs.keeping.driver_logs_are_sound.Goals as goal

pub returns : goal.returns
returns c = driver-sound
