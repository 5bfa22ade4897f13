use Rattle.mdb_histories.proofs.OfPlain.Drivers.{driver-legal}
use Rattle.mdb_histories.proofs.legality.driver_logs_are_legal.Goals as goal

pub returns : goal.returns
returns c = driver-legal
