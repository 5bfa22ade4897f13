use Rattle.mdb_laws.proofs.OfCloses.Driver.{driver-due}
use Rattle.mdb_laws.proofs.closes.steps_close_what_they_name.Goals as goal

pub returns : goal.returns
returns c = λ w h step z s. driver-due w h z s step
