use Rattle.mdb_laws.proofs.OfCloses.Driver.{driver-caused}
use Rattle.mdb_laws.proofs.closes.closes_have_causes.Goals as goal

pub returns : goal.returns
returns c = λ w h step z d s. driver-caused w h z s step d
