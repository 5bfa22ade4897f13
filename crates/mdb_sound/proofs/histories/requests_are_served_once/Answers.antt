use Rattle.mdb_sound.proofs.Parties.{request-laws}
use Rattle.mdb_sound.proofs.histories.requests_are_served_once.Goals as goal

pub returns : goal.returns
returns c = λ xs r s. request-laws xs s r
