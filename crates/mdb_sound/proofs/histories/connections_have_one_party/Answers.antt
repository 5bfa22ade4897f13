use Rattle.mdb_sound.proofs.Parties.{party-laws}
use Rattle.mdb_sound.proofs.histories.connections_have_one_party.Goals as goal

pub returns : goal.returns
returns c = λ xs r c s. party-laws xs s r c
