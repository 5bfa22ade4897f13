use Rattle.mdb_sound.proofs.Generations.{generation-laws}
use Rattle.mdb_sound.proofs.histories.generations_never_fall.Goals as goal

pub returns : goal.returns
returns c = generation-laws
