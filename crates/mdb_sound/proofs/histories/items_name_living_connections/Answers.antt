use Rattle.mdb_sound.proofs.Connections.{naming-laws}
use Rattle.mdb_sound.proofs.histories.items_name_living_connections.Goals as goal

pub returns : goal.returns
returns c = λ xs x c s. naming-laws xs x s c
