use Rattle.mdb_sound.proofs.Connections.{connection-laws}
use Rattle.mdb_sound.proofs.histories.connections_live_once.Goals as goal

pub returns : goal.returns
returns c = λ xs c s. connection-laws xs s c
