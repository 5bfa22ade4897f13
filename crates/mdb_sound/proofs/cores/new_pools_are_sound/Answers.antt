use Rattle.mdb_sound.proofs.Pools.{opening-sound}
use Rattle.mdb_sound.proofs.cores.new_pools_are_sound.Goals as goal

pub returns : goal.returns
returns c = opening-sound
