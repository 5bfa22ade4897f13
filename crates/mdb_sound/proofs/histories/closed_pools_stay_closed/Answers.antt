use Rattle.mdb_sound.proofs.Generations.{closed-for-good}
use Rattle.mdb_sound.proofs.histories.closed_pools_stay_closed.Goals as goal

pub returns : goal.returns
returns c = closed-for-good
