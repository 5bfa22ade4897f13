use Rattle.mdb_sound.proofs.Earlier.{earlier-sound}
use Rattle.mdb_sound.proofs.histories.earlier_histories_are_sound.Goals as goal

pub returns : goal.returns
returns c = earlier-sound
