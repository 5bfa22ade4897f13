use Rattle.mdb_histories.proofs.Answers.{opening-sound}
use Rattle.mdb_histories.proofs.keeping.openings_are_sound.Goals as goal

pub returns : goal.returns
returns c = opening-sound
