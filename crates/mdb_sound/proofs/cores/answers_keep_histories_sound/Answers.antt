use Rattle.mdb_sound.proofs.Pools.{answer-sound}
use Rattle.mdb_sound.proofs.cores.answers_keep_histories_sound.Goals as goal

pub returns : goal.returns
returns c = λ s h step z sound. answer-sound s h z sound step
