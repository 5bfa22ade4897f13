use Rattle.mdb_histories.proofs.Answers.{keeps-sound}
use Rattle.mdb_histories.proofs.keeping.answers_keep_histories_sound.Goals as goal

pub returns : goal.returns
returns c = λ w h step z d s. keeps-sound w h z s step d
