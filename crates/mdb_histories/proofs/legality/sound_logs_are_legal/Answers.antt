use Rattle.mdb_histories.proofs.OfPlain.Legal.{plain-legal}
use Rattle.mdb_histories.proofs.legality.sound_logs_are_legal.Goals as goal

pub returns : goal.returns
returns c = plain-legal
