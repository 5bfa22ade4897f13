use Rattle.mdb_histories.proofs.OfPlain.Accepted.{opening-accepted}
use Rattle.mdb_histories.proofs.legality.openings_are_accepted.Goals as goal

pub returns : goal.returns
returns c = opening-accepted
