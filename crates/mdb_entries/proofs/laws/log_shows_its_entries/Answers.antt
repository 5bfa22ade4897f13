use Rattle.mdb_entries.proofs.AnswerLemmas.{log_shows}
use Rattle.mdb_entries.proofs.laws.log_shows_its_entries.Goals as goal

pub returns : goal.returns
returns c = log_shows
