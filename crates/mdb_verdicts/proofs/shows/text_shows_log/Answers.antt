use Rattle.mdb_verdicts.proofs.Answered.{text-shows}
use Rattle.mdb_verdicts.proofs.shows.text_shows_log.Goals as goal

pub returns : goal.returns
returns c = text-shows c.args.log.now c.log_types.ensures
