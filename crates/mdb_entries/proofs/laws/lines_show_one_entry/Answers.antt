use Rattle.mdb_entries.proofs.OneEntry.{shows_one}
use Rattle.mdb_entries.proofs.laws.lines_show_one_entry.Goals as goal

pub returns : goal.returns
returns c = shows_one
