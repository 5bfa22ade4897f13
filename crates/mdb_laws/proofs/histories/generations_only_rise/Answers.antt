use Rattle.mdb_laws.proofs.OfHistories.Rising.{never-fall}
use Rattle.mdb_laws.proofs.histories.generations_only_rise.Goals as goal

pub returns : goal.returns
returns c = never-fall
