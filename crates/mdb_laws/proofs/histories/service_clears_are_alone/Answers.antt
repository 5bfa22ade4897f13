use Rattle.mdb_laws.proofs.OfHistories.Living.{clears-one}
use Rattle.mdb_laws.proofs.histories.service_clears_are_alone.Goals as goal

pub returns : goal.returns
returns c = clears-one
