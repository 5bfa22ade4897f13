use Rattle.mdb_laws.proofs.OfHistories.Living.{ready-once}
use Rattle.mdb_laws.proofs.histories.ready_pools_are_marked_once.Goals as goal

pub returns : goal.returns
returns c = ready-once
