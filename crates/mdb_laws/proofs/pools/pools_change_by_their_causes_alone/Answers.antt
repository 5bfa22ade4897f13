use Rattle.mdb_laws.proofs.Causes.{has-causes}
use Rattle.mdb_laws.proofs.pools.pools_change_by_their_causes_alone.Goals as goal

pub returns : goal.returns
returns c = has-causes
