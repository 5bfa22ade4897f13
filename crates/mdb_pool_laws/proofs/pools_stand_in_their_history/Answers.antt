use Rattle.mdb_pool.proofs.Told.OfItems.{stands-in}
use Rattle.mdb_pool_laws.proofs.pools_stand_in_their_history.Goals as goal

pub returns : goal.returns
returns c = stands-in
