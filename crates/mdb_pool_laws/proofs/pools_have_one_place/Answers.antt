use Rattle.mdb_log.specs.History.{of_pool}
use Rattle.mdb_pool.proofs.Histories.OnePlaceEach.{one-place}
use Rattle.mdb_pool_laws.proofs.pools_have_one_place.Goals as goal

pub returns : goal.returns
returns c = λ s h z. one-place s (of_pool s.pool h) z.fits
