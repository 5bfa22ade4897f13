-- A pool that changes what it keeps stays at home.
use Rattle.std.proofs.Common.{◌≡◌}
use Rattle.mdb_pool.specs.Core.{PoolCore}
use Rattle.mdb_pool.specs.Now.{queries}
use Rattle.mdb_pool.specs.Standing.{SameHome}

pub stays-home : {s t : PoolCore} → t.pool ≡ s.pool → t.address ≡ s.address → t.options ≡ s.options → t.kept.alone ≡ s.kept.alone → SameHome s t
unfolding queries
stays-home pool address options alone = record { pool = pool; address = address; options = options; alone = alone }
