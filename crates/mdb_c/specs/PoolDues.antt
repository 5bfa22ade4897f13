-- The steps of the timers of a pool that stands alone.
use Rattle.mdb_pool.specs.declared.dues.Timer.{Timer}
use Rattle.mdb_pool.specs.declared.dues.Timer.TheVariants as timer
use Rattle.mdb_pool_session.specs.declared.pool_act.PoolAct.{PoolAct}
use Rattle.mdb_pool_session.specs.declared.pool_act.PoolAct.TheVariants as act

abbrev pub act_of : Timer → PoolAct
act_of timer.Expire = act.Expire
act_of timer.Maintain = act.Maintain
