-- What a pool that stands alone does, as an act of a pool with a number and an address.
use Rattle.std.specs.Prelude.{ℕ}
use Rattle.mdb_base.specs.declared.address.ServerAddress.{ServerAddress}
use Rattle.mdb_log.specs.declared.step.Act.{Act}
use Rattle.mdb_log.specs.declared.step.Act.TheVariants as act
use Rattle.mdb_pool_session.specs.declared.pool_act.PoolAct.{PoolAct}
use Rattle.mdb_pool_session.specs.declared.pool_act.PoolAct.TheVariants as own

-- the act of the pool p at the address a
abbrev pub act_of : ℕ → ServerAddress → PoolAct → Act
act_of p a (own.Request r) = act.Request r a
act_of p a (own.Warm r) = act.Warm r a
act_of p a (own.Collect r) = act.Collect r
act_of p a own.Claim = act.Claim
act_of p a (own.GiveUp r) = act.GiveUp r
act_of p a (own.Established c how) = act.Established p c how
act_of p a (own.Failed c at error) = act.Failed p c at error
act_of p a (own.Return r used) = act.Return r used
act_of p a (own.Pin r) = act.Pin r
act_of p a (own.Replicate c) = act.Replicate p c
act_of p a (own.Take r c) = act.Take r p c
act_of p a (own.Unpin c) = act.Unpin p c
act_of p a own.Maintain = act.Maintain a
act_of p a own.Expire = act.Expire a
act_of p a own.Ready = act.Ready p
act_of p a (own.Clear service error) = act.Clear p service error
act_of p a own.Close = act.Close p
