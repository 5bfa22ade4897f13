-- What a pool that stands alone does is an act that a pool takes.
use Rattle.std.proofs.Common.{ℕ, refl}
use Rattle.mdb_base.specs.declared.address.ServerAddress.{ServerAddress}
use Rattle.mdb_log.specs.Acts.{IsPoolAct}
use Rattle.mdb_pool_session.specs.declared.pool_act.PoolAct.{PoolAct}
use Rattle.mdb_pool_session.specs.declared.pool_act.PoolAct.TheVariants as own
use Rattle.mdb_pool_session.specs.PoolActs.{act_of}

pub taken : (p : ℕ) (a : ServerAddress) (act : PoolAct) → IsPoolAct p (act_of p a act)
taken p a (own.Request r) = tt
taken p a (own.Warm r) = tt
taken p a (own.Collect r) = tt
taken p a own.Claim = tt
taken p a (own.GiveUp r) = tt
taken p a (own.Established c how) = tt
taken p a (own.Failed c at error) = tt
taken p a (own.Return r used) = tt
taken p a (own.Pin r) = tt
taken p a (own.Replicate c) = tt
taken p a (own.Take r c) = tt
taken p a (own.Unpin c) = tt
taken p a own.Maintain = tt
taken p a own.Expire = tt
taken p a own.Ready = refl
taken p a (own.Clear service error) = refl
taken p a own.Close = refl
