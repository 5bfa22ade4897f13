use Rattle.mdb_pool_session.proofs.Stepping.{keeps-opened}
use Rattle.mdb_pool_session.proofs.pool_session.PoolSession.open.Goals as goal

pub invariant_of-result : goal.invariant_of-result
invariant_of-result c =
    keeps-opened c.new-core.result c.args.number c.args.address c.args.options c.none.result.value c.new.result c.none.ensures c.new.ensures
    c.new-core.ensures.pool c.new-core.ensures.address c.new-core.ensures.options c.new-core.ensures.alone c.new-core.ensures.stands c.new-core.ensures.none_left c.new-core.ensures.within
