use Rattle.std.proofs.Common.{rules}
use Rattle.mdb_log.specs.History.{opening}
use Rattle.mdb_pool.proofs.Follows.Opening.{opening-stands}
use Rattle.mdb_pool.proofs.pool_core.PoolCore.made.Goals as goal

pub returns-clause-stands : goal.returns-clause-stands
returns-clause-stands c =
    rw (c.new.ensures.now, c.new-2.ensures.now, c.new-2.ensures.created, c.new-2.ensures.claimed, c.new-2.ensures.clears, c.new-3.ensures.now.0, c.new-3.ensures.now.1, c.new-4.ensures.now) (opening-stands c.args.pool c.args.address c.args.options c.at_first.result _ _ c.at_first.ensures.state c.at_first.ensures.open)

pub invariant_of-result : goal.invariant_of-result
invariant_of-result c = (
  search rules,
  (
    opening c.args.pool c.args.address c.args.options,
    rw (c.new.ensures.now, c.new-2.ensures.now, c.new-2.ensures.created, c.new-2.ensures.claimed, c.new-2.ensures.clears, c.new-3.ensures.now.0, c.new-3.ensures.now.1, c.new-4.ensures.now) (opening-stands c.args.pool c.args.address c.args.options c.at_first.result _ _ c.at_first.ensures.state c.at_first.ensures.open),
  ),
)
