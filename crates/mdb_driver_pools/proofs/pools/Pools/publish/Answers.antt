use Rattle.std.proofs.Common.{sym, ◌∙◌}
use Rattle.mdb_driver_pools.proofs.Publications.MadeAtOnce.{publishes-nothing}
use Rattle.mdb_driver_pools.proofs.pools.Pools.publish.Goals as goal

pub returns-in-None-clause-published : goal.returns-in-None-clause-published
returns-in-None-clause-published c =
    publishes-nothing c.args.change.now.options.now c.args.change.now.moment c.args.change.now.earlier.now c.args.change.now.later.now c.args.self.now.cores.items c.args.facts.now.items
    (sym c.in_ok-diff.ensures.difference ∙ c.in-None.is) c.requires.early c.requires.open_for
