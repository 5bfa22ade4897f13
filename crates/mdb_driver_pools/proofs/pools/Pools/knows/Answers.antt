use Rattle.std.proofs.Common.{◌∙◌}
use Rattle.mdb_driver_pools.proofs.pools.Pools.knows.Goals as goal

pub returns : goal.returns
returns c = c.contains.ensures ∙ c.requires c.args.party
