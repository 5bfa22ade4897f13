use Rattle.std.proofs.Common.{sym, ◌∙◌}
use Rattle.mdb_driver_pools.proofs.InMemory.FoundLast.{opens-there}
use Rattle.mdb_driver_pools.proofs.cores.Cores.found_open_at.Goals as goal

pub returns-then-opens_at : goal.returns-then-opens_at
returns-then-opens_at c = sym (opens-there c.args.self.now.items c.at-place.result c.args.address.now c.requires (sym c.opens_at.ensures ∙ c.if-opens_at.true))
