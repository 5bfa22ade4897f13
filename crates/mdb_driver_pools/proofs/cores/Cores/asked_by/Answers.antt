use Rattle.std.proofs.Common.{sym, ◌∙◌}
use Rattle.mdb_driver_pools.proofs.InMemory.FoundLast.{asks-there}
use Rattle.mdb_driver_pools.proofs.cores.Cores.asked_by.Goals as goal

pub returns-then-asks_at : goal.returns-then-asks_at
returns-then-asks_at c = sym (asks-there c.args.self.now.items c.at-place.result c.args.party c.requires (sym c.asks_at.ensures ∙ c.if-asks_at.true))
