use Rattle.std.proofs.Common.{sym, ◌∙◌}
use Rattle.mdb_driver_pools.proofs.InMemory.FoundLast.{holds-there}
use Rattle.mdb_driver_pools.proofs.cores.Cores.found_holder.Goals as goal

pub returns-then-holds_at : goal.returns-then-holds_at
returns-then-holds_at c = sym (holds-there c.args.self.now.items c.at-place.result c.args.party c.requires (sym c.holds_at.ensures ∙ c.if-holds_at.true))
