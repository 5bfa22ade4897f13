use Rattle.std.proofs.Common.{sym, ◌∙◌}
use Rattle.mdb_driver_pools.proofs.InMemory.LivingPools.{living-there}
use Rattle.mdb_driver_pools.proofs.InMemory.GonePools.{gone-here}
use Rattle.mdb_driver_pools.proofs.OnePool.OpenAtOneAddress.{open-here}
use Rattle.mdb_driver_pools.proofs.pools.Pools.is_here.Goals as goal

pub returns-in-Some : goal.returns-in-Some
returns-in-Some c = c.is_open_at.ensures ∙ open-here c.args.self.now.cores.items c.args.address.now c.args.number c.in-Some.pool.now c.requires.single (living-there c.args.self.now.cores.items c.args.number c.in-Some.pool.now (sym c.in-Some.ensures)).0

pub returns-in-None : goal.returns-in-None
returns-in-None c = sym (gone-here c.args.self.now.cores.items c.args.address.now c.args.number (sym c.in-None.ensures))
