use Rattle.std.proofs.Common.{◌∙◌, sym, ap, length, is_some, nat_lt}
use Rattle.mdb_driver_pools.proofs.InMemory.GonePools.{is-gone}
use Rattle.mdb_driver_pools.proofs.InMemory.LivingPools.{living-there}
use Rattle.mdb_driver_pools.proofs.OnePool.HandedOut.{opened-number, spent-not, stands-in, home-is}
use Rattle.mdb_topology.proofs.topology.TopologyCore.pool.Goals as goal

pub returns-clause-opened : goal.returns-clause-opened
returns-clause-opened c = λ h z e.
    ap (nat_lt c.args.number) (ap length z.pools.fit.homes_are) ∙ opened-number c.args.self.now.pools.cores.items c.args.number (sym (ap is_some c.pool_at.ensures) ∙ e)

pub returns-clause-lives : goal.returns-clause-lives
returns-clause-lives c = spent-not c.args.self.now.pools.cores.items c.args.number _ c.pool_at.ensures

pub returns-clause-fits : goal.returns-clause-fits
returns-clause-fits c = λ h s z e. z.pools.fit.each c.args.number s (living-there c.args.self.now.pools.cores.items c.args.number s (sym c.pool_at.ensures ∙ e)).0

pub returns-clause-stands : goal.returns-clause-stands
returns-clause-stands c = λ h s z e. stands-in c.args.self.now.options c.args.self.now.pools.cores.items h z.pools.fit c.args.number s (living-there c.args.self.now.pools.cores.items c.args.number s (sym c.pool_at.ensures ∙ e)).0

pub returns-clause-index : goal.returns-clause-index
returns-clause-index c = λ h s z e. home-is c.args.self.now.options c.args.self.now.pools.cores.items h z.pools.fit c.args.number s (living-there c.args.self.now.pools.cores.items c.args.number s (sym c.pool_at.ensures ∙ e)).0

pub returns-clause-missing : goal.returns-clause-missing
returns-clause-missing c = λ h z e. is-gone c.args.self.now.options c.args.self.now.pools.cores.items h z.pools.fit c.args.number (sym c.pool_at.ensures ∙ e)
