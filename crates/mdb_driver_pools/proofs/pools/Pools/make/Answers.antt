use Rattle.std.proofs.Common.{List, subst}
use Rattle.mdb_pool.specs.Core.{PoolCore}
use Rattle.mdb_driver_pools.specs.Planned.{Leads}
use Rattle.mdb_driver_pools.proofs.pools.Pools.make.Goals as goal

pub apply-requires : goal.apply-requires
apply-requires c = record { leads = subst (λ x. (later : List PoolCore) × Leads x c.args.self.now.cores.items later) c.in-Alter.is c.requires.leads }

pub returns-in-Alter-clause-led : goal.returns-in-Alter-clause-led
returns-in-Alter-clause-led c = λ later leads. c.apply.ensures.led later (subst (λ x. Leads x c.args.self.now.cores.items later) c.in-Alter.is leads)
