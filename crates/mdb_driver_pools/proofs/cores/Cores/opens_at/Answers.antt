use Rattle.std.proofs.Common.{Option, sym, ◌∙◌, ap}
use Rattle.std.specs.Prelude.{option_copied}
use Rattle.mdb_pool.specs.Core.{PoolCore}
use Rattle.mdb_driver_pools.specs.Finding.{opens_in}
use Rattle.mdb_driver_pools.proofs.cores.Cores.opens_at.Goals as goal

pub returns-in-Some : goal.returns-in-Some
returns-in-Some c = c.is_open_at.ensures ∙ ap (λ (o : Option PoolCore). opens_in o c.args.address.now) (sym (ap option_copied c.in-Some.is) ∙ c.get.ensures)

pub returns-in-None : goal.returns-in-None
returns-in-None c = ap (λ (o : Option PoolCore). opens_in o c.args.address.now) (sym (ap option_copied c.in-None.is) ∙ c.get.ensures)
