use Rattle.std.proofs.Common.{Option, sym, ◌∙◌, ap}
use Rattle.std.specs.Prelude.{option_copied}
use Rattle.mdb_pool.specs.Core.{PoolCore}
use Rattle.mdb_driver_pools.specs.Finding.{holds_in}
use Rattle.mdb_driver_pools.proofs.cores.Cores.holds_at.Goals as goal

pub returns-in-Some : goal.returns-in-Some
returns-in-Some c = c.holds.ensures ∙ ap (λ (o : Option PoolCore). holds_in o c.args.party) (sym (ap option_copied c.in-Some.is) ∙ c.get.ensures)

pub returns-in-None : goal.returns-in-None
returns-in-None c = ap (λ (o : Option PoolCore). holds_in o c.args.party) (sym (ap option_copied c.in-None.is) ∙ c.get.ensures)
