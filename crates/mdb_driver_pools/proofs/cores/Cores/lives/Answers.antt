use Rattle.std.proofs.Common.{◌∙◌, ap, is_some}
use Rattle.std.specs.Prelude.{slice_get}
use Rattle.mdb_driver_pools.proofs.InMemory.LivingPools.{copied-some, living-some}
use Rattle.mdb_driver_pools.proofs.cores.Cores.lives.Goals as goal

pub returns : goal.returns
returns c = c.is_some.ensures ∙ (copied-some c.get.result ∙ (ap is_some c.get.ensures ∙ living-some (slice_get c.args.self.now.items c.args.place)))
