use Rattle.std.proofs.Common.{refl, sym, ◌∙◌}
use Rattle.mdb_driver_pools.proofs.InMemory.LivingPools.{alive-of}
use Rattle.mdb_driver_pools.proofs.InMemory.NewParties.{new-tells}
use Rattle.mdb_driver_pools.proofs.OnePool.OneAnswer.{takes-act}
use Rattle.mdb_driver_pools.proofs.pools.Pools.ask.Goals as goal

pub refusal_now-requires-clause-act : goal.refusal_now-requires-clause-act
refusal_now-requires-clause-act c = takes-act c.at.result.now.pool c.args.step.now.act c.requires.act

pub refusal_now-requires-clause-new : goal.refusal_now-requires-clause-new
refusal_now-requires-clause-new c = new-tells c.args.self.now.cores.items c.args.place c.at.result.now c.args.step.now.act c.at.ensures c.requires.new

pub returns-in-Some : goal.returns-in-Some
returns-in-Some c = (c.at.result.now, c.at.ensures, sym c.refusal_now.ensures ∙ c.in-Some.is, alive-of c.args.self.now.cores.items c.args.place c.at.result.now c.requires.there c.at.ensures)

pub returns-in-None : goal.returns-in-None
returns-in-None c = (c.at.result.now, c.at.ensures, (refl, sym c.refusal_now.ensures ∙ c.in-None.is), alive-of c.args.self.now.cores.items c.args.place c.at.result.now c.requires.there c.at.ensures)
