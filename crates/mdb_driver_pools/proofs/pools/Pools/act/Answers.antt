use Rattle.std.proofs.Common.{sym, ◌∙◌}
use Rattle.mdb_driver_pools.proofs.OnePool.FoundAt.{place-lives}
use Rattle.mdb_driver_pools.proofs.OnePool.BecomesOfAct.{ready-lacking, ready-asked, performs-lacking, performs-known, performs-asked}
use Rattle.mdb_driver_pools.proofs.pools.Pools.act.Goals as goal

pub returns-in_default-clause-ready : goal.returns-in_default-clause-ready
returns-in_default-clause-ready c = ready-lacking c.args.self.now.cores.items c.args.step.now c.without_pool.result c.without_pool.ensures

pub returns-in_default-clause-performs : goal.returns-in_default-clause-performs
returns-in_default-clause-performs c = λ o h z last few. performs-lacking o c.args.self.now.cores.items h z c.args.self.now.last last few c.args.step.now c.requires.act c.requires.in_time c.without_pool.result (sym c.index_of.ensures ∙ c.in_default.is) c.without_pool.ensures

pub returns-then-names_known-clause-performs : goal.returns-then-names_known-clause-performs
returns-then-names_known-clause-performs c = λ o h z last few. performs-known o c.args.self.now.cores.items h z c.args.self.now.last last few c.args.step.now c.requires.act c.requires.in_time c.in-Some.place (sym c.index_of.ensures ∙ c.in-Some.is) c.requires.early (sym c.names_known.ensures ∙ c.if-names_known.true)

pub ask-requires-clause-new : goal.ask-requires-clause-new
ask-requires-clause-new c = sym c.names_known.ensures ∙ c.if-names_known.false

pub ask-requires-clause-there : goal.ask-requires-clause-there
ask-requires-clause-there c = place-lives c.args.self.now.cores.items c.args.step.now.act c.in-Some.place (sym c.index_of.ensures ∙ c.in-Some.is)

pub returns-clause-ready : goal.returns-clause-ready
returns-clause-ready c = ready-asked c.args.self.now.cores.items c.in-Some.place c.args.step.now c.ask.result c.ask.ensures

pub returns-clause-performs : goal.returns-clause-performs
returns-clause-performs c = λ o h z last few. performs-asked o c.args.self.now.cores.items h z c.args.self.now.last last few c.args.step.now c.requires.act c.requires.in_time c.in-Some.place (sym c.index_of.ensures ∙ c.in-Some.is) c.requires.early
    (sym c.names_known.ensures ∙ c.if-names_known.false) c.ask.result c.ask.ensures
