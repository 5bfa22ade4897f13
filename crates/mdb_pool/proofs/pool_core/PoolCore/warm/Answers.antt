use Rattle.std.proofs.Common.{◌≡◌, true, rules, sym, ◌∙◌, ap, subst}
use Rattle.mdb_log.specs.declared.step.Act.TheVariants.{Warm}
use Rattle.mdb_pool.specs.Now.{queries}
use Rattle.mdb_pool.specs.Core.{PoolCore}
use Rattle.mdb_pool.specs.declared.pool_core.PoolCore.TheInside.{Inside}
use Rattle.mdb_pool.specs.Refusing.{can_tell}
use Rattle.mdb_pool.proofs.Answered.NewParties.{alone_can}
use Rattle.mdb_pool.proofs.Answered.Steps.{refuses-now}
use Rattle.mdb_pool.proofs.pool_core.PoolCore.warm.Goals as goal

pub returns-in-Some-clause-answers : goal.returns-in-Some-clause-answers
unfolding queries
returns-in-Some-clause-answers c = refuses-now c.args.self.now c.args.facts.now.items (record { moment = c.args.moment; act = Warm c.args.request c.args.self.now.address }) c.in-Some.why (search rules)

-- it stands alone, and so do its parts
pub asking_refusal-requires : goal.asking_refusal-requires
unfolding queries
asking_refusal-requires c = subst (λ (s : PoolCore). can_tell s c.args.request ≡ true) (sym (ap (λ (i : Inside). i.draft) c.self-inside.view_is ∙ c.self.view_is)) (alone_can c.args.self.now c.args.request c.requires)
