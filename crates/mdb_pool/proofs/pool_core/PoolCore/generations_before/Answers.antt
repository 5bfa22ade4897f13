use Rattle.std.proofs.Common.{Some, map, sym, ◌∙◌, ap, subst}
use Rattle.std.proofs.lemmas.Bool.{not-true, not-false}
use Rattle.mdb_log.specs.declared.generation.PoolGeneration.TheVariants.{Normal, LoadBalanced}
use Rattle.mdb_log.specs.declared.options.PoolOptions.{PoolOptions}
use Rattle.mdb_pool.specs.Now.{queries}
use Rattle.mdb_pool.specs.Core.{PoolCore}
use Rattle.mdb_pool.specs.declared.pool_core.PoolCore.TheInside.{Inside}
use Rattle.mdb_pool.specs.Kept.Values.{count_at}
use Rattle.mdb_pool.proofs.Told.ServicesOfClears.{AreNamed}
use Rattle.mdb_pool.proofs.Told.JobGenerations.{normal-generation, balanced-generation}
use Rattle.mdb_pool.proofs.pool_core.PoolCore.generations_before.Goals as goal

pub returns-then-not-options : goal.returns-then-not-options
unfolding queries
returns-then-not-options c = λ xs z waits. ap Normal c.count_at.ensures ∙ normal-generation c.args.self.now xs z c.args.id waits (sym (ap (λ (o : PoolOptions). o.load_balanced) c.options.ensures ∙ ap (λ (v : PoolCore). v.options.load_balanced) c.self.view_is) ∙ not-true c.options.result.load_balanced c.if-not-options.true)

pub returns : goal.returns
unfolding queries
returns c = λ xs z waits.
    ap LoadBalanced (c.new.ensures ∙ (c.in_ok-counted.ensures ∙ ap (map (λ t. (t, count_at c.args.self.now c.args.id (Some t)))) c.as_slice.ensures.value))
    ∙ balanced-generation c.args.self.now xs z c.args.id waits (sym (ap (λ (o : PoolOptions). o.load_balanced) c.options.ensures ∙ ap (λ (v : PoolCore). v.options.load_balanced) c.self.view_is) ∙ not-false c.options.result.load_balanced c.if-not-options.false) c.in_ok-services.services.items c.in_ok-services.ensures.ascend
    (subst (λ ks. AreNamed c.args.id ks c.in_ok-services.services.items) (ap (λ (i : Inside). i.draft.kept.clears) c.self-inside.view_is ∙ ap (λ (v : PoolCore). v.kept.clears) c.self.view_is) c.in_ok-services.ensures.members)
