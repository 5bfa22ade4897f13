use Rattle.std.proofs.Common.{◌≡◌, ◌==◌, not, None, Some, sym, ◌∙◌, ap}
use Rattle.mdb_log.specs.declared.generation.ConnectionGeneration.TheVariants.{Normal, LoadBalanced}
use Rattle.mdb_pool.specs.Now.{generation_now}
use Rattle.mdb_topology.proofs.Marks.Outdated.{outdated-balanced, outdated-none, outdated-normal, outdated-unserved}
use Rattle.mdb_topology.proofs.errors.complaining.is_outdated.Goals as goal

pub returns-in-Some-Normal : goal.returns-in-Some-Normal
returns-in-Some-Normal c live =
    let p = c.args.pool.now in
    let own = c.in-Some-Normal.own in
    let told : Some (Normal own) ≡ generation_now p c.args.id =
    ap Some (sym c.in-Some-Normal.field-0-is) ∙ (sym c.in-Some-Normal.is ∙ c.connection_generation.ensures) in
    ap (λ n. not (own == n)) c.generation.ensures ∙ outdated-normal p c.args.id live own told

pub returns-in-Some-LoadBalanced-Some : goal.returns-in-Some-LoadBalanced-Some
returns-in-Some-LoadBalanced-Some c live =
    let p = c.args.pool.now in
    let own = c.in-Some-LoadBalanced-Some.own in
    let told : Some (LoadBalanced (Some own)) ≡ generation_now p c.args.id =
    ap (λ y. Some (LoadBalanced y)) (sym c.in-Some-LoadBalanced-Some.field-0-0-is) ∙ (ap Some (sym c.in-Some-LoadBalanced-Some.field-0-is)
    ∙ (sym c.in-Some-LoadBalanced-Some.is ∙ c.connection_generation.ensures)) in
    ap (λ n. not (own.generation == n)) c.generation-in-Some-LoadBalanced-Some.ensures ∙ outdated-balanced p c.args.id live own told

pub returns-in-Some-LoadBalanced-None : goal.returns-in-Some-LoadBalanced-None
returns-in-Some-LoadBalanced-None c live =
    let p = c.args.pool.now in
    let told : Some (LoadBalanced None) ≡ generation_now p c.args.id =
    ap (λ y. Some (LoadBalanced y)) (sym c.in-Some-LoadBalanced-None.field-0-0-is) ∙ (ap Some (sym c.in-Some-LoadBalanced-None.field-0-is)
    ∙ (sym c.in-Some-LoadBalanced-None.is ∙ c.connection_generation.ensures)) in
    outdated-unserved p c.args.id live told

pub returns-in-None : goal.returns-in-None
returns-in-None c live = outdated-none c.args.pool.now c.args.id live (sym c.in-None.is ∙ c.connection_generation.ensures)
