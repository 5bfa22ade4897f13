use Rattle.std.proofs.Common.{◌≡◌, Some, None, if◌then◌else◌, refl, sym, ap, subst}
use Rattle.mdb_log.specs.declared.options.PoolOptions.{PoolOptions}
use Rattle.mdb_log.specs.Connections.{is_live, known_service}
use Rattle.mdb_log.specs.Generations.{carried}
use Rattle.mdb_log.specs.History.{of_pool}
use Rattle.mdb_log.specs.Opening.{pool_options}
use Rattle.mdb_log.specs.State.{generation_before}
use Rattle.mdb_laws.proofs.handed.generation_at.Goals as goal

pub returns-in-Some : goal.returns-in-Some
returns-in-Some c = λ h z.
    let d = c.in-Some.ensures.fits h c.in-Some.known.now z refl in
    let xs = of_pool c.args.pool h in
    subst (λ (o : PoolOptions). c.connection_generation.result ≡ (if is_live xs c.args.id then Some (carried o.load_balanced (generation_before xs c.args.id) (known_service xs c.args.id)) else None)) d.options (c.connection_generation.ensures xs d.fits)

pub returns-in-None : goal.returns-in-None
returns-in-None c = λ h z. sym (ap (λ b. if b then Some (carried (pool_options c.args.core.now.options).load_balanced (generation_before (of_pool c.args.pool h) c.args.id) (known_service (of_pool c.args.pool h) c.args.id)) else None) ((c.in-None.ensures.missing h z refl).live c.args.id))
