use Rattle.std.proofs.Common.{◌≡◌, ◌∙◌, List, ap, refl, sym, subst}
use Rattle.mdb_driver_pools.specs.Standing.{PoolFits}
use Rattle.mdb_driver_rules.specs.Lines.{options_of}
use Rattle.mdb_log.specs.History.{Item, history_of}
use Rattle.mdb_log.specs.Opening.{pool_options}
use Rattle.mdb_log.specs.declared.options.PoolOptions.{PoolOptions}
use Rattle.mdb_topology.specs.Logging.{IsDriverOf}
use Rattle.mdb_topology.specs.Standing.{StandsFor}
use Rattle.mdb_session.specs.Pools.{pool_numbers_in}
use Rattle.mdb_session.proofs.Beforehand.{own_options}
use Rattle.mdb_session.proofs.session.Session.pool.Goals as goal

pub returns-in-Some-clause-some : goal.returns-in-Some-clause-some
returns-in-Some-clause-some c =
    let d : IsDriverOf c.self.inside.core c.args.self.now = subst (IsDriverOf c.self.inside.core) c.self.view_is c.self.invariant.driver in
    let h : List Item = history_of c.args.self.now in
    let stands : StandsFor c.self.inside.core h = d.stands in
    let fits : PoolFits (pool_options c.self.inside.core.options) h c.args.number c.in-Some.pool.now = c.in-Some.ensures.fits h c.in-Some.pool.now stands refl in
    let own : c.in-Some.pool.now.options ≡ pool_options (options_of c.args.self.now) = fits.options ∙ ap pool_options (sym (own_options c.self.inside.core c.args.self.now d)) in
    c.numbers_of.ensures h (c.in-Some.ensures.stands h c.in-Some.pool.now stands refl)
    ∙ ap (λ (o : PoolOptions). pool_numbers_in o h c.in-Some.pool.now.pool) own
    ∙ ap (pool_numbers_in (pool_options (options_of c.args.self.now)) h) fits.number
