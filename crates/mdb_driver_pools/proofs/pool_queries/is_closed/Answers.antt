use Rattle.std.proofs.Common.{rules, ◌∙◌, ap, sym}
use Rattle.mdb_log.specs.State.{state_of}
use Rattle.mdb_pool.specs.Now.{is_closed_name, name_of, state_now}
use Rattle.mdb_pool.proofs.Told.OfItems.{state-now}
use Rattle.mdb_pool.proofs.Told.OfQueries.{closed-named}
use Rattle.mdb_pool.proofs.Told.OfSome.{by-items}
use Rattle.mdb_driver_pools.proofs.pool_queries.is_closed.Goals as goal

pub returns-in-Closed : goal.returns-in-Closed
returns-in-Closed c =
    let s = c.args.pool.now in
    let told = by-items s c.stands.ensures c.state.result (name_of (state_now s)) (λ xs. name_of (state_of s.options xs)) c.state.ensures (λ xs z. ap name_of (state-now s xs z)) in
    rw (closed-named s ∙ ap is_closed_name (sym told)) (search rules)

pub returns-in_default : goal.returns-in_default
returns-in_default c =
    let s = c.args.pool.now in
    let told = by-items s c.stands.ensures c.state.result (name_of (state_now s)) (λ xs. name_of (state_of s.options xs)) c.state.ensures (λ xs z. ap name_of (state-now s xs z)) in
    rw (closed-named s ∙ ap is_closed_name (sym told)) (search rules)
