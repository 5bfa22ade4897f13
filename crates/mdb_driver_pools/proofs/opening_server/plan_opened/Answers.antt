use Rattle.std.proofs.Common.{sym, ◌∙◌}
use Rattle.mdb_driver_pools.proofs.Publications.OpeningStands.{fresh-opened}
use Rattle.mdb_driver_pools.proofs.Publications.PlannedOfServer.{plans-open}
use Rattle.mdb_driver_pools.proofs.opening_server.plan_opened.Goals as goal

pub returns : goal.returns
returns c =
    let s = c.new_in_driver-core.result in
    λ m pools absent.
    plans-open c.args.options.now m pools c.args.number c.args.changes.now.items c.push.new.self.items c.args.address.now s c.args.facts.now.items c.tell_opened.new.facts.items
    c.new_in_driver-core.ensures.pool (c.new_in_driver-core.ensures.address ∙ c.in_ok-copy.ensures.cases) (c.new_in_driver-core.ensures.options ∙ c.pool_options.ensures)
    (fresh-opened s c.args.number c.in_ok-copy.copy c.pool_options.result c.new_in_driver-core.ensures.pool c.new_in_driver-core.ensures.address c.new_in_driver-core.ensures.stands) (sym c.new_in_driver-core.ensures.stands.last_is) absent
    c.in_ok-push.ensures.items c.in_ok-tell_opened.ensures
