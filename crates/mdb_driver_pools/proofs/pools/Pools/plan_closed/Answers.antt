use Rattle.std.proofs.Common.{length, [], ◌∷◌}
use Rattle.std.specs.Prelude.{Result, Ok, Err, OnOk}
use Rattle.mdb_base.specs.Equality.{same_address}
use Rattle.mdb_driver_pools.specs.Acting.{closing, PlansAt}
use Rattle.mdb_driver_pools.specs.Planned.{PlansMore}
use Rattle.mdb_driver_rules.specs.Publishing.{server_closed}
use Rattle.mdb_driver_pools.specs.Standing.{at_address}
use Rattle.mdb_driver_pools.proofs.Publications.PlannedOfServer.{plans-closed}
use Rattle.mdb_driver_pools.proofs.pools.Pools.plan_closed.Goals as goal

-- what holds where it went well
on-ok : {X E : Type 0} (P Q : Type 0) → (P → Q) → (r : Result X E) → OnOk r P → OnOk r Q
on-ok P Q f (Ok x) p = f p
on-ok P Q f (Err e) p = p

pub returns-clause-planned : goal.returns-clause-planned
returns-clause-planned c =
    let o = c.args.options.now in
    let m = c.args.moment in
    let pools = c.args.self.now.cores.items in
    let a = c.args.address.now in
    let earlier = c.args.changes.now.items in
    let changes = c.plan_close.new.changes.items in
    let after = c.plan_close.new.facts.items in
    on-ok (PlansAt pools (at_address pools a) m closing earlier changes c.tell_closed.new.facts.items after)
    (PlansMore o m pools (length pools) (same_address a) (server_closed o m a ∷ []) (a ∷ []) [] earlier changes c.args.facts.now.items after)
    (plans-closed o m pools (length pools) earlier changes a c.args.facts.now.items c.tell_closed.new.facts.items after c.in_ok-tell_closed.ensures) c.plan_close.result c.plan_close.ensures.planned
