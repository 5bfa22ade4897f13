use Rattle.std.proofs.Common.{◌≡◌, [], length, map, take}
use Rattle.mdb_describe.specs.Servers.{is_listed}
use Rattle.mdb_driver_pools.specs.Planned.{PlansMore}
use Rattle.mdb_driver_rules.specs.Publishing.{server_closed}
use Rattle.mdb_driver_pools.proofs.pools.Pools.plan_all_closed.Given as goal

abbrev pub invariant-loop-address : goal.invariant-loop-address
invariant-loop-address l = record {
  same : l.self ≡ l.initial.self;
  planned : PlansMore l.options l.moment l.initial.self.cores.items (length l.initial.self.cores.items) (is_listed (take l.address-index l.addresses))
      (map (server_closed l.options l.moment) (take l.address-index l.addresses)) (take l.address-index l.addresses) [] l.initial.changes.items l.changes.items l.initial.facts.items l.facts.items;
}
