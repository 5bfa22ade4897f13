use Rattle.std.proofs.Common.{◌≡◌, [], length, map, take}
use Rattle.mdb_driver_pools.specs.Planned.{PlansMore}
use Rattle.mdb_driver_rules.specs.Publishing.{server_changed}
use Rattle.mdb_driver_rules.specs.Touching.{readies}
use Rattle.mdb_driver_pools.proofs.pools.Pools.plan_all_changed.Given as goal

abbrev pub invariant-loop-address : goal.invariant-loop-address
invariant-loop-address l = record {
  same : l.self ≡ l.initial.self;
  planned : PlansMore l.change.options.now l.change.moment l.initial.self.cores.items (length l.initial.self.cores.items) (readies l.change.later.now (take l.address-index l.addresses))
      (map (server_changed l.change.options.now l.change.moment l.change.earlier.now l.change.later.now) (take l.address-index l.addresses)) [] [] l.initial.changes.items l.changes.items l.initial.facts.items l.facts.items;
}
