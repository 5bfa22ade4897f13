use Rattle.std.proofs.Common.{ℕ, ◌≡◌, ◌+◌, List, true, [], map, take}
use Rattle.mdb_describe.specs.Servers.{is_listed}
use Rattle.mdb_pool.specs.Core.{PoolCore}
use Rattle.mdb_driver_pools.specs.Planned.{PlansMore}
use Rattle.mdb_driver_rules.specs.Publishing.{server_opened}
use Rattle.mdb_driver_pools.specs.Standing.{are_absent}
use Rattle.mdb_driver_pools.proofs.opening_server.plan_all_opened.Given as goal

abbrev pub invariant-loop-address : goal.invariant-loop-address
invariant-loop-address l = record {
  number_is : l.number ≡ l.count + l.address-index;
  planned : (m : ℕ) (pools : List PoolCore) → are_absent pools l.addresses ≡ true
      → PlansMore l.options m pools l.count (is_listed (take l.address-index l.addresses)) (map (server_opened l.options) (take l.address-index l.addresses)) []
      (take l.address-index l.addresses) l.initial.changes.items l.changes.items l.initial.facts.items l.facts.items;
}
