-- The acts of a driver: those of one pool, and those of the topology.
use Rattle.std.specs.Prelude.{Bool, true, false, ◌||◌}
use Rattle.mdb_log.specs.declared.step.Act.{Act}
use Rattle.mdb_log.specs.declared.step.Act.TheVariants as Do

-- The acts of one pool that clear none.
abbrev pub is_pool_act : Act → Bool
is_pool_act (Do.Request r a) = true
is_pool_act (Do.Warm r a) = true
is_pool_act (Do.Maintain a) = true
is_pool_act (Do.Expire a) = true
is_pool_act (Do.Collect r) = true
is_pool_act Do.Claim = true
is_pool_act (Do.GiveUp r) = true
is_pool_act (Do.Established q c how) = true
is_pool_act (Do.Return r used) = true
is_pool_act (Do.Pin r) = true
is_pool_act (Do.Replicate q c) = true
is_pool_act (Do.Take r q c) = true
is_pool_act (Do.Unpin q c) = true
is_pool_act _ = false

-- The acts of the topology.
abbrev pub is_topology_act : Act → Bool
is_topology_act (Do.Hello a p came) = true
is_topology_act (Do.Hosts hosts) = true
is_topology_act (Do.ClusterTime time) = true
is_topology_act Do.Stop = true
is_topology_act (Do.Want w) = true
is_topology_act (Do.Unwant w) = true
is_topology_act (Do.Rtt a p sample) = true
is_topology_act (Do.Beat a p) = true
is_topology_act (Do.Beaten a p duration came) = true
is_topology_act (Do.Error r error) = true
is_topology_act (Do.Failed q c at error) = true
is_topology_act _ = false

-- The acts of a driver.
abbrev pub is_driver_act : Act → Bool
is_driver_act act = is_pool_act act || is_topology_act act
