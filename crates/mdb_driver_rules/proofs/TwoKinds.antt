-- The acts of a driver: those of one pool, and those of the topology.
use Rattle.std.proofs.Common.{◌≡◌, true, false, refl}
use Rattle.mdb_log.specs.Acts.{IsDriverAct}
use Rattle.mdb_log.specs.declared.step.Act.{Act}
use Rattle.mdb_log.specs.declared.step.Act.TheVariants as Do
use Rattle.mdb_driver_rules.specs.Acts.{is_pool_act, is_driver_act, is_topology_act}

pub topology-rest : (a : Act) → IsDriverAct a → is_pool_act a ≡ false → is_topology_act a ≡ true
topology-rest (Do.Open o) d e = absurd d
topology-rest (Do.Ready p) d e = absurd d
topology-rest (Do.Clear p service error) d e = absurd d
topology-rest (Do.Close p) d e = absurd d
topology-rest (Do.Request r a) d e = cc
topology-rest (Do.Warm r a) d e = cc
topology-rest (Do.Maintain a) d e = cc
topology-rest (Do.Expire a) d e = cc
topology-rest (Do.Collect r) d e = cc
topology-rest Do.Claim d e = cc
topology-rest (Do.GiveUp r) d e = cc
topology-rest (Do.Established q c how) d e = cc
topology-rest (Do.Return r used) d e = cc
topology-rest (Do.Pin r) d e = cc
topology-rest (Do.Replicate q c) d e = cc
topology-rest (Do.Take r q c) d e = cc
topology-rest (Do.Unpin q c) d e = cc
topology-rest _ d e = refl

-- a line that may come is one of them
pub driver-act : (a : Act) → is_driver_act a ≡ true → IsDriverAct a
driver-act (Do.Open o) e = absurd (cc)
driver-act (Do.Ready p) e = absurd (cc)
driver-act (Do.Clear p service error) e = absurd (cc)
driver-act (Do.Close p) e = absurd (cc)
driver-act _ e = tt
