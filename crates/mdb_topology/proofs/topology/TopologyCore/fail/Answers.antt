use Rattle.mdb_topology.proofs.topology.TopologyCore.fail.Goals as goal

pub returns-in_ok-with_check-in-Ok-clause-fails : goal.returns-in_ok-with_check-in-Ok-clause-fails
returns-in_ok-with_check-in-Ok-clause-fails c x of = (c.in-Ok.next, c.in-Ok.ensures.fails x of, c.in_ok-with_check-in-Ok.ensures)
