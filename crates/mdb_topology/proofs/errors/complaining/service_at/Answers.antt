use Rattle.std.proofs.Common.{sym, ◌∙◌}
use Rattle.mdb_topology.proofs.Marks.Outdated.{service-none, service-told}
use Rattle.mdb_topology.proofs.errors.complaining.service_at.Goals as goal

pub returns-in-Some : goal.returns-in-Some
returns-in-Some c balanced live = c.service_id.ensures ∙ service-told c.args.pool.now c.args.id live balanced c.in-Some.own (sym c.in-Some.is ∙ c.connection_generation.ensures)

pub returns-in-None : goal.returns-in-None
returns-in-None c balanced live = service-none c.args.pool.now c.args.id live (sym c.in-None.is ∙ c.connection_generation.ensures)
