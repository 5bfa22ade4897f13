use Rattle.std.proofs.Common.{subst}
use Rattle.mdb_topology.specs.Logging.{IsDriverOf}
use Rattle.mdb_session.proofs.session.Session.logs_are_legal.Goals as goal

pub returns-clause-driver : goal.returns-clause-driver
returns-clause-driver c = (c.self.inside.core, subst (IsDriverOf c.self.inside.core) c.self.view_is c.self.invariant.driver)
