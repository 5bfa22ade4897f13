use Rattle.std.proofs.Common.{sym, subst}
use Rattle.mdb_topology.specs.Logging.{IsDriverOf}
use Rattle.mdb_checks_mid.proofs.closed_pools.keep_host.Goals.{in-Ok, in-Err}
use Rattle.mdb_checks_mid.proofs.closed_pools.keep_host.Goals as goal

pub returns : goal.returns
returns c = elim c.match-push.branch [
  | in-Ok w ↦ subst (λ core. IsDriverOf core c.match-push.log) (sym w.core-is) (subst (IsDriverOf w.take.new.core) (sym w.log-is) w.take.ensures)
  | in-Err w ↦ subst (λ core. IsDriverOf core c.match-push.log) (sym w.core-is) (subst (IsDriverOf c.args.core.now) (sym w.log-is) c.requires.stands)
]
