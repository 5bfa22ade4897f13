use Rattle.mdb_laws.proofs.Spared.{stale-spares}
use Rattle.mdb_laws.proofs.errors.stale_failure_spares_the_server.Goals as goal

pub returns : goal.returns
returns c = stale-spares
