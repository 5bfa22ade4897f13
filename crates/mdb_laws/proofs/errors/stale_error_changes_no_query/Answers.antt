use Rattle.mdb_laws.proofs.Stale.{stale-without-effect}
use Rattle.mdb_laws.proofs.errors.stale_error_changes_no_query.Goals as goal

pub returns : goal.returns
returns c = stale-without-effect
