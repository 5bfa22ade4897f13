use Rattle.mdb_proxy_laws.proofs.InRuns.{run-waits}
use Rattle.mdb_proxy_laws.proofs.runs.nobody_waits_for_others_in_runs.Goals as goal

pub returns : goal.returns
returns c = run-waits
