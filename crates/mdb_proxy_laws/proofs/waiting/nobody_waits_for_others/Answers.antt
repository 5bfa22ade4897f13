use Rattle.mdb_proxy_laws.proofs.NoneWaits.{reached-waits}
use Rattle.mdb_proxy_laws.proofs.waiting.nobody_waits_for_others.Goals as goal

pub returns : goal.returns
returns c = reached-waits
