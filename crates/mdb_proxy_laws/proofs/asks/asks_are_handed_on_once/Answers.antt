use Rattle.mdb_proxy_laws.proofs.Once.{reached-once}
use Rattle.mdb_proxy_laws.proofs.asks.asks_are_handed_on_once.Goals as goal

pub returns : goal.returns
returns c = reached-once
