use Rattle.mdb_proxy_laws.proofs.Asked.{reached-asked}
use Rattle.mdb_proxy_laws.proofs.asks.entries_are_asked.Goals as goal

pub returns : goal.returns
returns c = reached-asked
