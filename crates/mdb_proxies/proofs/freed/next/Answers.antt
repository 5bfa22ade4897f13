use Rattle.mdb_proxies.proofs.Freeing.{next-nowhere}
use Rattle.mdb_proxies.proofs.freed.next.Goals as goal

pub returns-in-Nowhere : goal.returns-in-Nowhere
returns-in-Nowhere c = next-nowhere c.args.shares.now c.args.standing.now.items c.args.standing.now.items (rw c.in-Nowhere.is at c.requires)
