use Rattle.mdb_proxies.proofs.Freeing.{only-anywhere}
use Rattle.mdb_proxies.proofs.handing.ProxyState.catch_up.Goals as goal

pub go_on-handed-requires-clause-only : goal.go_on-handed-requires-clause-only
go_on-handed-requires-clause-only g c κs within = let s = c.args.self.now in only-anywhere s.shares.items s.books.standing.items s.books.standing.items
