use Rattle.mdb_proxies.proofs.Places.{told-set}
use Rattle.mdb_proxies.proofs.books.Books.tell.Goals as goal

pub returns-clause-asks : goal.returns-clause-asks
returns-clause-asks c = told-set c.args.self.now.asks.items c.args.place c.index_mut.result.now c.index_mut.ensures.value
