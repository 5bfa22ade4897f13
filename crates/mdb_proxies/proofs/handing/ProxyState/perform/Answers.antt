use Rattle.mdb_proxies.proofs.Order.{acts-order}
use Rattle.mdb_proxies.proofs.handing.ProxyState.perform.Goals as goal

pub returns-clause-order : goal.returns-clause-order
returns-clause-order g c =
    let s = c.args.self.now in
    let n = c.perform_act.new.self in
    acts-order c.args.moment s.shares.items s.books.asks.items n.books.asks.items s.log n.log c.args.act c.perform_act.result c.requires.sound.keeps.made c.requires.sound.keeps.single c.requires.may c.requires.order c.perform_act.ensures.ok c.perform_act.ensures.err
