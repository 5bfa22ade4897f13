use Rattle.mdb_proxies.proofs.Places.{told-same}
use Rattle.mdb_proxies.proofs.Sounds.{sound-told}
use Rattle.mdb_proxies.proofs.handing.ProxyState.tell.Goals as goal

pub returns-clause-sound : goal.returns-clause-sound
returns-clause-sound g c =
    let s = c.args.self.now in
    sound-told s.log s.shares.items s.books c.tell.new.self (rw c.tell.ensures.asks (told-same c.args.place s.books.asks.items)) c.tell.ensures.standing c.tell.ensures.notes c.tell.ensures.known c.requires.sound
