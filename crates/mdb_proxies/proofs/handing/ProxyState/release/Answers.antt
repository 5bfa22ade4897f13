use Rattle.mdb_proxies.proofs.Sounds.{caught}
use Rattle.mdb_proxies.proofs.handing.ProxyState.release.Goals as goal

pub tell-requires-clause-behind : goal.tell-requires-clause-behind
tell-requires-clause-behind g c κs within =
    let s = c.args.self.now in
    let n = c.catch_up.new.self in
    let b = c.catch_up.ensures.behind in
    rw c.catch_up.ensures.shares (caught s.behind n.behind s.shares.items s.books n.books ((rw c.catch_up.ensures.shares at b).0, (λ f. let p = b.1 f in (p.0, p.2))) c.requires.behind)
