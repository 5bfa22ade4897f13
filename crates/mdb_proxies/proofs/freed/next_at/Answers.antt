use Rattle.std.proofs.Common.{◌≤◌, ◌<◌, arith}
use Rattle.mdb_proxies.specs.Shares.{share_of}
use Rattle.mdb_proxies.specs.Standings.{charge_in}
use Rattle.mdb_proxies.proofs.Freeing.{next-full, best-held, not-lt, is-lt}
use Rattle.mdb_proxies.proofs.freed.next_at.Goals as goal

pub returns-then-charge-share_of : goal.returns-then-charge-share_of
returns-then-charge-share_of c =
    let os = c.args.standing.now in
    let o = c.args.one.now in
    let p : share_of c.args.shares.now o.tenant ≤ charge_in os o.tenant o.address = omega (arith, c.if-charge-share_of.true, c.charge.ensures, c.share_of.ensures) in
    next-full c.args.shares.now os o os (not-lt (charge_in os o.tenant o.address) (share_of c.args.shares.now o.tenant) p) c.requires

pub returns : goal.returns
returns c =
    let os = c.args.standing.now in
    let o = c.args.one.now in
    let p : charge_in os o.tenant o.address < share_of c.args.shares.now o.tenant = omega (arith, c.if-charge-share_of.false, c.charge.ensures, c.share_of.ensures) in
    best-held c.args.shares.now os o c.first_held.result (is-lt (charge_in os o.tenant o.address) (share_of c.args.shares.now o.tenant) p) c.requires c.first_held.ensures
