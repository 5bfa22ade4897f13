use Rattle.std.proofs.Common.{◌≡◌, rules, count_by, sym, ◌∙◌}
use Rattle.mdb_proxies.specs.Standings.{charged_at}
use Rattle.mdb_proxies.proofs.Counting.{charge-count}
use Rattle.mdb_proxies.proofs.books.charge.Goals as goal

pub returns : goal.returns
returns c =
    let counted : c.count.result ≡ count_by (charged_at c.args.tenant c.args.address.now) c.args.standing.now = search rules in
    counted ∙ sym (charge-count c.args.standing.now c.args.tenant c.args.address.now)
