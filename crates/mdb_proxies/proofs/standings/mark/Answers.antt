use Rattle.std.proofs.Common.{refl}
use Rattle.mdb_proxies.proofs.Counts.{counted-mark}
use Rattle.mdb_proxies.proofs.standings.mark.Goals as goal

pub returns-clause-counted : goal.returns-clause-counted
returns-clause-counted c =
    let os = c.args.standing.now.items in
    counted-mark os _ c.args.charges.now.items _ c.args.at c.index_mut.result.now c.index.result.now c.requires.counted c.requires.within c.index_mut.ensures.value refl c.index.ensures (rw c.as_slice.ensures.value at c.recount.ensures)
