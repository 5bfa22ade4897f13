use Rattle.mdb_proxies.proofs.Counts.{counted-remove}
use Rattle.mdb_proxies.proofs.standings.take_out.Goals as goal

pub returns-clause-counted : goal.returns-clause-counted
returns-clause-counted c =
    counted-remove c.args.standing.now.items _ c.args.charges.now.items _ _ c.args.at c.remove-gone.result c.requires.counted c.requires.within c.remove-gone.ensures.value c.remove-gone.ensures.items c.remove.ensures.items (rw c.as_slice.ensures.value at c.recount.ensures)
