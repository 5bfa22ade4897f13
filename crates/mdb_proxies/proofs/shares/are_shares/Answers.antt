use Rattle.std.proofs.Common.{sym, ◌∙◌}
use Rattle.mdb_proxies.proofs.Sounds.{shares-sum}
use Rattle.mdb_proxies.proofs.shares.are_shares.Goals as goal

pub returns : goal.returns
returns c = shares-sum c.args.shares.now c.args.max c.sum_of.result (sym c.is_few.ensures ∙ c.if-not-is_few.false) (sym c.is_some_each.ensures ∙ c.if-not-is_some_each.false) c.sum_of.ensures
