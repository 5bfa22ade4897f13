use Rattle.std.proofs.Common.{sym, ◌∙◌, append-nil}
use Rattle.mdb_driver_pools.proofs.cores.keep.Goals as goal

pub returns-then-is_spent-clause-items : goal.returns-then-is_spent-clause-items
returns-then-is_spent-clause-items c = rw (sym c.is_spent.ensures ∙ c.if-is_spent.true) (sym (append-nil c.args.living.now.items))

pub returns-clause-items : goal.returns-clause-items
returns-clause-items c = rw (sym c.is_spent.ensures ∙ c.if-is_spent.false) c.push_reserved.ensures.items
