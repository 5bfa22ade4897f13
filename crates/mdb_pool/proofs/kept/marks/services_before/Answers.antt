use Rattle.mdb_pool.proofs.Told.ServicesOfClears.{once-ascends, once-named}
use Rattle.mdb_pool.proofs.kept.marks.services_before.Goals as goal

pub returns-clause-ascend : goal.returns-clause-ascend
returns-clause-ascend c = once-ascends c.in_ok-services.services.items c.sort_unstable.new.self.items c.dedup.new.self.items c.sort_unstable.ensures.permutation c.sort_unstable.ensures.sorted c.dedup.ensures.filtered

pub returns-clause-members : goal.returns-clause-members
returns-clause-members c = once-named c.in_ok-services.services.items c.sort_unstable.new.self.items c.dedup.new.self.items c.sort_unstable.ensures.permutation c.sort_unstable.ensures.sorted c.dedup.ensures.filtered c.args.id c.args.marks.now c.in_ok-services.ensures
