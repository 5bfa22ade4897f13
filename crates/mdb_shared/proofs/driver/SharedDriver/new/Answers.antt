use Rattle.mdb_turns.proofs.Keeping.{begun}
use Rattle.mdb_shared.proofs.Sharing.{all_seats}
use Rattle.mdb_shared.proofs.driver.SharedDriver.new.Goals as goal

pub new-requires : goal.new-requires
new-requires g c = begun g.C.Core.stands _ _ c.args.core c.args.log _ _ _ c.of.ensures c.in-Ok.ensures.items (rw c.begin.ensures at c.push_reserved.ensures.items) c.requires.stands c.len.ensures

pub returns-clause-own : goal.returns-clause-own
returns-clause-own g c = all_seats _ _ _ _ c.in_ok-list.ensures.count c.in_ok-list.ensures.fresh
