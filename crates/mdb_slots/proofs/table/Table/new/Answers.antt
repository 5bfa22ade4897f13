use Rattle.std.proofs.Common.{refl}
use Rattle.mdb_slots.proofs.TableHolds.{nothing-held}
use Rattle.mdb_slots.proofs.table.Table.new.Goals as goal

pub invariant_of-result : goal.invariant_of-result
invariant_of-result g c =
    rw (c.empty.ensures.cells, c.empty.ensures.base, c.new.ensures.now, c.new.ensures.base) (nothing-held g.T.Keyed.key c.empty.result.order c.empty.ensures.used c.empty.ensures.spare, nothing-held g.T.Keyed.key _ refl refl, λ e. rw c.empty.ensures.used refl)
