use Rattle.mdb_slots.proofs.TableHolds.{there-member, renewed, renewed-values}
use Rattle.mdb_slots.proofs.indexed_slots.IndexedSlots.renew.Goals as goal

pub renew-requires-clause-member : goal.renew-requires-clause-member
renew-requires-clause-member g c = there-member g.T.Keyed.key c.requires.holds _ c.args.slot c.requires.slot

pub returns-clause-holds : goal.returns-clause-holds
returns-clause-holds g c =
    rw c.renew.ensures.cells (renewed g.T.Keyed.key c.requires.holds _ c.args.item c.args.slot c.requires.slot c.renew.ensures.used c.renew.ensures.spare)

pub returns-clause-now : goal.returns-clause-now
returns-clause-now g c =
    rw c.renew.ensures.cells (renewed-values g.T.Keyed.key c.requires.holds c.renew.new.self.order c.args.item c.args.slot c.requires.slot c.renew.ensures.used)
