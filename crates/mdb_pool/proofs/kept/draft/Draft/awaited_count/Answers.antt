use Rattle.mdb_pool.specs.Acts.Changes.{pending_ones}
use Rattle.mdb_pool.proofs.Listed.WalksForth.{walk-shorter}
use Rattle.mdb_pool.proofs.Turns.CountUnserved.{awaited-starts, awaited-over}
use Rattle.mdb_pool.proofs.kept.draft.Draft.awaited_count.Goals as goal

pub loop-next-init : goal.loop-next-init
loop-next-init c = awaited-starts c.args.self.now _ c.first_pending-next.result c.pending_count-count.ensures c.first_pending-next.ensures

pub loop-next-smaller : goal.loop-next-smaller
loop-next-smaller c = walk-shorter (λ x. x.id) (pending_ones c.args.self.now) c.in-Some.x c.loop-next.next c.next_pending-next.result c.in-Some.is c.next_pending-next.ensures

pub returns : goal.returns
returns c = awaited-over c.args.self.now c.loop-next.count c.loop-next.next c.in_default.is c.loop-next.invariant
