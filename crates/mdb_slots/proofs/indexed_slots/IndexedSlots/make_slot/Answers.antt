use Rattle.std.proofs.Common.{◌≡◌, ℕ, List, length, refl, arith, ap}
use Rattle.mdb_slots.proofs.TableHolds.{widened, widened-values}
use Rattle.mdb_slots.proofs.indexed_slots.IndexedSlots.make_slot.Goals as goal

pub returns-in_err-grow-clause-holds : goal.returns-in_err-grow-clause-holds
returns-in_err-grow-clause-holds g c =
    widened g.T.Keyed.key c.requires c.args.self.now.slots.cells _ c.args.self.now.slots.order (λ k. refl) c.grow.ensures.now refl c.requires.cells_long (omega (arith, c.grow.ensures.longer, c.requires.numbers_long)) (omega arith)

pub returns-clause-holds : goal.returns-clause-holds
returns-clause-holds g c =
    let n : length c.grow-2.new.self.order.used ≡ length c.args.self.now.slots.order.used = ap (λ (us : List ℕ). length us) c.grow-2.ensures.used in
    widened g.T.Keyed.key c.requires c.grow-2.new.self.cells _ c.grow-2.new.self.order c.grow-2.ensures.cells c.grow.ensures.now c.grow-2.ensures.used c.grow-2.ensures.long (omega (arith, n, c.in_ok-grow.ensures.len, c.grow-2.ensures.bound, c.requires.numbers_long)) c.grow-2.ensures.longer

pub returns-clause-now : goal.returns-clause-now
returns-clause-now g c = rw c.grow-2.ensures.used (widened-values g.T.Keyed.key c.args.self.now.slots.cells c.grow-2.new.self.cells c.args.self.now.slots.order.used c.grow-2.ensures.cells)
