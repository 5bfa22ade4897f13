use Rattle.std.proofs.Common.{◌≤◌, suc, length, arith}
use Rattle.mdb_intervals.proofs.Members.{has-put, apart-put, upward-put, length-put}
use Rattle.mdb_intervals.proofs.spans.Spans.insert_ready.Goals as goal

pub invariant_of-self : goal.invariant_of-self
invariant_of-self c = rw c.put.ensures.items (apart-put 0 c.args.number c.self.inside.spans.items c.self.invariant (omega arith))

pub returns-clause-has : goal.returns-clause-has
returns-clause-has c = λ n. rw (c.put.ensures.items, ← c.self.view_is) (has-put 0 c.args.number c.self.inside.spans.items n c.self.invariant)

pub returns-clause-places : goal.returns-clause-places
returns-clause-places c =
    let more : length c.put.new.spans.items ≤ suc (length c.self.inside.spans.items) = rw c.put.ensures.items (length-put c.args.number c.self.inside.spans.items) in
    rw (← c.self.view_is) (omega (arith, more))

pub returns-clause-upward : goal.returns-clause-upward
returns-clause-upward c = rw (c.put.ensures.items, ← c.self.view_is) (upward-put 0 c.args.number c.self.inside.spans.items c.self.invariant)
