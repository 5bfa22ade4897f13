use Rattle.std.proofs.Common.{◌≡◌, ◌++◌, length}
use Rattle.mdb_slots.specs.Keyed.{rest_of}
use Rattle.mdb_pool.specs.Acts.Changes.{shut_facts, pending_ones}
use Rattle.mdb_pool.proofs.kept.draft.Draft.push_pending.Given as goal

-- with the facts of what is left they are all
abbrev pub invariant-loop-next : goal.invariant-loop-next
invariant-loop-next l = l.facts.items ++ shut_facts l.self (rest_of (λ x. x.id) l.next (pending_ones l.self)) ≡ l.initial.facts.items ++ shut_facts l.self (pending_ones l.self)

abbrev pub decreases-loop-next : goal.decreases-loop-next
decreases-loop-next l = length (rest_of (λ x. x.id) l.next (pending_ones l.self))
