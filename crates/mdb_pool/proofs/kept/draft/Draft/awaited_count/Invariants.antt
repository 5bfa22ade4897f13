use Rattle.std.proofs.Common.{◌≡◌, ◌+◌, not, is_some, length}
use Rattle.std.specs.List.{count_by}
use Rattle.mdb_slots.specs.Keyed.{rest_of}
use Rattle.mdb_pool.specs.Acts.Changes.{pending_ones}
use Rattle.mdb_pool.proofs.kept.draft.Draft.awaited_count.Given as goal

-- those of what is left that nobody has are to be taken off
abbrev pub invariant-loop-next : goal.invariant-loop-next
invariant-loop-next l = l.count ≡ count_by (λ x. is_some x.holder) (pending_ones l.self) + count_by (λ x. not (is_some x.holder)) (rest_of (λ x. x.id) l.next (pending_ones l.self))

abbrev pub decreases-loop-next : goal.decreases-loop-next
decreases-loop-next l = length (rest_of (λ x. x.id) l.next (pending_ones l.self))
