use Rattle.std.proofs.Common.{◌≡◌, find, length}
use Rattle.std.specs.Prelude.{option_copied}
use Rattle.mdb_slots.specs.Keyed.{rest_of}
use Rattle.mdb_pool.specs.Kept.Clearing.{parts_at}
use Rattle.mdb_pool.proofs.kept.marks.told_apart.Given as goal

-- what is left of the walk decides
abbrev pub invariant-loop-next : goal.invariant-loop-next
invariant-loop-next l = find (λ x. parts_at l.a l.b x.id) (rest_of (λ x. x.id) (option_copied l.next) l.live.now) ≡ find (λ x. parts_at l.a l.b x.id) l.live.now

abbrev pub decreases-loop-next : goal.decreases-loop-next
decreases-loop-next l = length (rest_of (λ x. x.id) (option_copied l.next) l.live.now)
