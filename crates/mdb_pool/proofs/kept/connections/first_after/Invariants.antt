use Rattle.std.proofs.Common.{◌≡◌, filter, find, length}
use Rattle.std.specs.Prelude.{nat_lt, option_copied}
use Rattle.mdb_slots.specs.Keyed.{rest_of}
use Rattle.mdb_pool.specs.Kept.Places.{is_pending}
use Rattle.mdb_pool.proofs.kept.connections.first_after.Given as goal

-- what is left of the walk decides
abbrev pub invariant-loop-next : goal.invariant-loop-next
invariant-loop-next l = find (λ x. nat_lt l.last x.id) (rest_of (λ x. x.id) (option_copied l.next) (filter (λ x. is_pending x.place) l.live.now)) ≡ find (λ x. nat_lt l.last x.id) (filter (λ x. is_pending x.place) l.live.now)

abbrev pub decreases-loop-next : goal.decreases-loop-next
decreases-loop-next l = length (rest_of (λ x. x.id) (option_copied l.next) (filter (λ x. is_pending x.place) l.live.now))
