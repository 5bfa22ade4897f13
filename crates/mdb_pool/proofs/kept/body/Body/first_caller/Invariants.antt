use Rattle.std.proofs.Common.{◌≡◌, not, filter, find, length}
use Rattle.std.specs.Prelude.{option_copied}
use Rattle.mdb_slots.specs.Keyed.{rest_of}
use Rattle.mdb_pool.specs.Kept.Places.{is_queued}
use Rattle.mdb_pool.proofs.kept.body.Body.first_caller.Given as goal

-- what is left of the walk decides
abbrev pub invariant-loop-next : goal.invariant-loop-next
invariant-loop-next l = find (λ q. not q.warm) (rest_of (λ q. q.number) (option_copied l.next) (filter (λ q. is_queued q.phase) l.self.requests.now)) ≡ find (λ q. not q.warm) (filter (λ q. is_queued q.phase) l.self.requests.now)

abbrev pub decreases-loop-next : goal.decreases-loop-next
decreases-loop-next l = length (rest_of (λ q. q.number) (option_copied l.next) (filter (λ q. is_queued q.phase) l.self.requests.now))
