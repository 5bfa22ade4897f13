use Rattle.std.specs.Prelude.{option_copied}
use Rattle.mdb_pool.specs.Kept.Values.{kept_requests, unserved_in}
use Rattle.mdb_pool.proofs.Listed.WalkBack.{Back, back_left}
use Rattle.mdb_pool.proofs.kept.draft.Draft.unserved_numbers.Given as goal

abbrev pub invariant-loop-next : goal.invariant-loop-next
invariant-loop-next l = Back (λ q. q.number) (λ q. unserved_in l.self q.phase) (kept_requests l.self) l.initial.missing l.missing l.numbers.items (option_copied l.next)

abbrev pub decreases-loop-next : goal.decreases-loop-next
decreases-loop-next l = back_left (λ q. q.number) (kept_requests l.self) (option_copied l.next)
