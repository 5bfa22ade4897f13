use Rattle.std.proofs.Common.{◌≡◌, ◌++◌, filter, take}
use Rattle.std.specs.List.{filter_map}
use Rattle.mdb_pool.specs.Kept.Values.{request_at, unserved_in}
use Rattle.mdb_pool.specs.Acts.Changes.{off_facts}
use Rattle.mdb_pool.proofs.kept.draft.Draft.push_unserved.Given as goal

-- the ends of those before are told
abbrev pub invariant-loop-number : goal.invariant-loop-number
invariant-loop-number l = l.facts.items ≡ l.initial.facts.items ++ off_facts l.self l.moment (filter (λ q. unserved_in l.self q.phase) (filter_map (request_at l.self) (take l.number-index l.numbers)))
