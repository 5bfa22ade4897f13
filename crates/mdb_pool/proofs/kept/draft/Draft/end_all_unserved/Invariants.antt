use Rattle.std.proofs.Common.{◌≡◌, take}
use Rattle.mdb_pool.specs.Acts.Ended.{ended_all}
use Rattle.mdb_pool.specs.Kept.Values.{with_requests}
use Rattle.mdb_pool.proofs.kept.draft.Draft.end_all_unserved.Given as goal

-- those before have ended
abbrev pub invariant-loop-number : goal.invariant-loop-number
invariant-loop-number l = l.self ≡ with_requests l.initial.self (ended_all l.initial.self (take l.number-index l.numbers))
